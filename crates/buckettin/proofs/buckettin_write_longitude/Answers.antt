use Rattle.std.proofs.Common.{sym, subst}
use Rattle.position.specs.Text.{longitude}
use Rattle.buckettin.proofs.Counts.{Small, write_small}
use Rattle.buckettin.proofs.buckettin_write_longitude.Goals as goal

pub in_numbers-requires : goal.in_numbers-requires
in_numbers-requires c = subst Small (sym c.write_longitude.ensures.result_value) (write_small longitude _ _)
