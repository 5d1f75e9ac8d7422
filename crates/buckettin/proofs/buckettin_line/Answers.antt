use Rattle.std.proofs.Common.{sym, subst, length}
use Rattle.buckettin.proofs.Counts.{Small, line_small}
use Rattle.buckettin.proofs.buckettin_line.Goals as goal

pub in_numbers-requires : goal.in_numbers-requires
in_numbers-requires c =
    subst Small (sym c.line.ensures.result_value) (line_small c.args.line.now (length c.args.out.now))
