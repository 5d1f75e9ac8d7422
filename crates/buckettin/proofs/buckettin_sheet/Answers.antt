use Rattle.std.proofs.Common.{sym, subst, length}
use mir.Syntax.{w64}
use mir.Val.{to_z, of_z}
use Rattle.buckettin.proofs.Counts.{Small, work_small}
use Rattle.buckettin.proofs.buckettin_sheet.Goals as goal

pub in_numbers-requires : goal.in_numbers-requires
in_numbers-requires c =
    subst Small (sym c.work.ensures.result_value)
    (work_small (to_z w64 (of_z w64 c.args.unit_serial)) c.args.sheet.now (length c.args.res.now))
