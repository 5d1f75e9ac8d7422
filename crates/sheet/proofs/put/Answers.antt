use Rattle.std.proofs.Common.{refl}
use Rattle.sheet.proofs.Results.{copied, put_is}
use Rattle.sheet.proofs.put.Goals as goal

pub returns : goal.returns
returns c =
    put_is c.args.serial.now c.args.count.now c.requires.serial_len c.requires.count_len c.args.points.now c.args.res.now
    (copied _ _ c.copy.ensures.value c.copy.ensures.out_after) (copied _ _ c.copy-2.ensures.value c.copy-2.ensures.out_after) refl c.records.ensures
