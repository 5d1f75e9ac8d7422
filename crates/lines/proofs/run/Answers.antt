-- An output is no longer than that of as many bytes as may be taken.
use Rattle.std.proofs.Common.{arith}
use Rattle.lines.proofs.Texts.{output_short}
use Rattle.lines.proofs.run.Goals as goal

pub overflow_add-handed : goal.overflow_add-handed
overflow_add-handed g c =
    let e = c.in_ok-last.ensures.ended in
    omega (arith, c.in_ok-before.ensures.value, e.all, output_short c.args.form e.input)

pub overflow_add-handed-2 : goal.overflow_add-handed-2
overflow_add-handed-2 g c =
    let e = c.in_ok-last.ensures.ended in
    omega (arith, c.in_ok-before.ensures.value, c.in_ok-after.ensures.value, e.all, output_short c.args.form e.input)
