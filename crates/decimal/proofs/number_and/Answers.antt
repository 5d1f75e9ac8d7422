use Rattle.std.proofs.Common.{arith}
use mir.Syntax.{w32}
use Rattle.whole.proofs.Words.{of}
use Rattle.decimal.proofs.Numbers.{printed_short, followed}
use Rattle.decimal.proofs.number_and.Goals as goal

pub bounds-line-at : goal.bounds-line-at
bounds-line-at c = omega (arith, printed_short)

pub returns-clause-line_after : goal.returns-clause-line_after
returns-clause-line_after c =
    let p = c.signed-at in
    (followed (of {w = w32} c.ranges.n).reads c.args.line.now _ p.result c.args.next c.requires p.ensures.value p.ensures.line_after).1
