-- What was shown so far is the start of the list.
use Rattle.std.proofs.Common.{take}
use Rattle.test_show.specs.Shown.{ShowsEach}
use Rattle.test_show.proofs.each.Given as goal

abbrev pub invariant-loop-one : goal.invariant-loop-one
invariant-loop-one g l = ShowsEach (goal.F-post g l.fn.show) l.initial.answers (take l.one-index l.several) l.answers
