-- Each letter that was read was answered.
use Rattle.std.proofs.Common.{◌≡◌, List, ℕ, length}
use Rattle.std.specs.List.{FoldsTo}
use Rattle.test_ask.specs.Asked.{Answers}
use Rattle.test_ask.proofs.each.Given as goal

abbrev pub invariant-loop : goal.invariant-loop
invariant-loop g l = record {
  asked : List ℕ;
  count : length asked ≡ l.counter;
  answered : FoldsTo (Answers g.R.Read.remaining (goal.F-post g l.fn.answer)) (l.initial.questions, l.initial.answers) asked (l.questions, l.answers);
}
