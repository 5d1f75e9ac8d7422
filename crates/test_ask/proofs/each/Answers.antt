-- A turn answers the next letter, and none is left where there is no turn.
use Rattle.std.proofs.Common.{[], ◌∷◌, ◌++◌, refl, arith, length-append, inl, inr, sym}
use Rattle.std.proofs.lemmas.Fn.{FoldsTo-push}
use Rattle.test_ask.proofs.Calls.{answered, none_asked}
use Rattle.test_ask.proofs.each.Goals as goal
use Rattle.test_ask.proofs.each.Goals.{else-loop-test, then-loop-test+in_ok-asked+in_default}

pub loop-init : goal.loop-init
loop-init g c = record { asked = []; count = refl; answered = refl }

pub loop-preserved : goal.loop-preserved
loop-preserved g c =
    let i = c.loop.invariant in
    let turn = answered _ _ c.loop.questions c.in_ok-asked.ensures.asked c.in-Some.is c.answer.ensures c.in_ok-answer.was in
    record {
      asked = i.asked ++ c.in-Some.asked ∷ [];
      count = omega (arith, i.count, length-append i.asked (c.in-Some.asked ∷ []));
      answered = FoldsTo-push _ _ i.asked _ c.in-Some.asked _ i.answered turn;
    }

pub returns : goal.returns
returns g c =
    let i = c.loop.invariant in
    record {
      asked = i.asked;
      last = c.loop.questions;
      answered = i.answered;
      ends = elim c.loop-test.branch [
        | else-loop-test w ↦ inr (omega (arith, i.count, w.loop-test.false, c.loop.auto.counter-end), sym w.questions-is)
        | then-loop-test+in_ok-asked+in_default w ↦ inl (none_asked g.R.Read.remaining c.loop.questions c.loop-test.questions w.in_ok-asked.ensures.asked w.in_default.is w.questions-is)
      ];
    }
