-- A question that is answered, by a call of a function that answers; and that none is asked.
use Rattle.std.proofs.Common.{◌≡◌, ℕ, List, refl, subst, MutBor, Option, Some, None, Result, Ok, sym}
use Rattle.test_ask.specs.Asked.{IsAsked, Answers}

module _ {R W E : Type 0} (remaining : R → Option (List ℕ)) (post : MutBor R → MutBor W → ℕ → Result (Unit {0}) E → MutBor R → MutBor W → Type 0) where
  pub answered : (before : R) {letter : Option ℕ} {asked : ℕ} {r : Result (Unit {0}) E} {questions questions' : MutBor R} {answers answers' : MutBor W}
      → IsAsked (remaining before) (remaining questions.now) letter → letter ≡ Some asked → post questions answers asked r questions' answers' → r ≡ Ok tt
      → Answers remaining post (before, answers.now) asked (questions'.now, answers'.now)
  answered before {asked = asked} {questions = questions} {questions' = questions'} {answers = answers} {answers' = answers'} read is met ok = record {
    questions = questions;
    answers = answers;
    read = subst (IsAsked (remaining before) (remaining questions.now)) is read;
    writes = refl;
    questions' = questions';
    answers' = answers';
    met = subst (λ r. post questions answers asked r questions' answers') ok met;
    leaves = (refl, refl);
  }

pub none_asked : {R : Type 0} (remaining : R → Option (List ℕ)) (before last : R) {left : R} {letter : Option ℕ}
    → IsAsked (remaining before) (remaining left) letter → letter ≡ None → last ≡ left → IsAsked (remaining before) (remaining last) None
none_asked remaining before last {left = left} read none is =
    subst (λ r. IsAsked (remaining before) (remaining r) None) (sym is) (subst (IsAsked (remaining before) (remaining left)) none read)
