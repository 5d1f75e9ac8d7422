-- What is printed, and what a call of a function that prints leaves.
use Rattle.std.specs.Prelude.{◌≡◌, List, ℕ, ◌++◌, codes, decimal, Result, Ok, Err}
use Rattle.std.specs.Borrow.{MutBor}
use Rattle.std.specs.List.{FoldsTo}
use Rattle.kinds.specs.declared.Refusal.{Refusal}
use Rattle.kinds.specs.Answer.{number_of}

-- bytes as they stand
abbrev pub spaced : List ℕ → List ℕ
spaced bytes = codes " " ++ bytes

-- a refusal, by its number
abbrev pub refusal_text : ℕ → List ℕ
refusal_text n = codes " refused " ++ decimal n

-- how many bytes were written, or why none were
abbrev pub written_text : Result ℕ Refusal → List ℕ
written_text (Ok n) = codes " wrote " ++ decimal n
written_text (Err why) = refusal_text (number_of why)

-- a function that promises post, called with a `&mut` to old and with one, may give r and leave new there
pub record Shows {W T R : Type 0} (post : MutBor W → T → R → MutBor W → Type 0) (old : W) (one : T) (r : R) (new : W) : Type 0 where
  pub lent : MutBor W
  pub lends : lent.now ≡ old
  pub left : MutBor W
  pub met : post lent one r left
  pub leaves : left.now ≡ new

-- it is called with each of several in their order, is Ok each time, and leaves new in the end
abbrev pub ShowsEach : {W T E : Type 0} → (MutBor W → T → Result (Unit {0}) E → MutBor W → Type 0) → W → List T → W → Type 0
ShowsEach post old several new = FoldsTo (λ before one after. Shows post before one (Ok tt) after) old several new
