-- What each return of a writing answers, and what it leaves in the lent buffer. Assumes nothing.
use Rattle.std.proofs.Common.{◌≡◌, ℕ, List, length, take, drop, ℤ, refl, sym, ap, ◌∙◌, w64}
use mir.Val.{SFits, to_z, of_z}
use Rattle.whole.specs.Places.{in_places}
use Rattle.whole.specs.Digits.{digits}
use Rattle.whole.proofs.Words.{of}
use Rattle.kinds.specs.Answer.{Answer, gives, refused, provided, placed, counted, lent}
use Rattle.kinds.specs.Kinds.{tested}
use Rattle.kinds.proofs.Answers.{passed, failed}
use Rattle.kinds.proofs.Writing.{Written}
use Rattle.position.specs.Text.{Coordinate, latitude, longitude, has_text, spelled, text, write}

-- ---- the text of a number
-- a latitude's text is a longitude's without the first digit
pub spelled_rest : (m b : ℕ) → take 11 (drop 1 (spelled longitude m b)) ≡ spelled latitude m b
unfolding spelled digits in_places
spelled_rest m b = refl

-- ---- by what the constructor answers
-- of a number that a signed word holds
pub told : (k : Coordinate) {x : ℤ} → SFits w64 x → {a : Answer ℤ}
    → a ≡ tested (has_text k (to_z w64 (of_z w64 x))) (to_z w64 (of_z w64 x)) → tested (has_text k x) x ≡ a
told k f e = sym (e ∙ ap (λ (x : ℤ). tested (has_text k x) x) (of {w = w64} f).reads)

module _ (k : Coordinate) (x : ℤ) (out : List ℕ) where
  pub out_of_range : {n : ℕ} → tested (has_text k x) x ≡ refused n → Written (write k x (length out)) out (refused n) out
  unfolding write
  out_of_range h =
      let f = failed (has_text k x) 3 x h in
      simp f.0 (ap refused f.1, refl)

  pub in_range : {y : ℤ} {a : Answer ℕ} {l : List ℕ} → tested (has_text k x) x ≡ gives y → (bytes : List ℕ) → bytes ≡ text k x → Written (placed bytes (length out)) out a l → Written (write k x (length out)) out a l
  unfolding write
  in_range h bytes e w =
      let p : placed bytes (length out) ≡ provided (has_text k x) 3 (placed (text k x) (length out)) = simp (e, (passed (has_text k x) 3 (gives x) h).0) in
      (w.0 ∙ ap counted p, w.1 ∙ ap (λ (a : Answer (List ℕ)). lent a out) p)
