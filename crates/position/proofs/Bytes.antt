-- A text by its bytes, as the code reads them; and a longitude's text as a digit and a text of a latitude's form.
-- Assumes nothing.
use Rattle.std.proofs.Common.{◌≡◌, ℕ, zero, suc, ◌+◌, ◌*◌, ◌^◌, ◌≤◌, ◌&&◌, List, [], ◌∷◌, length, take, sym, refl, ap, ◌∙◌, subst, arith, length-take-le}
use mathlib.Core.Bool.{and_assoc}
use lib.ListN.{length-map}
use Rattle.whole.specs.Places.{from_places}
use Rattle.whole.specs.Digits.{is_digit, digit_of, all_digits, from_digits}
use Rattle.kinds.specs.Bytes.{part}
use Rattle.kinds.proofs.Bytes.{at, part_next, part_two}
use Rattle.position.specs.Text.{latitude, longitude, is_angle, in_sixties, angle}

-- ---- a list, byte by byte
-- f 0, f 1 and so on
abbrev spell : ℕ → (ℕ → ℕ) → List ℕ
spell zero f = []
spell (suc n) f = f 0 ∷ spell n (λ i. f (suc i))

spelt : (n : ℕ) (t : List ℕ) → length t ≡ n → t ≡ spell n (at t)
spelt zero [] h = refl
spelt zero (b ∷ t) h = absurd (omega arith)
spelt (suc n) [] h = absurd (omega arith)
spelt (suc n) (b ∷ t) h = ap (λ (l : List ℕ). b ∷ l) (spelt n t (omega arith))

-- what holds of every list that is spelled out holds of one of that length
pub by_bytes : (n : ℕ) (P : List ℕ → Type 0) → ((f : ℕ → ℕ) → P (spell n f)) → (t : List ℕ) → length t ≡ n → P t
by_bytes n P p t h = subst P (sym (spelt n t h)) (p (at t))

-- ---- two digits, as the code reads them
pub two_number : (from : ℕ) (t : List ℕ) → from + 2 ≤ length t → from_digits (part from 2 t) ≡ digit_of (at t from) * 10 + digit_of (at t (from + 1))
unfolding from_digits from_places
two_number from t h = ap from_digits (part_two from t h) ∙ omega arith

-- three, as a digit and two more
number_next : (b : ℕ) (t : List ℕ) → length t ≡ 2 → from_digits (b ∷ t) ≡ digit_of b * 100 + from_digits t
unfolding from_digits from_places
number_next b t h = ap (λ (n : ℕ). digit_of b * 10 ^ n + from_digits t) (length-map t digit_of ∙ h)

pub three_number : (from : ℕ) (t : List ℕ) → from + 3 ≤ length t → from_digits (part from 3 t) ≡ digit_of (at t from) * 100 + from_digits (part (suc from) 2 t)
three_number from t h = ap from_digits (part_next from 2 t (omega arith)) ∙ number_next (at t from) (part (suc from) 2 t) (ap length (part_two (suc from) t (omega arith)))

-- ---- a longitude's text: a digit, and a text of a latitude's form
module _ (b : ℕ) (t : List ℕ) where
  pub longitude_is_angle : (is_digit b && is_angle latitude t) ≡ is_angle longitude (b ∷ t)
  unfolding is_angle all_digits
  longitude_is_angle = simp and_assoc

  pub longitude_in_sixties : in_sixties latitude t ≡ in_sixties longitude (b ∷ t)
  unfolding in_sixties
  longitude_in_sixties = refl

  pub longitude_angle : length t ≡ 11 → digit_of b * 360000000 + angle latitude t ≡ angle longitude (b ∷ t)
  unfolding angle
  longitude_angle h = simp (number_next b (take 2 t) (length-take-le 2 t (omega arith))) (omega arith)
