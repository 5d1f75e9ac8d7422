-- Digits: as bytes, and back. A number in so many digits, and the number that digits say, by the laws of places at base 10.
-- Assumes nothing.
use mathlib.Core.Path.{◌≡◌, refl, sym, ap, ◌∙◌, subst}
use mathlib.Core.Bool.{Bool, true}
use mathlib.Core.List.{List, [], ◌∷◌, map}
use Prim.Native.Nat.{ℕ, ◌<◌, ◌≤◌, ◌^◌}
use native.Mathlib.Omega.{arith}
use lib.Dec.{leb, ltb}
use lib.ListN.{length, length-map}
use borrow.Author.Tests.{le-leb, leb-true, lt-ltb, ltb-true}
use Rattle.whole.specs.Every.{every}
use Rattle.whole.specs.Places.{in_places}
use Rattle.whole.specs.Digits.{is_digit, digit_of, byte_of, all_digits, from_digits, digits}
use Rattle.whole.proofs.Bools.{both, joined}
use Rattle.whole.proofs.Places as places

-- ---- one digit, as a byte and back
abbrev below_ten : ℕ → Bool
below_ten d = ltb d 10

digit_of_lem : (d : ℕ) → digit_of (byte_of d) ≡ d
unfolding digit_of
digit_of_lem d = omega arith

is_digit_lem : (d : ℕ) → below_ten d ≡ true → is_digit (byte_of d) ≡ true
is_digit_lem d h =
    let u = ltb-true d 10 h in
    joined (le-leb 48 (byte_of d) (omega arith)) (le-leb (byte_of d) 57 (omega arith))

pub digit_limits : (b : ℕ) → is_digit b ≡ true → (48 ≤ b) × (b ≤ 57)
digit_limits b h =
    let p = both (leb 48 b) (leb b 57) h in
    (leb-true 48 b p.0, leb-true b 57 p.1)

digit_back : (b : ℕ) → is_digit b ≡ true → (below_ten (digit_of b) ≡ true) × (byte_of (digit_of b) ≡ b)
unfolding digit_of
digit_back b h =
    let l = digit_limits b h in
    (lt-ltb (digit_of b) 10 (omega (arith, l.0, l.1)), omega (arith, l.0, l.1))

-- ---- a list of them
digits_there : (s : List ℕ) → map digit_of (map byte_of s) ≡ s
digits_there [] = refl
digits_there (d ∷ s) = λ i. digit_of_lem d i ∷ digits_there s i

are_digits : (s : List ℕ) → every below_ten s ≡ true → all_digits (map byte_of s) ≡ true
unfolding all_digits
are_digits [] h = refl
are_digits (d ∷ s) h =
    let p = both (below_ten d) (every below_ten s) h in
    joined (is_digit_lem d p.0) (are_digits s p.1)

digits_back : (s : List ℕ) → all_digits s ≡ true → (every below_ten (map digit_of s) ≡ true) × (map byte_of (map digit_of s) ≡ s)
unfolding all_digits
digits_back [] h = (refl, refl)
digits_back (b ∷ s) h =
    let p = both (is_digit b) (all_digits s) h in
    let one = digit_back b p.0 in
    let rest = digits_back s p.1 in
    (joined one.0 rest.0, λ i. one.1 i ∷ rest.1 i)

-- ---- a number in digits
pub all_digits_lem : (w n : ℕ) → all_digits (digits w n) ≡ true
unfolding digits
all_digits_lem w n = are_digits (in_places 10 w n) (places.places_below 10 (omega arith) w n)

-- its digits say it
pub number_of : (w n : ℕ) → n < 10 ^ w → from_digits (digits w n) ≡ n
unfolding digits from_digits
number_of w n h = rw (digits_there (in_places 10 w n)) (places.from_in_places 10 (omega arith) w n h)

-- ---- the number that digits say
pub number_below : (s : List ℕ) → all_digits s ≡ true → from_digits s < 10 ^ length s
unfolding from_digits
number_below s h = subst (λ (w : ℕ). from_digits s < 10 ^ w) (length-map s digit_of) (places.from_below 10 (omega arith) (map digit_of s) (digits_back s h).0)

-- said in as many digits, it is these digits
pub digits_of : (s : List ℕ) → all_digits s ≡ true → digits (length s) (from_digits s) ≡ s
unfolding digits from_digits
digits_of s h =
    let b = digits_back s h in
    ap (λ (w : ℕ). digits w (from_digits s)) (sym (length-map s digit_of))
    ∙ ap (map byte_of) (places.in_from_places 10 (omega arith) (map digit_of s) b.0)
    ∙ b.1
