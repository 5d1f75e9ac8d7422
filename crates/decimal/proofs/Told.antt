-- Numbers that stand one after the other are told apart: every byte of a number lies above a space and a line feed. Assumes nothing.
use mathlib.Core.Path.{◌≡◌, refl, ap, ◌∙◌}
use mathlib.Core.Bool.{Bool, true}
use mathlib.Core.List.{List, [], ◌∷◌, ◌++◌}
use Prim.Native.Nat.{ℕ, suc, ◌<◌, ◌≤◌, ◌/◌, ◌%◌}
use native.Mathlib.Omega.{arith}
use lib.Dec.{ltb}
use lib.IntN.{ℤ, pos, negsuc}
use borrow.Author.Tests.{lt-ltb, ltb-true}
use Rattle.whole.specs.Every.{every}
use Rattle.whole.specs.Digits.{is_digit, all_digits, digits}
use Rattle.whole.proofs.Bools.{both, joined}
use Rattle.whole.proofs.Every.{every_joined, every_weaker}
use Rattle.whole.proofs.Digits.{digit_limits, all_digits_lem}
use Rattle.decimal.specs.Decimal.{decimal, minus_first, printed_number, billion, billionths, nine_places}
use Rattle.decimal.proofs.Numbers.{unpadded_every, at_point}

-- ---- every byte of a size lies above k, which is below the digits
digits_over : (k : ℕ) → k < 48 → (w n : ℕ) → every (ltb k) (digits w n) ≡ true
unfolding all_digits
digits_over k low w n = every_weaker is_digit (ltb k) (λ b h. lt-ltb k b (omega (arith, low, (digit_limits b h).0))) (digits w n) (all_digits_lem w n)

pub decimal_over : (k : ℕ) → k < 48 → (n : ℕ) → every (ltb k) (decimal n) ≡ true
unfolding decimal
decimal_over k low n = unpadded_every (ltb k) (digits 10 n) (digits_over k low 10 n)

-- and below a point
pub billionths_over : (k : ℕ) → k < 46 → (n : ℕ) → every (ltb k) (billionths n) ≡ true
billionths_over k low n =
    ap (every (ltb k)) (at_point n)
    ∙ every_joined (ltb k) (decimal (n / billion)) (46 ∷ digits 9 (n % billion)) (decimal_over k (omega (arith, low)) (n / billion)) (joined (lt-ltb k 46 low) (digits_over k (omega (arith, low)) 9 (n % billion)))

-- ---- a space and a line feed are below the bytes of a number
abbrev pub above : ℕ → Bool
above byte = ltb 44 byte

with_sign_lem : (text : ℕ → List ℕ) → ((n : ℕ) → every above (text n) ≡ true) → (x : ℤ) → every above (minus_first text x) ≡ true
with_sign_lem text all (pos n) = all n
with_sign_lem text all (negsuc n) = all (suc n)

-- of a 4-byte number as it is printed
pub number_above : (x : ℤ) → every above (printed_number x) ≡ true
unfolding printed_number
number_above x = with_sign_lem decimal (decimal_over 44 (omega arith)) x

-- and of one with nine places
pub nine_above : (x : ℤ) → every above (nine_places x) ≡ true
unfolding nine_places
nine_above x = with_sign_lem billionths (billionths_over 44 (omega arith)) x

-- ---- so what stands before the first byte up to k, which it is, and what follows are told
pub told_at : (k : ℕ) (x y r t : List ℕ) (s z : ℕ) → every (ltb k) x ≡ true → every (ltb k) y ≡ true → s ≤ k → z ≤ k → x ++ (s ∷ r) ≡ y ++ (z ∷ t) → (x ≡ y) × ((s ≡ z) × (r ≡ t))
told_at k [] [] r t s z hx hy hs hz e = (refl, (cc, cc))
told_at k [] (b ∷ y) r t s z hx hy hs hz e =
    let same : s ≡ b = cc in
    let high = ltb-true k b (both (ltb k b) (every (ltb k) y) hy).0 in
    absurd (omega (arith, same, high, hs))
told_at k (a ∷ x) [] r t s z hx hy hs hz e =
    let same : a ≡ z = cc in
    let high = ltb-true k a (both (ltb k a) (every (ltb k) x) hx).0 in
    absurd (omega (arith, same, high, hz))
told_at k (a ∷ x) (b ∷ y) r t s z hx hy hs hz e =
    let head : a ≡ b = cc in
    let rest = told_at k x y r t s z (both (ltb k a) (every (ltb k) x) hx).1 (both (ltb k b) (every (ltb k) y) hy).1 hs hz cc in
    ((λ i. head i ∷ rest.0 i), rest.1)

-- at a space or a line feed
pub told : (x y r t : List ℕ) (s z : ℕ) → every above x ≡ true → every above y ≡ true → s ≤ 44 → z ≤ 44 → x ++ (s ∷ r) ≡ y ++ (z ∷ t) → (x ≡ y) × ((s ≡ z) × (r ≡ t))
told x y r t s z hx hy hs hz e = told_at 44 x y r t s z hx hy hs hz e
