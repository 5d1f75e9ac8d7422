-- What is printed says the number, and no other text of up to ten digits does so without leading zeros. Assumes nothing.
use mathlib.Core.Path.{◌≡◌, refl, sym, ap, ◌∙◌}
use mathlib.Core.Bool.{true, false≢true}
use mathlib.Core.List.{List, [], ◌∷◌}
use mathlib.Core.Logic.{⊎_elim}
use Prim.Native.Nat.{ℕ, zero, suc, ◌%◌, ◌^◌, ◌<◌, ◌≤◌}
use native.Mathlib.Nat.{pow-le-pow_right, div-eq_of_lt, eq-or-lt_of_le}
use native.Mathlib.Omega.{arith}
use lib.Dec.{eqb, ltb}
use lib.IntN.{ℤ, pos, negsuc, nat_abs}
use lib.ListN.{length, get_or}
use borrow.Author.Tests.{eqb-true, eqb-false}
use Rattle.whole.specs.Every.{every}
use Rattle.whole.specs.Places.{from_places, in_places}
use Rattle.whole.specs.Digits.{is_digit, digit_of, byte_of, all_digits, from_digits, digits}
use Rattle.whole.proofs.Bools.{by_test}
use Rattle.whole.proofs.Words.{sized}
use Rattle.whole.proofs.Digits.{all_digits_lem, number_of, number_below, digits_of}
use Rattle.kinds.specs.Kinds.{is_four_bytes}
use Rattle.kinds.proofs.Tested.{of_four_bytes}
use Rattle.decimal.specs.Decimal.{unpadded, decimal, minus_first, printed_number}
use Rattle.decimal.proofs.Numbers.{zero_goes, first_stays, unpadded_every, digits_long}
use Rattle.decimal.proofs.Told.{decimal_over}

-- ---- without leading zeros it says the same
zero_says : (l : List ℕ) → from_digits (48 ∷ l) ≡ from_digits l
unfolding from_digits from_places digit_of
zero_says l = omega arith

unpadded_says : (l : List ℕ) → from_digits (unpadded l) ≡ from_digits l
unfolding unpadded
unpadded_says [] = refl
unpadded_says (b ∷ []) = refl
unpadded_says (b ∷ next ∷ rest) =
    by_test (eqb b 48)
    (λ t. simp t (unpadded_says (next ∷ rest) ∙ sym (zero_says (next ∷ rest)) ∙ ap (λ (x : ℕ). from_digits (x ∷ next ∷ rest)) (sym (eqb-true b 48 t))))
    (λ t. simp t refl)

pub all_decimal : (n : ℕ) → all_digits (decimal n) ≡ true
unfolding decimal all_digits
all_decimal n = unpadded_every is_digit (digits 10 n) (all_digits_lem 10 n)

pub digits_say : (n : ℕ) → n < 10 ^ 10 → (all_digits (decimal n) ≡ true) × (from_digits (decimal n) ≡ n)
unfolding decimal
digits_say n h = (all_decimal n, unpadded_says (digits 10 n) ∙ number_of 10 n h)

-- ---- and it has none
no_zero : (l : List ℕ) → 0 < length l → (0 < length (unpadded l)) × (get_or (unpadded l) 0 0 ≡ 48 → length (unpadded l) ≡ 1)
unfolding unpadded
no_zero [] h = absurd (omega arith)
no_zero (b ∷ []) h = (omega arith, λ e. refl)
no_zero (b ∷ next ∷ rest) h =
    by_test (eqb b 48)
    (λ t. simp t (no_zero (next ∷ rest) (omega arith)))
    (λ t. simp t (omega arith, λ z. absurd (eqb-false b 48 t z)))

pub no_leading_zero : (n : ℕ) → (0 < length (decimal n)) × (get_or (decimal n) 0 0 ≡ 48 → length (decimal n) ≡ 1)
unfolding decimal
no_leading_zero n = no_zero (digits 10 n) (omega (arith, digits_long 10 n))

-- ---- no other text does
pub stays : (t : List ℕ) → (get_or t 0 0 ≡ 48 → length t ≡ 1) → unpadded t ≡ t
unfolding unpadded
stays [] h = refl
stays (b ∷ []) h = refl
stays (b ∷ next ∷ rest) h = first_stays b (next ∷ rest) (λ e. omega (arith, h e))

-- one more digit than a number needs is a zero
pub one_more : (w n : ℕ) → n < 10 ^ w → digits (suc w) n ≡ 48 ∷ digits w n
unfolding digits in_places
one_more w n h = ap (λ (q : ℕ). byte_of (q % 10) ∷ digits w n) (div-eq_of_lt h)

-- so it makes no difference in how many it was written
pub any_width : (v w n : ℕ) → 0 < w → w ≤ v → n < 10 ^ w → unpadded (digits v n) ≡ unpadded (digits w n)
any_width zero w n some more h = absurd (omega arith)
any_width (suc v) w n some more h =
    ⊎_elim
    (λ e. ap (λ (k : ℕ). unpadded (digits k n)) (sym e))
    (λ less.
    let up = pow-le-pow_right {n = 10} (omega arith) {i = w} {j = v} (omega arith) in
    ap unpadded (one_more v n (omega arith)) ∙ zero_goes (digits v n) (omega (arith, digits_long v n)) ∙ any_width v w n some (omega arith) h)
    (eq-or-lt_of_le more)

pub one_text : (t : List ℕ) → all_digits t ≡ true → 0 < length t → length t ≤ 10 → (get_or t 0 0 ≡ 48 → length t ≡ 1) → decimal (from_digits t) ≡ t
unfolding decimal
one_text t all some few first =
    any_width 10 (length t) (from_digits t) some few (number_below t all)
    ∙ ap unpadded (digits_of t all)
    ∙ stays t first

-- ---- two numbers are printed alike where they are one
few_digits : (x : ℤ) → is_four_bytes x ≡ true → nat_abs x < 10 ^ 10
few_digits x h = omega (arith, sized x (of_four_bytes x h))

same_digits : (n m : ℕ) → n < 10 ^ 10 → m < 10 ^ 10 → decimal n ≡ decimal m → n ≡ m
same_digits n m h k e = sym (digits_say n h).1 ∙ ap from_digits e ∙ (digits_say m k).1

-- of sizes whose texts are alike only where they are one, and have no minus sign: such are the numbers too
module _ (text : ℕ → List ℕ) (limit : ℕ) (same : (n m : ℕ) → n < limit → m < limit → text n ≡ text m → n ≡ m) (no_minus : (n : ℕ) → every (ltb 45) (text n) ≡ true) where
  no_sign : (n : ℕ) (d : List ℕ) → text n ≡ 45 ∷ d → ⊥
  no_sign n d e = false≢true (sym (ap (every (ltb 45)) e) ∙ no_minus n)

  pub signed_apart : (x y : ℤ) → nat_abs x < limit → nat_abs y < limit → minus_first text x ≡ minus_first text y → x ≡ y
  signed_apart (pos n) (pos m) f g e = ap pos (same n m f g e)
  signed_apart (pos n) (negsuc m) f g e = absurd (no_sign n (text (suc m)) e)
  signed_apart (negsuc n) (pos m) f g e = absurd (no_sign m (text (suc n)) (sym e))
  signed_apart (negsuc n) (negsuc m) f g e =
      let one : suc n ≡ suc m = same (suc n) (suc m) f g cc in
      ap negsuc (omega (arith, one))

pub printed_apart : (x y : ℤ) → is_four_bytes x ≡ true → is_four_bytes y ≡ true → printed_number x ≡ printed_number y → x ≡ y
unfolding printed_number
printed_apart x y f g e = signed_apart decimal (10 ^ 10) same_digits (decimal_over 45 (omega arith)) x y (few_digits x f) (few_digits y g) e
