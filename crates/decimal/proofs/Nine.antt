-- A number of billionths with nine places: how it is written, how long it is, and that no two are alike. Assumes nothing.
use mathlib.Core.Path.{◌≡◌, refl, sym, ap, ◌∙◌}
use mathlib.Core.List.{List, [], ◌∷◌, ◌++◌}
use Prim.Native.Nat.{ℕ, suc, ◌+◌, ◌*◌, ◌/◌, ◌%◌, ◌^◌, ◌<◌, ◌≤◌}
use native.Mathlib.Nat.{div-one}
use native.Mathlib.Omega.{arith}
use lib.IntN.{ℤ, pos, negsuc, nat_abs}
use lib.ListN.{length, drop, set, length-append}
use Rattle.whole.specs.Places.{in_places}
use Rattle.whole.specs.Digits.{from_digits, digits}
use Rattle.whole.proofs.Digits.{number_of}
use Rattle.kinds.proofs.Writing.{byte_after}
use Rattle.decimal.specs.Decimal.{decimal, billion, billionths, nine_places}
use Rattle.decimal.proofs.Numbers.{unpadded_short, digits_long, at_point}
use Rattle.decimal.proofs.Apart.{stays, one_more, any_width, digits_say, signed_apart}
use Rattle.decimal.proofs.Told.{decimal_over, billionths_over, told_at}

-- ---- up to three digits
-- a number has no more digits than it needs
decimal_short_in : (w n : ℕ) → 0 < w → w ≤ 10 → n < 10 ^ w → length (decimal n) ≤ w
unfolding decimal
decimal_short_in w n some few h = omega (arith, ap length (any_width 10 w n some few h), unpadded_short (digits w n), digits_long w n)

pub three_short : (n : ℕ) → n < 1000 → length (decimal n) ≤ 3
three_short n h = decimal_short_in 3 n (omega arith) (omega arith) h

-- and which they are
pub one_digit : (n : ℕ) → n < 10 → decimal n ≡ (48 + n % 10) ∷ []
unfolding decimal digits in_places
one_digit n h = any_width 10 1 n (omega arith) (omega arith) h ∙ stays (digits 1 n) (λ e. refl) ∙ simp div-one

pub two_digits : (n : ℕ) → 10 ≤ n → n < 100 → decimal n ≡ (48 + n / 10 % 10) ∷ (48 + n % 10) ∷ []
unfolding decimal digits in_places
two_digits n low h = any_width 10 2 n (omega arith) (omega arith) h ∙ stays (digits 2 n) (λ e. absurd (omega (arith, e, low, h))) ∙ simp div-one

pub three_digits : (n : ℕ) → 100 ≤ n → n < 1000 → decimal n ≡ (48 + n / 100 % 10) ∷ (48 + n / 10 % 10) ∷ (48 + n % 10) ∷ []
unfolding decimal digits in_places
three_digits n low h = any_width 10 3 n (omega arith) (omega arith) h ∙ stays (digits 3 n) (λ e. absurd (omega (arith, e, low, h))) ∙ simp div-one

-- bytes are written to the start of d
module _ (d : List ℕ) (room : 3 ≤ length d) (a : ℕ) where
  pub one_set : set d 0 a ≡ a ∷ drop 1 d
  one_set = byte_after [] d a 0 refl (omega (arith, room))

  module _ (b : ℕ) where
    pub two_set : set (set d 0 a) 1 b ≡ a ∷ b ∷ drop 2 d
    two_set = ap (λ (l : List ℕ). set l 1 b) one_set ∙ byte_after (a ∷ []) d b 1 refl (omega (arith, room))

    pub three_set : (c : ℕ) → set (set (set d 0 a) 1 b) 2 c ≡ a ∷ b ∷ c ∷ drop 3 d
    three_set c = ap (λ (l : List ℕ). set l 2 c) two_set ∙ byte_after (a ∷ b ∷ []) d c 2 refl (omega (arith, room))

-- ---- the point and nine places after them
module _ (n : ℕ) where
  -- of the ten digits the first is a zero, over which the point is written
  pub pointed : {ten : List ℕ} → ten ≡ digits 10 (n % billion) → set ten 0 46 ≡ 46 ∷ digits 9 (n % billion)
  pointed is-ten = ap (λ (l : List ℕ). set l 0 46) (is-ten ∙ one_more 9 (n % billion) (omega arith))

  -- ten bytes
  pub places_long : {ten : List ℕ} → ten ≡ digits 10 (n % billion) → length (set ten 0 46) ≡ 10
  places_long is-ten = ap length (pointed is-ten) ∙ omega (arith, digits_long 9 (n % billion))

  pub with_places : {ten : List ℕ} → ten ≡ digits 10 (n % billion) → decimal (n / billion) ++ set ten 0 46 ≡ billionths n
  with_places is-ten = ap (λ (l : List ℕ). decimal (n / billion) ++ l) (pointed is-ten) ∙ sym (at_point n)

-- ---- how long it is
-- the digits before the point, the point and nine places
billionths_short_in : (w n : ℕ) → 0 < w → w ≤ 10 → n / billion < 10 ^ w → length (billionths n) ≤ w + 10
billionths_short_in w n some few h = omega (arith, ap length (at_point n), length-append (decimal (n / billion)) (46 ∷ digits 9 (n % billion)), decimal_short_in w (n / billion) some few h, digits_long 9 (n % billion))

pub billionths_short : (n : ℕ) → n < 1000000000000 → length (billionths n) ≤ 13
billionths_short n h = billionths_short_in 3 n (omega arith) (omega arith) (omega arith)

-- with a sign: below 1,000 degrees 14 bytes at most, and below 100 degrees 13
pub nine_short : (x : ℤ) → nat_abs x < 1000000000000 → length (nine_places x) ≤ 14
unfolding nine_places
nine_short (pos n) h = omega (arith, billionths_short n h)
nine_short (negsuc n) h = omega (arith, billionths_short (suc n) h)

pub nine_shorter : (x : ℤ) → nat_abs x < 100000000000 → length (nine_places x) ≤ 13
unfolding nine_places
nine_shorter (pos n) h = omega (arith, billionths_short_in 2 n (omega arith) (omega arith) (omega arith))
nine_shorter (negsuc n) h = omega (arith, billionths_short_in 2 (suc n) (omega arith) (omega arith) (omega arith))

-- ---- what it says
-- what stands before the point counts billions
pub places_say : (n : ℕ) → n < 1000000000000 → from_digits (decimal (n / billion)) * billion + from_digits (digits 9 (n % billion)) ≡ n
places_say n h = rw ((digits_say (n / billion) (omega arith)).1, number_of 9 (n % billion) (omega arith)) (omega arith)

same_billionths : (n m : ℕ) → n < 1000000000000 → m < 1000000000000 → billionths n ≡ billionths m → n ≡ m
same_billionths n m f g e =
    let t = told_at 47 (decimal (n / billion)) (decimal (m / billion)) (digits 9 (n % billion)) (digits 9 (m % billion)) 46 46 (decimal_over 47 (omega arith) (n / billion)) (decimal_over 47 (omega arith) (m / billion)) (omega arith) (omega arith) (sym (at_point n) ∙ e ∙ at_point m) in
    sym (places_say n f) ∙ (λ i. from_digits (t.0 i) * billion + from_digits (t.1.1 i)) ∙ places_say m g

-- two numbers below 1,000 degrees that are written alike are the same
pub nine_apart : (x y : ℤ) → nat_abs x < 1000000000000 → nat_abs y < 1000000000000 → nine_places x ≡ nine_places y → x ≡ y
unfolding nine_places
nine_apart x y f g e = signed_apart billionths 1000000000000 same_billionths (billionths_over 45 (omega arith)) x y f g e
