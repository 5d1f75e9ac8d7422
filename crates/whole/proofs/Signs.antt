-- A number by its sign and its size. An identity between terms of one sign is an identity of ℕ. Assumes nothing.
use mathlib.Core.Path.{◌≡◌, refl, sym, ap, ◌∙◌, subst}
use mathlib.Core.Bool.{Bool, true, false, not, cond}
use Prim.Native.Nat.{ℕ, zero, suc, ◌+◌, ◌*◌, ◌<◌}
use native.Mathlib.Nat.{zero-mul, mul-zero, div-eq_of_lt}
use native.Mathlib.Omega.{arith}
use lib.Dec.{T}
use borrow.Author.Tests.{ltb-true}
use lib.IntN.{ℤ, pos, negsuc, neg_ℤ, nat_abs, ◌+ℤ◌, ◌-ℤ◌, ◌*ℤ◌, neg_ℤ-neg_ℤ, neg_ℤ-+ℤ}
use lib.Signed.{mag, non_neg, lt_z}
use Rattle.whole.specs.Round.{round_half_up, round_div}
use Rattle.whole.specs.Sign.{with_sign}
use Rattle.whole.proofs.Ring.{ -ℤ-negℤ, negℤ-*ℤ, *ℤ-negℤ}
use Rattle.whole.proofs.Sizes.{abs_neg}

-- n, or -n
abbrev pub signed : Bool → ℕ → ℤ
signed true n = pos n
signed false n = neg_ℤ (pos n)

-- the sign of a product, by those of its factors
abbrev pub alike : Bool → Bool → Bool
alike true t = t
alike false true = false
alike false false = true

pub by_sign : (x : ℤ) → x ≡ signed (non_neg x) (nat_abs x)
by_sign (pos n) = refl
by_sign (negsuc n) = refl

-- zero has no sign
zero_signed : {n : ℕ} → n ≡ 0 → pos n ≡ signed false n
zero_signed e = ap pos e ∙ ap (signed false) (sym e)

pub signed-* : (s t : Bool) (a b : ℕ) → signed s a *ℤ signed t b ≡ signed (alike s t) (a * b)
signed-* true true a b = refl
signed-* true false a zero = zero_signed (mul-zero a)
signed-* true false a (suc b) = refl
signed-* false true zero b = zero_signed (zero-mul b)
signed-* false true (suc a) b = refl
signed-* false false zero zero = refl
signed-* false false zero (suc b) = sym (zero_signed (zero-mul (suc b)))
signed-* false false (suc a) zero = sym (zero_signed (mul-zero (suc a)))
signed-* false false (suc a) (suc b) = refl

pub signed-*-pos : (s : Bool) (a b : ℕ) → signed s a *ℤ pos b ≡ signed s (a * b)
signed-*-pos true a b = refl
signed-*-pos false a b = signed-* false true a b

-- the size of a difference of two of one sign
pub signed_apart : (s : Bool) (a b : ℕ) → nat_abs (signed s a -ℤ signed s b) ≡ nat_abs (pos a -ℤ pos b)
signed_apart true a b = refl
signed_apart false a b = ap nat_abs (-ℤ-negℤ (pos a) (pos b)) ∙ abs_neg (pos a -ℤ pos b)

half_up_zero : (d : ℕ) → round_half_up 0 d ≡ 0
half_up_zero zero = refl
half_up_zero (suc d) = div-eq_of_lt (less d)
  where
    less : (d : ℕ) → 2 * 0 + suc d < 2 * suc d
    less d = omega arith

pub signed_round : (s : Bool) (a d : ℕ) → round_div (signed s a) d ≡ signed s (round_half_up a d)
unfolding round_div
signed_round true a d = refl
signed_round false zero d = zero_signed (half_up_zero d)
signed_round false (suc a) d = refl

-- ---- a sign that is put on
pub signed_with : (below : Bool) (n : ℕ) → signed (not below) n ≡ with_sign below (pos n)
signed_with true n = refl
signed_with false n = refl

pub with_none : (below : Bool) → with_sign below (pos 0) ≡ pos 0
with_none true = refl
with_none false = refl

pub with_size : (below : Bool) (x : ℤ) → nat_abs (with_sign below x) ≡ nat_abs x
with_size true x = abs_neg x
with_size false x = refl

pub with-+ : (below : Bool) (x y : ℤ) → with_sign below (x +ℤ y) ≡ with_sign below x +ℤ with_sign below y
with-+ true x y = neg_ℤ-+ℤ x y
with-+ false x y = refl

-- on two factors: none, where it is on both
pub with-* : (a b : Bool) (x y : ℤ) → with_sign a x *ℤ with_sign b y ≡ with_sign (cond a (not b) b) (x *ℤ y)
with-* true true x y = negℤ-*ℤ x (neg_ℤ y) ∙ ap neg_ℤ (*ℤ-negℤ x y) ∙ neg_ℤ-neg_ℤ (x *ℤ y)
with-* true false x y = negℤ-*ℤ x y
with-* false true x y = *ℤ-negℤ x y
with-* false false x y = refl

-- ---- what a test of the sign says
pub below_zero : (x : ℤ) → lt_z x (pos 0) ≡ true → x ≡ negsuc (mag x)
below_zero (pos n) t = absurd (omega (arith, ltb-true n 0 t))
below_zero (negsuc n) t = refl

pub from_zero : (x : ℤ) → lt_z x (pos 0) ≡ false → x ≡ pos (mag x)
from_zero (pos n) t = refl
from_zero (negsuc n) t = absurd (subst T t tt)
