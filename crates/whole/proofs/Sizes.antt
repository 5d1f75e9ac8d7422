-- How large a number is: `nat_abs` of a sum, a difference, a product and a rounded quotient.
-- It turns a range of ℤ into a bound in ℕ, which `omega` reads. Assumes nothing.
use Rattle.std.proofs.lemmas.Int.{unsigned_abs-mul}
use mathlib.Core.Path.{◌≡◌, refl, sym, ap, ◌∙◌}
use Prim.Native.Nat.{ℕ, zero, suc, ◌+◌, ◌-◌, ◌*◌, ◌<◌, ◌≤◌}
use native.Mathlib.Nat.{mul-le-mul}
use native.Mathlib.Omega.{arith}
use lib.Dec.{ltb, ltb→lt, nltb→le}
use lib.IntN.{ℤ, pos, negsuc, neg_ℤ, nat_abs, sub_ℕ, ◌+ℤ◌, ◌-ℤ◌, ◌*ℤ◌, -ℤ-+ℤ_cancel, +ℤ_idl}
use Rattle.whole.specs.Round.{round_half_up, round_div}
use Rattle.whole.proofs.Ring.{cond_case}

pub abs_neg : (x : ℤ) → nat_abs (neg_ℤ x) ≡ nat_abs x
abs_neg (pos zero) = refl
abs_neg (pos (suc n)) = refl
abs_neg (negsuc n) = refl

-- ---- sums
-- |a - b| of two naturals
pub abs_sub : (a b m : ℕ) → a ≤ b + m → b ≤ a + m → nat_abs (sub_ℕ a b) ≤ m
abs_sub a b m h k =
    cond_case (ltb a b) (negsuc (b - suc a)) (pos (a - b)) (λ z. nat_abs z ≤ m)
    (λ t. let l : a < b = ltb→lt a b t in omega arith)
    (λ t. let l : b ≤ a = nltb→le a b t in omega arith)

pub abs-+ : (x y : ℤ) → nat_abs (x +ℤ y) ≤ nat_abs x + nat_abs y
abs-+ (pos a) (pos b) = omega arith
abs-+ (pos a) (negsuc b) = abs_sub a (suc b) (a + suc b) (omega arith) (omega arith)
abs-+ (negsuc a) (pos b) = abs_sub b (suc a) (suc a + b) (omega arith) (omega arith)
abs-+ (negsuc a) (negsuc b) = omega arith

pub abs-- : (x y : ℤ) → nat_abs (x -ℤ y) ≤ nat_abs x + nat_abs y
abs-- x y = rw (abs_neg y) at (abs-+ x (neg_ℤ y))

-- nothing lies between two numbers whose difference is none
pub abs_zero : (x y : ℤ) → nat_abs (x -ℤ y) ≡ 0 → x ≡ y
abs_zero x y h = sym (-ℤ-+ℤ_cancel x y) ∙ ap (λ (z : ℤ). z +ℤ y) (none (x -ℤ y) h) ∙ +ℤ_idl y
  where
    none : (z : ℤ) → nat_abs z ≡ 0 → z ≡ pos 0
    none (pos n) e = ap pos e
    none (negsuc n) e = absurd (omega arith)

-- two of one size are equal, or at least two apart
pub same_size : (x y : ℤ) → nat_abs x ≡ nat_abs y → nat_abs (x -ℤ y) ≤ 1 → x ≡ y
same_size (pos a) (pos b) e h = ap pos e
same_size (pos a) (negsuc b) e h = absurd (omega arith)
same_size (negsuc a) (pos zero) e h = absurd (omega arith)
same_size (negsuc a) (pos (suc b)) e h = absurd (omega arith)
same_size (negsuc a) (negsuc b) e h = ap negsuc (omega arith)

-- ---- products
pub abs-* : (x y : ℤ) → nat_abs (x *ℤ y) ≡ nat_abs x * nat_abs y
abs-* = unsigned_abs-mul

pub abs-*-≤ : (x y : ℤ) {a b : ℕ} → nat_abs x ≤ a → nat_abs y ≤ b → nat_abs (x *ℤ y) ≤ a * b
abs-*-≤ x y h k = omega (arith, abs-* x y, mul-le-mul h k)

pub abs_round : (x : ℤ) (d : ℕ) → nat_abs (round_div x d) ≡ round_half_up (nat_abs x) d
unfolding round_div
abs_round (pos n) d = refl
abs_round (negsuc n) d = abs_neg (pos (round_half_up (suc n) d))
