-- ℤ as a commutative ring: the laws that the kit lacks, and the form that makes a ring identity one line.
-- Assumes nothing.
--
-- A number is a difference of two naturals, `diff a b`. The rules `ring` carry sums, negations and products into one
-- difference on each side, and `diff_cong` leaves an identity of ℕ, which `omega arith` multiplies out:
--
--     f x y = rw (by-diff x, by-diff y) (simp ring (diff-cong _ _ _ _ (omega arith)))
--
-- A natural n that stands in it as `pos n` goes by `pos-diff n`, with `ring₀` for `ring`.
use mathlib.Core.Path.{◌≡◌, ap}
use mathlib.Core.Bool.{Bool, true, false, not, cond}
use Prim.Native.Nat.{ℕ, zero, suc, ◌+◌, ◌-◌, ◌*◌, ◌≤◌, ◌<◌}
use native.Mathlib.Nat.{mul-zero, zero-mul, add-zero, zero-add}
use native.Mathlib.Omega.{arith}
use lib.Dec.{T, ltb, ltb→lt, nltb→le}
use lib.IntN.{ℤ, pos, negsuc, neg_ℤ, sub_ℕ, ◌+ℤ◌, ◌-ℤ◌, ◌*ℤ◌}

-- ---- what lies above zero, and what lies below
abbrev pub up : ℤ → ℕ
up (pos n) = n
up (negsuc n) = zero

abbrev pub down : ℤ → ℕ
down (pos n) = zero
down (negsuc n) = suc n

pub same : (x y : ℤ) → up x + down y ≡ up y + down x → x ≡ y
same (pos a) (pos b) h = ap pos (omega arith)
same (pos a) (negsuc b) h = absurd (omega arith)
same (negsuc a) (pos b) h = absurd (omega arith)
same (negsuc a) (negsuc b) h = ap negsuc (omega arith)

pub cond_case : (c : Bool) (x y : ℤ) (P : ℤ → Type 0) → (T c → P x) → (T (not c) → P y) → P (cond c x y)
cond_case true x y P f g = f tt
cond_case false x y P f g = g tt

sub_is : (a b : ℕ) → up (sub_ℕ a b) + b ≡ down (sub_ℕ a b) + a
sub_is a b =
    cond_case (ltb a b) (negsuc (b - suc a)) (pos (a - b)) (λ z. up z + b ≡ down z + a)
    (λ t. let h : a < b = ltb→lt a b t in omega arith)
    (λ t. let h : b ≤ a = nltb→le a b t in omega arith)

pub add_is : (x y : ℤ) → up (x +ℤ y) + (down x + down y) ≡ down (x +ℤ y) + (up x + up y)
add_is (pos a) (pos b) = omega arith
add_is (pos a) (negsuc b) = omega (arith, sub_is a (suc b))
add_is (negsuc a) (pos b) = omega (arith, sub_is b (suc a))
add_is (negsuc a) (negsuc b) = omega arith

pub neg_is : (x : ℤ) → up (neg_ℤ x) + up x ≡ down (neg_ℤ x) + down x
neg_is (pos zero) = omega arith
neg_is (pos (suc n)) = omega arith
neg_is (negsuc n) = omega arith

pub mul_is : (x y : ℤ) → up (x *ℤ y) + (up x * down y + down x * up y) ≡ down (x *ℤ y) + (up x * up y + down x * down y)
mul_is (pos a) (pos b) = omega arith
mul_is (pos a) (negsuc b) = omega (arith, neg_is (pos (a * suc b)))
mul_is (negsuc a) (pos b) = omega (arith, neg_is (pos (suc a * b)))
mul_is (negsuc a) (negsuc b) = omega arith

-- ---- the difference form
-- a - b: shut, so that a sum of such is read as a sum
pub diff : ℕ → ℕ → ℤ
diff a b = sub_ℕ a b

diff_is : (a b : ℕ) → up (diff a b) + b ≡ down (diff a b) + a
unfolding diff
diff_is a b = sub_is a b

pub by_diff : (x : ℤ) → x ≡ diff (up x) (down x)
by_diff x = same _ _ (omega (arith, diff_is (up x) (down x)))

pub pos_diff : (n : ℕ) → pos n ≡ diff n zero
pos_diff n = same _ _ (omega (arith, diff_is n zero))

pub diff_cong : (a b c d : ℕ) → a + d ≡ c + b → diff a b ≡ diff c d
diff_cong a b c d h = same _ _ (omega (arith, diff_is a b, diff_is c d))

pub diff_add : (a b c d : ℕ) → diff a b +ℤ diff c d ≡ diff (a + c) (b + d)
diff_add a b c d =
    same _ _ (omega (arith, diff_is a b, diff_is c d, diff_is (a + c) (b + d), add_is (diff a b) (diff c d)))

pub diff_neg : (a b : ℕ) → neg_ℤ (diff a b) ≡ diff b a
diff_neg a b = same _ _ (omega (arith, diff_is a b, diff_is b a, neg_is (diff a b)))

pub diff_mul : (a b c d : ℕ) → diff a b *ℤ diff c d ≡ diff (a * c + b * d) (a * d + b * c)
diff_mul a b c d =
    same _ _
    (omega (
      arith,
      diff_is (a * c + b * d) (a * d + b * c),
      mul_is (diff a b) (diff c d),
      times (up (diff a b)) (down (diff a b)) (up (diff c d)) (down (diff c d)) (diff_is a b) (diff_is c d),
    ))
  where
    -- (p - q) * (r - s) is (a - b) * (c - d)
    times : (p q r s : ℕ) → p + b ≡ q + a → r + d ≡ s + c → p * r + q * s + (a * d + b * c) ≡ p * s + q * r + (a * c + b * d)
    times p q r s h k =
        omega (arith, ap (λ (n : ℕ). n * r) h, ap (λ (n : ℕ). n * s) h, ap (λ (n : ℕ). b * n) k, ap (λ (n : ℕ). a * n) k)

pub ruleset ring = (diff_add, diff_neg, diff_mul)

pub ruleset ring₀ = (ring, mul-zero, zero-mul, add-zero, zero-add)

-- ---- the laws
pub pos_sub : (a b : ℕ) → pos a -ℤ pos b ≡ sub_ℕ a b
pos_sub a b = same _ _ (omega (arith, add_is (pos a) (neg_ℤ (pos b)), neg_is (pos b), sub_is a b))

pub *ℤ--ℤ : (x y z : ℤ) → x *ℤ (y -ℤ z) ≡ x *ℤ y -ℤ x *ℤ z
*ℤ--ℤ x y z = rw (by_diff x, by_diff y, by_diff z) (simp ring (diff_cong _ _ _ _ (omega arith)))

pub -ℤ-*ℤ : (x y z : ℤ) → (x -ℤ y) *ℤ z ≡ x *ℤ z -ℤ y *ℤ z
-ℤ-*ℤ x y z = rw (by_diff x, by_diff y, by_diff z) (simp ring (diff_cong _ _ _ _ (omega arith)))

pub negℤ-*ℤ : (x y : ℤ) → neg_ℤ x *ℤ y ≡ neg_ℤ (x *ℤ y)
negℤ-*ℤ x y = rw (by_diff x, by_diff y) (simp ring (diff_cong _ _ _ _ (omega arith)))

pub *ℤ-negℤ : (x y : ℤ) → x *ℤ neg_ℤ y ≡ neg_ℤ (x *ℤ y)
*ℤ-negℤ x y = rw (by_diff x, by_diff y) (simp ring (diff_cong _ _ _ _ (omega arith)))

pub one-*ℤ : (x : ℤ) → pos 1 *ℤ x ≡ x
one-*ℤ x = rw (by_diff x, pos_diff 1) (simp ring₀ (diff_cong _ _ _ _ (omega arith)))

pub -ℤ-negℤ : (x y : ℤ) → neg_ℤ x -ℤ neg_ℤ y ≡ neg_ℤ (x -ℤ y)
-ℤ-negℤ x y = rw (by_diff x, by_diff y) (simp ring (diff_cong _ _ _ _ (omega arith)))
