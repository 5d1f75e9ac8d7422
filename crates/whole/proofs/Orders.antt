-- The order of whole numbers: a multiple less a number keeps it, and what lies between two is no larger than the larger of
-- them. Assumes nothing.
use Prim.Native.Nat.{ℕ, ◌+◌, ◌≤◌, max}
use native.Mathlib.Nat.{le_trans, le-max_left, le-max_right, mul-le-mul_left}
use native.Mathlib.Omega.{arith}
use lib.Dec.{T, leb→le, le→leb}
use lib.IntN.{ℤ, pos, negsuc, neg_ℤ, nat_abs, ◌-ℤ◌, ◌*ℤ◌}
use lib.Signed.{le_z, ◌≤ℤ◌, le_z_yes}
use Rattle.whole.proofs.Ring.{up, down, add_is, neg_is, mul_is}

-- ---- by what lies above zero and what lies below
pub by_parts : (x y : ℤ) → T (le_z x y) → up x + down y ≤ up y + down x
by_parts (pos a) (pos b) t = omega (arith, leb→le a b t)
by_parts (pos a) (negsuc b) t = absurd t
by_parts (negsuc a) (pos b) t = omega arith
by_parts (negsuc a) (negsuc b) t = omega (arith, leb→le b a t)

pub of_parts : (x y : ℤ) → up x + down y ≤ up y + down x → T (le_z x y)
of_parts (pos a) (pos b) h = le→leb a b (omega arith)
of_parts (pos a) (negsuc b) h = absurd (omega arith)
of_parts (negsuc a) (pos b) h = tt
of_parts (negsuc a) (negsuc b) h = le→leb b a (omega arith)

pub multiple_order : (k : ℕ) (o : ℤ) {x y : ℤ} → x ≤ℤ y → (pos k *ℤ x -ℤ o) ≤ℤ (pos k *ℤ y -ℤ o)
multiple_order k o {x} {y} h =
    le_z_yes
    (of_parts (pos k *ℤ x -ℤ o) (pos k *ℤ y -ℤ o)
    (omega (
      arith,
      mul_is (pos k) x,
      mul_is (pos k) y,
      neg_is o,
      add_is (pos k *ℤ x) (neg_ℤ o),
      add_is (pos k *ℤ y) (neg_ℤ o),
      mul-le-mul_left k (by_parts x y h.le),
    )))

-- ---- between two
pub between_size : (a b x : ℤ) → a ≤ℤ x → x ≤ℤ b → nat_abs x ≤ max (nat_abs a) (nat_abs b)
between_size a (pos b) (pos x) h k = le_trans (leb→le x b k.le) (le-max_right (nat_abs a) b)
between_size a (negsuc b) (pos x) h k = absurd k.le
between_size (pos a) b (negsuc x) h k = absurd h.le
between_size (negsuc a) b (negsuc x) h k = le_trans (omega (arith, leb→le x a h.le)) (le-max_left (nat_abs (negsuc a)) (nat_abs b))
