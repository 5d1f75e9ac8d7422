-- What a local position and its shift are converted to: between which numbers it lies. Assumes nothing.
use mathlib.Core.Path.{◌≡◌, sym, subst}
use mathlib.Core.Bool.{true}
use native.Mathlib.Omega.{arith}
use lib.Dec.{T}
use lib.IntN.{ℤ, pos, neg_ℤ, ◌*ℤ◌}
use lib.Signed.{le_z}
use Rattle.whole.proofs.Bools.{both, joined, computed}
use Rattle.whole.proofs.Orders.{by_parts, of_parts}
use Rattle.whole.proofs.Ring.{add_is, mul_is}
use Rattle.kinds.specs.Kinds.{within, is_four_bytes, converted}
use Rattle.kinds.proofs.Ranges.{in_turn}

-- ---- the order
pub converted_order : (x y s t : ℤ) → le_z x y ≡ true → le_z s t ≡ true → le_z (converted x s) (converted y t) ≡ true
converted_order x y s t h k =
    computed _
    (of_parts (converted x s) (converted y t)
    (omega (
      arith,
      mul_is (pos 100) x,
      mul_is (pos 100) y,
      add_is (pos 100 *ℤ x) s,
      add_is (pos 100 *ℤ y) t,
      by_parts x y (subst T (sym h) tt),
      by_parts s t (subst T (sym k) tt),
    )))

-- a position between two, whatever 4 bytes its shift is
pub converted_within : (a b c d : ℤ) → le_z c (converted a (neg_ℤ (pos 2147483648))) ≡ true → le_z (converted b (pos 2147483647)) d ≡ true
    → (x s : ℤ) → within a b x ≡ true → is_four_bytes s ≡ true → within c d (converted x s) ≡ true
converted_within a b c d low high x s h k =
    let p = both (le_z a x) (le_z x b) h in
    let q = both (le_z (neg_ℤ (pos 2147483648)) s) (le_z s (pos 2147483647)) k in
    joined
    (in_turn c (converted a (neg_ℤ (pos 2147483648))) (converted x s) low (converted_order a x (neg_ℤ (pos 2147483648)) s p.0 q.0))
    (in_turn (converted x s) (converted b (pos 2147483647)) d (converted_order x b s (pos 2147483647) p.1 q.1) high)
