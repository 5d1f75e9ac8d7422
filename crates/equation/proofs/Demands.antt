-- What document 01 asks of the powers and of an equation, over any table. Stated over specs/ alone. Assumes nothing.
use mathlib.Core.Path.{◌≡◌, refl, sym, ap, ◌∙◌}
use mathlib.Core.List.{List, [], ◌∷◌, Perm}
use mathlib.Core.Logic.{∥∥₁_elim}
use Prim.Native.Nat.{ℕ, ◌+◌, ◌<◌, ◌≤◌}
use native.Mathlib.Omega.{arith}
use lib.Dec.{lit<, lit≤, le→leb, lt→ltb}
use lib.IntN.{ℤ, pos, neg_ℤ, ◌*ℤ◌, ℤ_set}
use lib.ListN.{length, get_or}
use Rattle.whole.specs.Round.{round_div, scale}
use Rattle.equation.specs.Powers.{power, powers_of}
use Rattle.equation.specs.Equation.{Term, term, sum, equation_of}
use Rattle.equation.specs.Exact.{◌over◌, ◌to_the◌, exact_of, Within, Beyond, NearTo}
use Rattle.equation.proofs.Steps.{power_next, length_powers, powers_at}
use Rattle.equation.proofs.Sums.{sum_any_order}

-- ---- 'The ten powers of each'
-- they are ten, the zeroth 100,000,000 and the first u
pub ten : (u : ℤ) → (length (powers_of scale u 10) ≡ 10) × ((get_or (powers_of scale u 10) 0 (pos 0) ≡ pos 100000000) × (get_or (powers_of scale u 10) 1 (pos 0) ≡ u))
unfolding powers_of power
ten u = (length_powers scale u 10, (refl, refl))

-- 'each further power is the one before times u, divided by 100,000,000 and rounded'
pub each_by_the_one_before : (u : ℤ) (n : ℕ) → 1 ≤ n → n + 1 < 10 → get_or (powers_of scale u 10) (n + 1) (pos 0) ≡ round_div (get_or (powers_of scale u 10) n (pos 0) *ℤ u) 100000000
each_by_the_one_before u n h k =
    powers_at scale u (pos 0) 10 (n + 1) k
    ∙ power_next scale u n h
    ∙ ap (λ (x : ℤ). round_div (x *ℤ u) scale) (sym (powers_at scale u (pos 0) 10 n (omega arith)))

-- ---- 'The sum .. is exact': no order of the terms gives another answer
pub any_order : (divisor : ℕ) {ts ss : List Term} → Perm ts ss → (pu pv : List ℤ) → equation_of divisor ts pu pv ≡ equation_of divisor ss pu pv
any_order divisor p pu pv = ∥∥₁_elim p (ℤ_set _ _) (λ d. ap (λ (x : ℤ). round_div x divisor) (sum_any_order pu pv d))

-- ---- 'Ways to get it wrong'
pub record Examples : Type 0 where
  -- the fourth power of document 01's u, and the square of its square
  pub fourth : power scale (pos 39269908) 4 ≡ pos 2378151
  pub not_by_squaring : round_div (power scale (pos 39269908) 2 *ℤ power scale (pos 39269908) 2) 100000000 ≡ pos 2378152
  -- two terms of 0.4 unit come to 1 unit, though each by itself is rounded to none
  pub summed_first : equation_of scale (term (pos 1) 1 0 ∷ term (pos 1) 1 0 ∷ []) (powers_of scale (pos 40000000) 10) (powers_of scale (pos 0) 10) ≡ pos 1

pub examples : Examples
unfolding round_div power powers_of sum
examples = record { fourth = refl; not_by_squaring = refl; summed_first = refl }

-- ---- 'The exact value for demand 3'
pub record Exact : Type 0 where
  -- 6 U U V + 1 at U = 1 / 2 and V = 2 / 3 is 2, and nothing is lost
  pub polynomial : Within 0 1 (exact_of (term (pos 6) 2 1 ∷ term (pos 1) 0 0 ∷ []) (pos 1 over 2) (pos 2 over 3)) (pos 2)
  -- 'a zeroth power being 1', of zero too
  pub zeroth : Within 0 1 (exact_of (term (pos 5) 0 0 ∷ []) (pos 0 over 7) (neg_ℤ (pos 3) over 2)) (pos 5)
  -- 7 and -2 are within 9 / 2 of 5 / 2 and not farther; 8 and -3 are farther and not within
  pub within : Within 9 2 (pos 5 over 2) (pos 7) × Within 9 2 (pos 5 over 2) (neg_ℤ (pos 2))
  pub not_within : (Within 9 2 (pos 5 over 2) (pos 8) → ⊥) × (Within 9 2 (pos 5 over 2) (neg_ℤ (pos 3)) → ⊥)
  pub beyond : Beyond 9 2 (pos 5 over 2) (pos 8) × Beyond 9 2 (pos 5 over 2) (neg_ℤ (pos 3))
  pub not_beyond : (Beyond 9 2 (pos 5 over 2) (pos 7) → ⊥) × (Beyond 9 2 (pos 5 over 2) (neg_ℤ (pos 2)) → ⊥)
  -- 1 / 2 and -1 / 4 are within 3 / 4 of each other, and not within 2 / 4
  pub near_to : NearTo 3 4 (pos 1 over 2) (neg_ℤ (pos 1) over 4)
  pub not_nearer : NearTo 2 4 (pos 1 over 2) (neg_ℤ (pos 1) over 4) → ⊥

pub exact : Exact
unfolding exact_of ◌to_the◌
exact = record {
  polynomial = record { proper = lit< tt; near = lit≤ tt };
  zeroth = record { proper = lit< tt; near = lit≤ tt };
  within = (record { proper = lit< tt; near = lit≤ tt }, record { proper = lit< tt; near = lit≤ tt });
  not_within = ((λ w. absurd (le→leb _ _ w.near)), (λ w. absurd (le→leb _ _ w.near)));
  beyond = (record { proper = lit< tt; far = lit< tt }, record { proper = lit< tt; far = lit< tt });
  not_beyond = ((λ b. absurd (lt→ltb _ _ b.far)), (λ b. absurd (lt→ltb _ _ b.far)));
  near_to = record { proper = (lit< tt, lit< tt); near = lit≤ tt };
  not_nearer = (λ c. absurd (le→leb _ _ c.near));
}
