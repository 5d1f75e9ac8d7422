-- What document 01 asks of every rounding. Stated over specs/ alone. Assumes nothing.
use mathlib.Core.Path.{◌≡◌, refl, ◌∙◌, ap}
use Prim.Native.Nat.{ℕ, ◌+◌, ◌*◌, ◌<◌, ◌≤◌}
use native.Mathlib.Omega.{arith}
use lib.IntN.{ℤ, pos, neg_ℤ, nat_abs, ◌-ℤ◌, ◌*ℤ◌}
use lib.Signed.{◌≤ℤ◌}
use Rattle.whole.specs.Round.{round_div}
use Rattle.whole.proofs.Rounding.{round_neg, round_mono, round_within, round_farthest, round_only, round_determined, half_up_only}

-- ---- 'All roundings go to the nearest whole number, halves away from zero'
-- the answer is within half of n / d
pub nearest_to : (n : ℤ) {d : ℕ} → 0 < d → 2 * nat_abs (round_div n d *ℤ pos d -ℤ n) ≤ d
nearest_to n h = round_within n h

-- a whole number that is nearer than half is the answer
pub no_other : (n q : ℤ) {d : ℕ} → 0 < d → 2 * nat_abs (q *ℤ pos d -ℤ n) < d → round_div n d ≡ q
no_other n q h k = round_only n h q k

-- of those within half, which are two at a half, the answer is the one farther from zero
pub farther : (n q : ℤ) {d : ℕ} → 0 < d → 2 * nat_abs (q *ℤ pos d -ℤ n) ≤ d → nat_abs q ≤ nat_abs (round_div n d)
farther n q h k = round_farthest n h q k

-- and the rule leaves one answer: whatever is within half, and farthest from zero there, is it
pub determined : (n q : ℤ) {d : ℕ} → 0 < d → 2 * nat_abs (q *ℤ pos d -ℤ n) ≤ d → ((r : ℤ) → 2 * nat_abs (r *ℤ pos d -ℤ n) ≤ d → nat_abs r ≤ nat_abs q) → round_div n d ≡ q
determined n q h k far = round_determined n h q k far

-- so n / d = k + 1 / 2 gives k + 1, and its negative gives -(k + 1)
pub half_away : (n k : ℕ) {d : ℕ} → 0 < d → 2 * n ≡ (2 * k + 1) * d → (round_div (pos n) d ≡ pos (k + 1)) × (round_div (neg_ℤ (pos n)) d ≡ neg_ℤ (pos (k + 1)))
unfolding round_div
half_away n k {d} h e = (up, round_neg (pos n) d ∙ ap neg_ℤ up)
  where
    up : round_div (pos n) d ≡ pos (k + 1)
    up = ap pos (half_up_only n h (k + 1) (omega arith) (omega arith))

-- the rule has no side: -n goes as n does
pub same_below_zero : (n : ℤ) (d : ℕ) → round_div (neg_ℤ n) d ≡ neg_ℤ (round_div n d)
same_below_zero n d = round_neg n d

-- and never changes an order
pub in_order : {m n : ℤ} {d : ℕ} → 0 < d → m ≤ℤ n → round_div m d ≤ℤ round_div n d
in_order h l = round_mono h l

-- ---- '5/2 gives 3 and -5/2 gives -3'
pub record Examples : Type 0 where
  pub five_halves : round_div (pos 5) 2 ≡ pos 3
  pub minus_five_halves : round_div (neg_ℤ (pos 5)) 2 ≡ neg_ℤ (pos 3)

pub examples : Examples
unfolding round_div
examples = record { five_halves = refl; minus_five_halves = refl }
