-- What a computed test shows of each number below n. Assumes nothing.
use mathlib.Core.Bool.{Bool, true, ◌&&◌}
use Prim.Native.Nat.{ℕ, zero, suc, ◌<◌}
use native.Mathlib.Nat.{le_of_suc-le-suc, not-suc-le-zero}
use lib.Dec.{T}
use mir.Facts.{and_yes}

-- f holds of each of 0 .. n - 1
abbrev pub all_below : ℕ → (ℕ → Bool) → Bool
all_below zero f = true
all_below (suc n) f = f zero && all_below n (λ k. f (suc k))

pub below : (n : ℕ) (f : ℕ → Bool) → T (all_below n f) → (k : ℕ) → k < n → T (f k)
below zero f t k h = absurd (not-suc-le-zero h)
below (suc n) f t zero h = (and_yes (f zero) (all_below n (λ k. f (suc k))) t).0
below (suc n) f t (suc k) h =
    below n (λ k. f (suc k)) (and_yes (f zero) (all_below n (λ k. f (suc k))) t).1 k (le_of_suc-le-suc h)
