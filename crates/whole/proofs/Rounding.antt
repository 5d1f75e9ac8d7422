-- The laws of division rounded to the nearest, halves away from zero: `round_half_up` of naturals first, then `round_div`.
-- Assumes nothing.
use mathlib.Core.Path.{◌≡◌, refl, sym, ap, ◌∙◌, subst}
use mathlib.Core.Bool.{true, false}
use Prim.Native.Nat.{ℕ, zero, suc, ◌+◌, ◌*◌, ◌/◌, ◌%◌, ◌<◌, ◌≤◌, suc-le-suc}
use native.Mathlib.Nat.{le_antisymm, lt_of_mul-lt-mul_left, lt_of_mul-lt-mul_right, le-div_iff_mul-le, div-add-mod, mod-lt, div-eq_of_lt-le}
use native.Mathlib.Omega.{arith}
use lib.Dec.{T, leb→le, le→leb}
use lib.IntN.{ℤ, pos, negsuc, neg_ℤ, nat_abs, ◌-ℤ◌, ◌*ℤ◌, neg_ℤ-neg_ℤ, -ℤ-+ℤ_cancel}
use lib.Signed.{non_neg, lt_z, le_z, ◌≤ℤ◌, le_z_yes}
use Rattle.whole.specs.Round.{round_half_up, round_div}
use Rattle.whole.proofs.Ring.{by_diff, pos_diff, diff_cong, ring₀, pos_sub, -ℤ-negℤ, negℤ-*ℤ}
use Rattle.whole.proofs.Sizes.{abs_neg, abs_sub, abs-+, abs--, abs-*, abs-*-≤, abs_round, abs_zero, same_size}
use Rattle.whole.proofs.Signs.{signed, by_sign, signed-*-pos, signed_round, below_zero, from_zero}

-- ---- two naturals
module _ (n : ℕ) {d : ℕ} (h : 0 < d) where
  -- the quotient q is within half: 2 n - d < 2 q d ≤ 2 n + d
  pub half_up_low : 2 * (round_half_up n d * d) ≤ 2 * n + d
  half_up_low = omega (arith, div-add-mod (2 * n + d) (2 * d))

  pub half_up_high : 2 * n < 2 * (round_half_up n d * d) + d
  half_up_high = omega (arith, div-add-mod (2 * n + d) (2 * d), mod-lt (2 * n + d) {m = 2 * d} (omega arith))

  -- and no other number is
  pub half_up_only : (q : ℕ) → 2 * (q * d) ≤ 2 * n + d → 2 * n < 2 * (q * d) + d → round_half_up n d ≡ q
  half_up_only q l k = div-eq_of_lt-le (2 * d) (omega arith) (omega arith)

at_most : {x y : ℕ} → x < y + 1 → x ≤ y
at_most h = omega arith

pub half_up_mono : {m n d : ℕ} → 0 < d → m ≤ n → round_half_up m d ≤ round_half_up n d
half_up_mono {m} {n} {d} h l = at_most (lt_of_mul-lt-mul_left (2 * d) (omega (arith, half_up_low m h, half_up_high n h)))

pub half_up_exact : (q : ℕ) {d : ℕ} → 0 < d → round_half_up (q * d) d ≡ q
half_up_exact q {d} h = half_up_only (q * d) h q (omega arith) (omega arith)

-- ---- by whole quotients
-- the whole part of n and half of d, over d
pub half_up_whole : (n : ℕ) {d : ℕ} → 0 < d → round_half_up n d ≡ (n + d / 2) / d
half_up_whole n {d} h =
    half_up_only n h ((n + d / 2) / d)
    (omega (arith, div-add-mod (n + d / 2) d)) (omega (arith, div-add-mod (n + d / 2) d, mod-lt (n + d / 2) h))

-- a b / d, by what d goes into a and what is left
pub half_up_split : (a b : ℕ) {d : ℕ} → 0 < d → round_half_up (a * b) d ≡ a / d * b + round_half_up (a % d * b) d
half_up_split a b {d} h =
    half_up_only (a * b) h (a / d * b + round_half_up (a % d * b) d)
    (omega (arith, whole, half_up_low (a % d * b) h)) (omega (arith, whole, half_up_high (a % d * b) h))
  where
    whole : d * (a / d) * b + a % d * b ≡ a * b
    whole = omega (arith, ap (λ (n : ℕ). n * b) (div-add-mod a d))

-- ---- whole numbers
pub round_neg : (n : ℤ) (d : ℕ) → round_div (neg_ℤ n) d ≡ neg_ℤ (round_div n d)
unfolding round_div
round_neg (pos zero) d = signed_round false zero d
round_neg (pos (suc n)) d = refl
round_neg (negsuc n) d = sym (neg_ℤ-neg_ℤ (pos (round_half_up (suc n) d)))

-- by a test of the sign
pub round_below : (n : ℤ) (d : ℕ) → lt_z n (pos 0) ≡ true → round_div n d ≡ neg_ℤ (pos (round_half_up (nat_abs n) d))
unfolding round_div
round_below n d t = subst (λ (z : ℤ). round_div z d ≡ neg_ℤ (pos (round_half_up (nat_abs z) d))) (sym (below_zero n t)) refl

pub round_from : (n : ℤ) (d : ℕ) → lt_z n (pos 0) ≡ false → round_div n d ≡ pos (round_half_up (nat_abs n) d)
unfolding round_div
round_from n d t = subst (λ (z : ℤ). round_div z d ≡ pos (round_half_up (nat_abs z) d)) (sym (from_zero n t)) refl

pub round_mono : {m n : ℤ} {d : ℕ} → 0 < d → m ≤ℤ n → round_div m d ≤ℤ round_div n d
unfolding round_div
round_mono {m} {n} {d} h l = go m n l.le
  where
    below : (a b : ℕ) → T (le_z (neg_ℤ (pos a)) (pos b))
    below zero b = le→leb zero b (omega arith)
    below (suc a) b = tt

    turned : (a b : ℕ) → b ≤ a → T (le_z (neg_ℤ (pos a)) (neg_ℤ (pos b)))
    turned a zero k = below a zero
    turned zero (suc b) k = absurd (omega arith)
    turned (suc a) (suc b) k = le→leb b a (omega arith)

    go : (m n : ℤ) → T (le_z m n) → round_div m d ≤ℤ round_div n d
    go (pos a) (pos b) t = le_z_yes (le→leb _ _ (half_up_mono h (leb→le a b t)))
    go (pos a) (negsuc b) t = absurd t
    go (negsuc a) (pos b) t = le_z_yes (below (round_half_up (suc a) d) (round_half_up b d))
    go (negsuc a) (negsuc b) t = le_z_yes (turned (round_half_up (suc a) d) (round_half_up (suc b) d) (half_up_mono h (suc-le-suc (leb→le b a t))))

pub round_exact : (q : ℤ) {d : ℕ} → 0 < d → round_div (q *ℤ pos d) d ≡ q
round_exact q {d} h =
    subst (λ (z : ℤ). round_div (z *ℤ pos d) d ≡ z) (sym (by_sign q))
    (simp (signed-*-pos, signed_round) (ap (signed (non_neg q)) (half_up_exact (nat_abs q) h)))

module _ (n : ℤ) {d : ℕ} (h : 0 < d) where
  -- the rounded quotient is within half
  pub round_within : 2 * nat_abs (round_div n d *ℤ pos d -ℤ n) ≤ d
  unfolding round_div
  round_within = go n
    where
      above : (a : ℕ) → 2 * nat_abs (pos (round_half_up a d) *ℤ pos d -ℤ pos a) ≤ d
      above a =
          rw (pos_sub (round_half_up a d * d) a)
          (omega (arith, abs_sub (round_half_up a d * d) a (d / 2) (omega (arith, half_up_low a h)) (omega (arith, half_up_high a h))))

      turned : (x y : ℤ) → nat_abs (neg_ℤ x *ℤ pos d -ℤ neg_ℤ y) ≡ nat_abs (x *ℤ pos d -ℤ y)
      turned x y =
          ap nat_abs (ap (λ (z : ℤ). z -ℤ neg_ℤ y) (negℤ-*ℤ x (pos d)) ∙ -ℤ-negℤ (x *ℤ pos d) y) ∙ abs_neg (x *ℤ pos d -ℤ y)

      go : (n : ℤ) → 2 * nat_abs (round_div n d *ℤ pos d -ℤ n) ≤ d
      go (pos a) = above a
      go (negsuc a) = omega (arith, turned (pos (round_half_up (suc a) d)) (pos (suc a)), above (suc a))

  -- what is within half is no farther from zero
  pub round_farthest : (q : ℤ) → 2 * nat_abs (q *ℤ pos d -ℤ n) ≤ d → nat_abs q ≤ nat_abs (round_div n d)
  round_farthest q k =
      rw abs_round ((le-div_iff_mul-le {k = 2 * d} {x = nat_abs q} {y = 2 * nat_abs n + d} (omega arith)).1 (omega (arith, size)))
    where
      size : nat_abs q * d ≤ nat_abs (q *ℤ pos d -ℤ n) + nat_abs n
      size = omega (arith, abs-* q (pos d), ap nat_abs (-ℤ-+ℤ_cancel (q *ℤ pos d) n), abs-+ (q *ℤ pos d -ℤ n) n)

  -- how far another number can be
  apart : (q : ℤ) → nat_abs (round_div n d -ℤ q) * d ≤ nat_abs (round_div n d *ℤ pos d -ℤ n) + nat_abs (q *ℤ pos d -ℤ n)
  apart q =
      omega (
        arith,
        abs-* (round_div n d -ℤ q) (pos d),
        ap nat_abs (regroup (round_div n d)),
        abs-- (round_div n d *ℤ pos d -ℤ n) (q *ℤ pos d -ℤ n),
      )
    where
      regroup : (r : ℤ) → r *ℤ pos d -ℤ n -ℤ (q *ℤ pos d -ℤ n) ≡ (r -ℤ q) *ℤ pos d
      regroup r = rw (by_diff r, by_diff q, by_diff n, pos_diff d) (simp ring₀ (diff_cong _ _ _ _ (omega arith)))

  -- what is nearer than half is the rounded quotient
  pub round_only : (q : ℤ) → 2 * nat_abs (q *ℤ pos d -ℤ n) < d → round_div n d ≡ q
  round_only q k = abs_zero (round_div n d) q (none (lt_of_mul-lt-mul_right d (omega (arith, apart q, round_within))))
    where
      none : nat_abs (round_div n d -ℤ q) < 1 → nat_abs (round_div n d -ℤ q) ≡ 0
      none l = omega arith

  -- so is what is within half, if nothing within half is farther from zero
  pub round_determined : (q : ℤ) → 2 * nat_abs (q *ℤ pos d -ℤ n) ≤ d → ((r : ℤ) → 2 * nat_abs (r *ℤ pos d -ℤ n) ≤ d → nat_abs r ≤ nat_abs q) → round_div n d ≡ q
  round_determined q k far =
      same_size (round_div n d) q (le_antisymm (far (round_div n d) round_within) (round_farthest q k))
      (at_most (lt_of_mul-lt-mul_right d (omega (arith, apart q, round_within))))

-- of a product, by the limits of its factors
pub product_size : (p u : ℤ) {a b d : ℕ} → 0 < d → nat_abs p ≤ a → nat_abs u ≤ b → nat_abs (round_div (p *ℤ u) d) ≤ round_half_up (a * b) d
product_size p u h k l = rw abs_round (half_up_mono h (abs-*-≤ p u k l))
