-- How near a working number is to the fraction that it stands for, step by step of the working rule. Assumes nothing.
--
-- At a scale s a whole number x stands for x / s. `Near s fine x f e`: that is f, and x is off by at most e / fine. Each law
-- below is a step of the rule, and says what the error is after it.
use mathlib.Core.Path.{◌≡◌, sym, ap, ◌∙◌, subst}
use Prim.Native.Nat.{ℕ, ◌+◌, ◌-◌, ◌*◌, ◌/◌, ◌≤◌, ◌<◌}
use native.Mathlib.Nat.{le_trans, le_of_eq, add-le-add, mul-pos, mul-le-mul, mul-le-mul_left, mul-le-mul_right, le_of_mul-le-mul_left}
use native.Mathlib.Omega.{arith}
use lib.IntN.{ℤ, pos, nat_abs, ◌+ℤ◌, ◌-ℤ◌, ◌*ℤ◌, +ℤ_invr, *ℤ_comm, zero-*ℤ}
use Rattle.whole.specs.Round.{round_div}
use Rattle.whole.proofs.Ring.{by_diff, pos_diff, diff_cong, ring₀}
use Rattle.whole.proofs.Sizes.{abs-+, abs--, abs-*}
use Rattle.whole.proofs.Rounding.{round_within}
use Rattle.equation.specs.Exact.{Fraction, ◌over◌, whole, ◌plus◌, ◌times◌, Within}
use Rattle.equation.proofs.Fractions.{one_times, times_one}

pub record Near (s fine : ℕ) (x : ℤ) (f : Fraction) (e : ℕ) : Type 0 where
  pub near : fine * nat_abs (x *ℤ pos f.bottom -ℤ f.top *ℤ pos s) ≤ e * f.bottom

-- ---- how far apart, by what the parts are
module _ (s : ℕ) where
  -- a product's rounded quotient r and its exact value, times the scale
  module _ (r x y t u : ℤ) (a b : ℕ) where
    -- what the rounding changed, and how far each factor is off
    abbrev rounding : ℤ
    rounding = r *ℤ pos s -ℤ x *ℤ y

    abbrev off_x : ℤ
    off_x = x *ℤ pos a -ℤ t *ℤ pos s

    abbrev off_y : ℤ
    off_y = y *ℤ pos b -ℤ u *ℤ pos s

    product_parts : (r *ℤ pos (a * b) -ℤ t *ℤ u *ℤ pos s) *ℤ pos s ≡ rounding *ℤ pos (a * b) +ℤ (off_x *ℤ (y *ℤ pos b) +ℤ x *ℤ pos a *ℤ off_y -ℤ off_x *ℤ off_y)
    product_parts =
        grouped (x *ℤ y) (t *ℤ u *ℤ pos s) (a * b)
        ∙ (λ i. rounding *ℤ pos (a * b) +ℤ (worked i -ℤ exact i))
        ∙ ap (λ (z : ℤ). rounding *ℤ pos (a * b) +ℤ z) (factors (x *ℤ pos a) (y *ℤ pos b) (t *ℤ pos s) (u *ℤ pos s))
      where
        grouped : (z w : ℤ) (m : ℕ) → (r *ℤ pos m -ℤ w) *ℤ pos s ≡ (r *ℤ pos s -ℤ z) *ℤ pos m +ℤ (z *ℤ pos m -ℤ w *ℤ pos s)
        grouped z w m = rw (by_diff r, by_diff z, by_diff w, pos_diff m, pos_diff s) (simp ring₀ (diff_cong _ _ _ _ (omega arith)))

        worked : x *ℤ y *ℤ pos (a * b) ≡ x *ℤ pos a *ℤ (y *ℤ pos b)
        worked = rw (by_diff x, by_diff y, pos_diff a, pos_diff b, pos_diff (a * b)) (simp ring₀ (diff_cong _ _ _ _ (omega arith)))

        exact : t *ℤ u *ℤ pos s *ℤ pos s ≡ t *ℤ pos s *ℤ (u *ℤ pos s)
        exact = rw (by_diff t, by_diff u, pos_diff s) (simp ring₀ (diff_cong _ _ _ _ (omega arith)))

        factors : (x y t u : ℤ) → x *ℤ y -ℤ t *ℤ u ≡ (x -ℤ t) *ℤ y +ℤ x *ℤ (y -ℤ u) -ℤ (x -ℤ t) *ℤ (y -ℤ u)
        factors x y t u = rw (by_diff x, by_diff y, by_diff t, by_diff u) (simp ring₀ (diff_cong _ _ _ _ (omega arith)))

    product_apart : nat_abs (r *ℤ pos (a * b) -ℤ t *ℤ u *ℤ pos s) * s ≤ nat_abs rounding * (a * b) + nat_abs off_x * (nat_abs y * b) + nat_abs x * a * nat_abs off_y + nat_abs off_x * nat_abs off_y
    product_apart =
        omega (
          arith,
          abs-* (r *ℤ pos (a * b) -ℤ t *ℤ u *ℤ pos s) (pos s),
          ap nat_abs product_parts,
          abs-+ (rounding *ℤ pos (a * b)) (off_x *ℤ (y *ℤ pos b) +ℤ x *ℤ pos a *ℤ off_y -ℤ off_x *ℤ off_y),
          abs-- (off_x *ℤ (y *ℤ pos b) +ℤ x *ℤ pos a *ℤ off_y) (off_x *ℤ off_y),
          abs-+ (off_x *ℤ (y *ℤ pos b)) (x *ℤ pos a *ℤ off_y),
          abs-* rounding (pos (a * b)),
          abs-* off_x (y *ℤ pos b),
          ap (λ (n : ℕ). nat_abs off_x * n) (abs-* y (pos b)),
          abs-* (x *ℤ pos a) off_y,
          ap (λ (n : ℕ). n * nat_abs off_y) (abs-* x (pos a)),
          abs-* off_x off_y,
        )

  -- c x + y and its exact value
  sum_apart : (c x y t u : ℤ) (a b : ℕ) → nat_abs ((c *ℤ x +ℤ y) *ℤ pos (1 * a * b) -ℤ (c *ℤ t *ℤ pos b +ℤ u *ℤ pos (1 * a)) *ℤ pos s) ≤ nat_abs c * nat_abs (x *ℤ pos a -ℤ t *ℤ pos s) * b + nat_abs (y *ℤ pos b -ℤ u *ℤ pos s) * a
  sum_apart c x y t u a b =
      omega (
        arith,
        ap nat_abs same,
        abs-+ (c *ℤ (x *ℤ pos a -ℤ t *ℤ pos s) *ℤ pos b) ((y *ℤ pos b -ℤ u *ℤ pos s) *ℤ pos a),
        abs-* (c *ℤ (x *ℤ pos a -ℤ t *ℤ pos s)) (pos b),
        ap (λ (n : ℕ). n * b) (abs-* c (x *ℤ pos a -ℤ t *ℤ pos s)),
        abs-* (y *ℤ pos b -ℤ u *ℤ pos s) (pos a),
      )
    where
      worked : (c *ℤ x +ℤ y) *ℤ pos (1 * a * b) ≡ c *ℤ (x *ℤ pos a) *ℤ pos b +ℤ y *ℤ pos b *ℤ pos a
      worked = rw (by_diff c, by_diff x, by_diff y, pos_diff a, pos_diff b, pos_diff (1 * a * b)) (simp ring₀ (diff_cong _ _ _ _ (omega arith)))

      exact : (c *ℤ t *ℤ pos b +ℤ u *ℤ pos (1 * a)) *ℤ pos s ≡ c *ℤ (t *ℤ pos s) *ℤ pos b +ℤ u *ℤ pos s *ℤ pos a
      exact = rw (by_diff c, by_diff t, by_diff u, pos_diff a, pos_diff b, pos_diff s, pos_diff (1 * a)) (simp ring₀ (diff_cong _ _ _ _ (omega arith)))

      apart : (x y t u : ℤ) → c *ℤ x *ℤ pos b +ℤ y *ℤ pos a -ℤ (c *ℤ t *ℤ pos b +ℤ u *ℤ pos a) ≡ c *ℤ (x -ℤ t) *ℤ pos b +ℤ (y -ℤ u) *ℤ pos a
      apart x y t u = rw (by_diff c, by_diff x, by_diff y, by_diff t, by_diff u, pos_diff a, pos_diff b) (simp ring₀ (diff_cong _ _ _ _ (omega arith)))

      same : (c *ℤ x +ℤ y) *ℤ pos (1 * a * b) -ℤ (c *ℤ t *ℤ pos b +ℤ u *ℤ pos (1 * a)) *ℤ pos s ≡ c *ℤ (x *ℤ pos a -ℤ t *ℤ pos s) *ℤ pos b +ℤ (y *ℤ pos b -ℤ u *ℤ pos s) *ℤ pos a
      same = (λ i. worked i -ℤ exact i) ∙ apart (x *ℤ pos a) (y *ℤ pos b) (t *ℤ pos s) (u *ℤ pos s)

  -- the rounded quotient r of x by d, and the exact value
  quotient_apart : (r x t : ℤ) (d b : ℕ) → nat_abs (r *ℤ pos (b * d) -ℤ t *ℤ pos s) ≤ nat_abs (r *ℤ pos d -ℤ x) * b + nat_abs (x *ℤ pos b -ℤ t *ℤ pos s)
  quotient_apart r x t d b =
      omega (
        arith,
        ap nat_abs same,
        abs-+ ((r *ℤ pos d -ℤ x) *ℤ pos b) (x *ℤ pos b -ℤ t *ℤ pos s),
        abs-* (r *ℤ pos d -ℤ x) (pos b),
      )
    where
      same : r *ℤ pos (b * d) -ℤ t *ℤ pos s ≡ (r *ℤ pos d -ℤ x) *ℤ pos b +ℤ (x *ℤ pos b -ℤ t *ℤ pos s)
      same =
          rw (by_diff r, by_diff x, by_diff t, pos_diff b, pos_diff d, pos_diff s, pos_diff (b * d))
          (simp ring₀ (diff_cong _ _ _ _ (omega arith)))

-- ---- the steps
module _ {s fine : ℕ} where
  -- ---- a sum of nothing, and the zeroth power
  pub near_zero : Near s fine (pos 0) (whole (pos 0)) 0
  near_zero = record { near = rw (zero-*ℤ (pos s)) (omega arith) }

  pub near_one : Near s fine (pos s) (whole (pos 1)) 0
  near_one = record { near = rw same (omega arith) }
    where
      same : nat_abs (pos s *ℤ pos 1 -ℤ pos 1 *ℤ pos s) ≡ 0
      same = ap nat_abs (ap (λ (z : ℤ). pos s *ℤ pos 1 -ℤ z) (*ℤ_comm (pos 1) (pos s)) ∙ +ℤ_invr (pos s *ℤ pos 1))

  -- 1 times a fraction, and a fraction times 1
  pub near_one_times : {x : ℤ} {f : Fraction} {e : ℕ} → Near s fine x f e → Near s fine x (whole (pos 1) times f) e
  near_one_times {x} {f} {e} h = subst (λ (g : Fraction). Near s fine x g e) (sym (one_times f)) h

  pub near_times_one : {x : ℤ} {f : Fraction} {e : ℕ} → Near s fine x f e → Near s fine x (f times whole (pos 1)) e
  near_times_one {x} {f} {e} h = subst (λ (g : Fraction). Near s fine x g e) (sym (times_one f)) h

  -- ---- a quotient a / d, rounded: half a part
  pub near_quotient : (a : ℤ) {d : ℕ} → 0 < d → Near s fine (round_div a d) (a over (d * s)) (fine - fine / 2)
  near_quotient a {d} h = record { near = rw (apart (round_div a d)) (half (nat_abs (round_div a d *ℤ pos d -ℤ a)) (round_within a h)) }
    where
      apart : (q : ℤ) → nat_abs (q *ℤ pos (d * s) -ℤ a *ℤ pos s) ≡ nat_abs (q *ℤ pos d -ℤ a) * s
      apart q = ap nat_abs (same q) ∙ abs-* (q *ℤ pos d -ℤ a) (pos s)
        where
          same : (q : ℤ) → q *ℤ pos (d * s) -ℤ a *ℤ pos s ≡ (q *ℤ pos d -ℤ a) *ℤ pos s
          same q = rw (by_diff q, by_diff a, pos_diff d, pos_diff s, pos_diff (d * s)) (simp ring₀ (diff_cong _ _ _ _ (omega arith)))

      twice : fine ≤ 2 * (fine - fine / 2)
      twice = omega arith

      half : (n : ℕ) → 2 * n ≤ d → fine * (n * s) ≤ (fine - fine / 2) * (d * s)
      half n l = le_of_mul-le-mul_left {k = 2} (omega (arith, mul-le-mul_left (fine * s) l, mul-le-mul_right (d * s) twice)) (omega arith)

  -- ---- a product, divided by the scale and rounded
  pub near_product : 0 < s → 0 < fine → {x y : ℤ} {f g : Fraction} {e d : ℕ} (m n o : ℕ) → nat_abs x ≤ m → nat_abs y ≤ n
      → fine * fine * s + 2 * (fine * (e * n + m * d) + e * d) ≤ 2 * fine * s * o
      → Near s fine x f e → Near s fine y g d → Near s fine (round_div (x *ℤ y) s) (f times g) o
  near_product hs hfine {x} {y} {f} {g} {e} {d} m n o hm hn test hx hy = record {
    near =
        scaled f.bottom g.bottom (nat_abs (round_div (x *ℤ y) s *ℤ pos s -ℤ x *ℤ y)) (nat_abs (x *ℤ pos f.bottom -ℤ f.top *ℤ pos s)) (nat_abs (y *ℤ pos g.bottom -ℤ g.top *ℤ pos s)) (nat_abs x) (nat_abs y)
        (nat_abs (round_div (x *ℤ y) s *ℤ pos (f.bottom * g.bottom) -ℤ f.top *ℤ g.top *ℤ pos s))
        (round_within (x *ℤ y) hs) hx.near hy.near hm hn
        (product_apart s (round_div (x *ℤ y) s) x y f.top g.top f.bottom g.bottom);
  }
    where
      parts : (a b r p q i j : ℕ) → 2 * fine * fine * (r * (a * b) + p * (j * b) + i * a * q + p * q) ≡ fine * fine * (a * b) * (2 * r) + 2 * fine * b * (fine * p * j) + 2 * fine * a * (i * (fine * q)) + 2 * (fine * p * (fine * q))
      parts a b r p q i j = omega arith

      limits : (a b : ℕ) → fine * fine * (a * b) * s + 2 * fine * b * (e * a * n) + 2 * fine * a * (m * (d * b)) + 2 * (e * a * (d * b)) ≡ (fine * fine * s + 2 * (fine * (e * n + m * d) + e * d)) * (a * b)
      limits a b = omega arith

      left : (w : ℕ) → 2 * fine * s * (fine * w) ≡ 2 * fine * fine * (w * s)
      left w = omega arith

      right : (a b : ℕ) → 2 * fine * s * o * (a * b) ≡ 2 * fine * s * (o * (a * b))
      right a b = omega arith

      scaled : (a b r p q i j w : ℕ) → 2 * r ≤ s → fine * p ≤ e * a → fine * q ≤ d * b → i ≤ m → j ≤ n → w * s ≤ r * (a * b) + p * (j * b) + i * a * q + p * q → fine * w ≤ o * (a * b)
      scaled a b r p q i j w hr hp hq hi hj h =
          le_of_mul-le-mul_left {k = 2 * fine * s}
          (le_trans (le_of_eq (left w))
          (le_trans (mul-le-mul_left (2 * fine * fine) h)
          (le_trans (le_of_eq (parts a b r p q i j))
          (le_trans
          (add-le-add
          (add-le-add
          (add-le-add (mul-le-mul_left (fine * fine * (a * b)) hr) (mul-le-mul_left (2 * fine * b) (mul-le-mul hp hj)))
          (mul-le-mul_left (2 * fine * a) (mul-le-mul hi hq)))
          (mul-le-mul_left 2 (mul-le-mul hp hq)))
          (le_trans (le_of_eq (limits a b))
          (le_trans (mul-le-mul_right (a * b) test) (le_of_eq (right a b))))))))
          (mul-pos (mul-pos (omega arith) hfine) hs)

  -- ---- a multiple, added to a sum
  pub near_sum : (c : ℤ) {x y : ℤ} {f g : Fraction} {e d : ℕ} → Near s fine x f e → Near s fine y g d → Near s fine (c *ℤ x +ℤ y) (whole c times f plus g) (nat_abs c * e + d)
  near_sum c {x} {y} {f} {g} {e} {d} hx hy = record {
    near =
        omega (
          arith,
          mul-le-mul_left fine (sum_apart s c x y f.top g.top f.bottom g.bottom),
          mul-le-mul_left (nat_abs c * g.bottom) hx.near,
          mul-le-mul_left f.bottom hy.near,
        );
  }

  -- ---- the sum, divided and rounded once: no scale is left
  pub near_answer : 0 < fine → {x : ℤ} {f : Fraction} {e d : ℕ} (h n : ℕ) → 0 < d → 0 < f.bottom
      → n * (fine * d + 2 * e) ≤ 2 * d * h * fine → Near s fine x f e → Within h n (f times (pos s over d)) (round_div x d)
  near_answer hfine {x} {f} {e} {d} h n hd hf test hx = record {
    proper = mul-pos hf hd;
    near =
        le_of_mul-le-mul_left {k = 2 * fine}
        (omega (
          arith,
          mul-le-mul_left (2 * fine * n) (quotient_apart s (round_div x d) x f.top d f.bottom),
          mul-le-mul_left (fine * n * f.bottom) (round_within x hd),
          mul-le-mul_left (2 * n) hx.near,
          mul-le-mul_right f.bottom test,
        ))
        (mul-pos (omega arith) hfine);
  }
