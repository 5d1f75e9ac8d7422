-- Fractions: when two are the same, which is within what, and the exact value over one common power. Assumes nothing.
use mathlib.Core.Path.{◌≡◌, refl, sym, ap, ◌∙◌}
use mathlib.Core.Bool.{Bool, true, ◌&&◌}
use mathlib.Core.List.{List, [], ◌∷◌}
use Prim.Native.Nat.{ℕ, zero, suc, ◌+◌, ◌-◌, ◌*◌, ◌^◌, ◌≤◌, ◌<◌}
use native.Mathlib.Nat.{mul-pos, mul-le-mul_left, mul-le-mul_right, mul-lt-mul_of_pos_right, le_of_mul-le-mul_left, le_of_mul-le-mul_right, pow-zero, pow-suc, one-mul, mul-one}
use native.Mathlib.Omega.{arith}
use lib.Dec.{T, leb, leb→le, lit<}
use lib.Pow.{pow-add}
use lib.IntN.{ℤ, pos, nat_abs, ◌+ℤ◌, ◌-ℤ◌, ◌*ℤ◌, pow, one, zero-*ℤ, *ℤ_comm, +ℤ_invr}
use mir.Facts.{and_yes}
use Rattle.whole.proofs.Ring.{by_diff, pos_diff, diff_cong, ring₀, one-*ℤ, -ℤ-*ℤ}
use Rattle.whole.proofs.Sizes.{abs--, abs_zero, abs-*}
use Rattle.equation.specs.Equation.{Term, term}
use Rattle.equation.specs.Exact.{Fraction, ◌over◌, whole, ◌times◌, ◌to_the◌, exact_of, Within, NearTo}

-- ---- times 1
pub one_times : (f : Fraction) → whole (pos 1) times f ≡ f
one_times f = λ i. one-*ℤ f.top i over one-mul f.bottom i

pub times_one : (f : Fraction) → f times whole (pos 1) ≡ f
times_one f = λ i. (*ℤ_comm f.top (pos 1) ∙ one-*ℤ f.top) i over mul-one f.bottom i

-- ---- two fractions that are the same
abbrev Same : Fraction → Fraction → Type 0
Same f g = f.top *ℤ pos g.bottom ≡ g.top *ℤ pos f.bottom

-- what is within h / n of the one is so of the other
pub within_same : {h n : ℕ} {x : ℤ} (f g : Fraction) → Same f g → 0 < f.bottom → Within h n g x → Within h n f x
within_same {h} {n} {x} f g e p w = record {
  proper = p;
  near = le_of_mul-le-mul_right (omega (arith, mul-le-mul_right f.bottom w.near, ap (λ (m : ℕ). n * m) apart)) w.proper;
}
  where
    swapped : (a b : ℕ) → x *ℤ pos a *ℤ pos b ≡ x *ℤ pos b *ℤ pos a
    swapped a b = rw (by_diff x, pos_diff a, pos_diff b) (simp ring₀ (diff_cong _ _ _ _ (omega arith)))

    crossed : (t u : ℤ) (a b : ℕ) → t *ℤ pos b ≡ u *ℤ pos a → (x *ℤ pos a -ℤ t) *ℤ pos b ≡ (x *ℤ pos b -ℤ u) *ℤ pos a
    crossed t u a b e =
        -ℤ-*ℤ (x *ℤ pos a) t (pos b)
        ∙ (λ i. swapped a b i -ℤ e i)
        ∙ sym (-ℤ-*ℤ (x *ℤ pos b) u (pos a))

    apart : nat_abs (x *ℤ pos f.bottom -ℤ f.top) * g.bottom ≡ nat_abs (x *ℤ pos g.bottom -ℤ g.top) * f.bottom
    apart =
        sym (abs-* (x *ℤ pos f.bottom -ℤ f.top) (pos g.bottom))
        ∙ ap nat_abs (crossed f.top g.top f.bottom g.bottom e)
        ∙ abs-* (x *ℤ pos g.bottom -ℤ g.top) (pos f.bottom)

-- and so times w
pub same_scaled : (f : Fraction) (s w : ℕ) → Same (f times (pos s over s) times whole (pos w)) (f times whole (pos w))
same_scaled f s w = apart f.top f.bottom
  where
    apart : (t : ℤ) (b : ℕ) → t *ℤ pos s *ℤ pos w *ℤ pos (b * 1) ≡ t *ℤ pos w *ℤ pos (b * s * 1)
    apart t b = rw (by_diff t, pos_diff s, pos_diff w, pos_diff (b * 1), pos_diff (b * s * 1)) (simp ring₀ (diff_cong _ _ _ _ (omega arith)))

-- a wider bound
pub within_wider : {h n : ℕ} {f : Fraction} {x : ℤ} (o m : ℕ) → 0 < n → m * h ≤ o * n → Within h n f x → Within o m f x
within_wider {h} {n} {f} {x} o m p t w = record {
  proper = w.proper;
  near = le_of_mul-le-mul_left {k = n} (omega (arith, mul-le-mul_left m w.near, mul-le-mul_right f.bottom t)) p;
}

pub near_wider : {h n : ℕ} {f g : Fraction} (o m : ℕ) → 0 < n → m * h ≤ o * n → NearTo h n f g → NearTo o m f g
near_wider {h} {n} {f} {g} o m p t w = record {
  proper = w.proper;
  near = le_of_mul-le-mul_left {k = n} (omega (arith, mul-le-mul_left m w.near, mul-le-mul_right (f.bottom * g.bottom) t)) p;
}

-- a number near two fractions: they are near each other
pub within_both : {h k n : ℕ} {x : ℤ} (f g : Fraction) → Within h n f x → Within k n g x → NearTo (h + k) n f g
within_both {h} {k} {n} {x} f g v w = record {
  proper = (v.proper, w.proper);
  near =
      omega (
        arith,
        mul-le-mul_left n (apart f.top g.top f.bottom g.bottom),
        mul-le-mul_right g.bottom v.near,
        mul-le-mul_right f.bottom w.near,
      );
}
  where
    parts : (t u : ℤ) (a b : ℕ) → t *ℤ pos b -ℤ u *ℤ pos a ≡ (x *ℤ pos b -ℤ u) *ℤ pos a -ℤ (x *ℤ pos a -ℤ t) *ℤ pos b
    parts t u a b = rw (by_diff t, by_diff u, by_diff x, pos_diff a, pos_diff b) (simp ring₀ (diff_cong _ _ _ _ (omega arith)))

    apart : (t u : ℤ) (a b : ℕ) → nat_abs (t *ℤ pos b -ℤ u *ℤ pos a) ≤ nat_abs (x *ℤ pos b -ℤ u) * a + nat_abs (x *ℤ pos a -ℤ t) * b
    apart t u a b =
        omega (
          arith,
          ap nat_abs (parts t u a b),
          abs-- ((x *ℤ pos b -ℤ u) *ℤ pos a) ((x *ℤ pos a -ℤ t) *ℤ pos b),
          abs-* (x *ℤ pos b -ℤ u) (pos a),
          abs-* (x *ℤ pos a -ℤ t) (pos b),
        )

-- two numbers near one fraction, together nearer than 1, are one
pub one_number : {h k n : ℕ} {f : Fraction} (x y : ℤ) → h + k < n → Within h n f x → Within k n f y → x ≡ y
one_number {h} {k} {n} {f} x y s v w = abs_zero x y (none (nat_abs (x -ℤ y)) (omega (arith, mul-le-mul_left n (apart f.top f.bottom), v.near, w.near)))
  where
    parts : (t : ℤ) (b : ℕ) → (x -ℤ y) *ℤ pos b ≡ x *ℤ pos b -ℤ t -ℤ (y *ℤ pos b -ℤ t)
    parts t b = rw (by_diff t, by_diff x, by_diff y, pos_diff b) (simp ring₀ (diff_cong _ _ _ _ (omega arith)))

    apart : (t : ℤ) (b : ℕ) → nat_abs (x -ℤ y) * b ≤ nat_abs (x *ℤ pos b -ℤ t) + nat_abs (y *ℤ pos b -ℤ t)
    apart t b = omega (arith, sym (abs-* (x -ℤ y) (pos b)), ap nat_abs (parts t b), abs-- (x *ℤ pos b -ℤ t) (y *ℤ pos b -ℤ t))

    none : (d : ℕ) → n * (d * f.bottom) ≤ (h + k) * f.bottom → d ≡ 0
    none zero e = refl
    none (suc d) e = absurd (omega (arith, mul-lt-mul_of_pos_right s v.proper))

-- ---- no bottom is zero
power_proper : (f : Fraction) → 0 < f.bottom → (n : ℕ) → 0 < (f to_the n).bottom
unfolding ◌to_the◌
power_proper f h zero = lit< tt
power_proper f h (suc n) = mul-pos (power_proper f h n) h

pub exact_proper : (f g : Fraction) → 0 < f.bottom → 0 < g.bottom → (ts : List Term) → 0 < (exact_of ts f g).bottom
unfolding exact_of
exact_proper f g h k [] = lit< tt
exact_proper f g h k (term c i j ∷ ts) =
    mul-pos (mul-pos (lit< tt) (mul-pos (power_proper f h i) (power_proper g k j))) (exact_proper f g h k ts)

-- ---- of U and V over one bottom D, the value is a whole number over one power of D
-- no term has more than n factors
abbrev pub reaches : ℕ → List Term → Bool
reaches n [] = true
reaches n (term c i j ∷ ts) = leb (i + j) n && reaches n ts

abbrev pub common : ℕ → ℕ → ℤ → ℤ → List Term → ℤ
common D n a b [] = pos 0
common D n a b (term c i j ∷ ts) = c *ℤ (pow a i *ℤ pow b j) *ℤ pos (D ^ (n - (i + j))) +ℤ common D n a b ts

power_is : (a : ℤ) (D n : ℕ) → (a over D) to_the n ≡ pow a n over (D ^ n)
unfolding ◌to_the◌ pow one
power_is a D zero = λ i. pos 1 over sym (pow-zero D) i
power_is a D (suc n) = λ i. ((power_is a D n i).top *ℤ a) over ((ap (λ (m : ℕ). m * D) (ap (λ (f : Fraction). f.bottom) (power_is a D n)) ∙ sym (pow-suc D n)) i)

-- the powers of D that a term has, and those that it lacks
filled : (D n i j : ℕ) → i + j ≤ n → D ^ i * D ^ j * D ^ (n - (i + j)) ≡ D ^ n
filled D n i j h =
    ap (λ (x : ℕ). x * D ^ (n - (i + j))) (sym (pow-add D i j))
    ∙ sym (pow-add D (i + j) (n - (i + j)))
    ∙ ap (λ (x : ℕ). D ^ x) (omega arith)

-- c t / d added to x / m, where x / m is y / e and d r is e
summed : (c t x y : ℤ) (d m r e : ℕ) → d * r ≡ e → x *ℤ pos e ≡ y *ℤ pos m
    → (c *ℤ t *ℤ pos m +ℤ x *ℤ pos (1 * d)) *ℤ pos e ≡ (c *ℤ t *ℤ pos r +ℤ y) *ℤ pos (1 * d * m)
summed c t x y d m r e h k = left ∙ ap (λ (z : ℤ). c *ℤ t *ℤ pos m *ℤ pos (d * r) +ℤ z *ℤ pos d) k ∙ right
  where
    left : (c *ℤ t *ℤ pos m +ℤ x *ℤ pos (1 * d)) *ℤ pos e ≡ c *ℤ t *ℤ pos m *ℤ pos (d * r) +ℤ x *ℤ pos e *ℤ pos d
    left = rw h (rw (by_diff c, by_diff t, by_diff x, pos_diff m, pos_diff (1 * d), pos_diff d, pos_diff e) (simp ring₀ (diff_cong _ _ _ _ (omega arith))))

    right : c *ℤ t *ℤ pos m *ℤ pos (d * r) +ℤ y *ℤ pos m *ℤ pos d ≡ (c *ℤ t *ℤ pos r +ℤ y) *ℤ pos (1 * d * m)
    right = rw (by_diff c, by_diff t, by_diff y, pos_diff m, pos_diff r, pos_diff (1 * d * m), pos_diff d, pos_diff (d * r)) (simp ring₀ (diff_cong _ _ _ _ (omega arith)))

crosswise : (D n : ℕ) (a b : ℤ) (ts : List Term) → T (reaches n ts) → Same (exact_of ts (a over D) (b over D)) (common D n a b ts over (D ^ n))
unfolding exact_of
crosswise D n a b [] h = zero-*ℤ (pos (D ^ n)) ∙ sym (zero-*ℤ (pos 1))
crosswise D n a b (term c i j ∷ ts) h =
    let p = and_yes (leb (i + j) n) (reaches n ts) h in
    rw (power_is a D i, power_is b D j)
    (summed c (pow a i *ℤ pow b j) (exact_of ts (a over D) (b over D)).top (common D n a b ts)
    (D ^ i * D ^ j) (exact_of ts (a over D) (b over D)).bottom (D ^ (n - (i + j))) (D ^ n)
    (filled D n i j (leb→le (i + j) n p.0)) (crosswise D n a b ts p.1))

-- times that power of D it is that whole number
pub over_common : (D n : ℕ) (a b : ℤ) (ts : List Term) → 0 < D → T (reaches n ts) → Within 0 1 (exact_of ts (a over D) (b over D) times whole (pos (D ^ n))) (common D n a b ts)
over_common D n a b ts h t = record {
  proper = mul-pos (exact_proper (a over D) (b over D) h h ts) (lit< tt);
  near = rw (mul-one (exact_of ts (a over D) (b over D)).bottom, crosswise D n a b ts t, +ℤ_invr (common D n a b ts *ℤ pos (exact_of ts (a over D) (b over D)).bottom)) (omega arith);
}
