-- How near a whole number, divided as a float, is to the quotient. Assumes nothing.
use mathlib.Core.Path.{◌≡◌, refl, sym, ap, ◌∙◌, subst}
use mathlib.Core.Bool.{Bool, true, false, not, cond}
use Prim.Native.Nat.{ℕ, zero, suc, ◌+◌, ◌-◌, ◌*◌, ◌/◌, ◌%◌, ◌^◌, ◌≤◌, ◌<◌, compare, Ordering}
use native.Mathlib.Nat.{le_trans, le_of_eq, lt_irrefl, lt_of_le_of_lt, mul-pos, mul-one, mul-le-mul_left, mul-le-mul_right, le_of_mul-le-mul_right, mod-lt, div-add-mod', le-div_iff_mul-le, pow-zero, zero-mul, zero-lt-suc}
use native.Mathlib.Omega.{arith}
use lib.Dec.{T, is_le, compare_is_eq, eqb, eqb-suc-zero, leb→le, nleb→lt, eqb→eq, lit<, lit≤}
use lib.Pow.{pow-add, pow_pos}
use lib.IntN.{ℤ, pos, negsuc, nat_abs, ◌-ℤ◌, ◌*ℤ◌, +ℤ_invr}
use lib.Ieee.{Float, nan, inf, fin, binary64, up, down, nearest, unlike, round, div, of_int}
use lib.Ieee.Digits.{size_reaches}
use lib.Ieee.Fits.{nearest-le, round_is, up_pos, down_pos}
use lib.Ieee.Exact.{HasValue, units_val}
use lib.Ieee.Nearest.{closest, nearest-ge}
use lib.Ieee.Order.{drop, kept}
use lib.Ieee.Scale.{round_same}
use lib.Ieee.Back.{round_whole}
use Rattle.whole.proofs.Ring.{pos_sub}
use Rattle.whole.proofs.Sizes.{abs_sub}
use Rattle.whole.proofs.Signs.{signed, signed-*-pos, signed_apart}
use Rattle.equation.specs.Exact.{Fraction, ◌over◌, whole, ◌times◌, Within}
use Rattle.equation.proofs.Fractions.{times_one, within_same, one_number}
use Rattle.floating.specs.Floats.{◌divided_by◌}
use Rattle.floating.specs.Value.{value_of}

-- ---- a fraction rounded to the nearest whole number is within one half
abbrev WithinHalf : ℕ → ℕ → ℕ → Type 0
WithinHalf x a b = (2 * (x * b) ≤ 2 * a + b) × (2 * a ≤ 2 * (x * b) + b)

closest_near : (a b : ℕ) → 0 < b → WithinHalf (closest a b) a b
closest_near a b B = go (compare (a % b * 2) b) (leb→le (a % b * 2) b) (nleb→lt (a % b * 2) b) (eqb→eq (a % b * 2) b) (div-add-mod' a b) (mod-lt a B)
  where
    go : (o : Ordering) → (T (is_le o) → a % b * 2 ≤ b) → (T (not (is_le o)) → b < a % b * 2) → (T (compare_is_eq o) → a % b * 2 ≡ b) → a / b * b + a % b ≡ a → a % b < b → WithinHalf (nearest (a / b) o) a b
    go Ordering.lt h k e s r = let below : a % b * 2 ≤ b = h tt in (omega arith, omega arith)
    go Ordering.eq h k e s r =
        let half : a % b * 2 ≡ b = e tt in
        let most = mul-le-mul_right b (nearest-le (a / b) Ordering.eq) in
        let least = mul-le-mul_right b (nearest-ge (a / b) Ordering.eq) in
        (omega arith, omega arith)
    go Ordering.gt h k e s r = let above : b < a % b * 2 = k tt in (omega arith, omega arith)

-- ---- a / c, in units of which L make 1, rounded to p digits
-- Where a is at most A, A * M at most 2 ^ (p - 1), and c at most L / M, c times the last place that is kept is at most L / M.
module _ (p a A c L M : ℕ) (P : 0 < p) (C : 0 < c) (O : 0 < A) (most : a ≤ A) (digits : A * M ≤ 2 ^ (p - 1)) (fine : c * M ≤ L) where
  digit_small : (k : ℕ) → k ≡ drop p (a * L) c → c * 2 ^ k * M ≤ L
  digit_small zero e = subst (λ (x : ℕ). c * x * M ≤ L) (sym (pow-zero 2)) (subst (λ (x : ℕ). x * M ≤ L) (sym (mul-one c)) fine)
  digit_small (suc k) e = le_of_mul-le-mul_right {k = A} (omega (arith, scaled, limit)) O
    where
      reached : 2 ^ (p - 1 + suc k) ≤ a * L / c
      reached = size_reaches (a * L / c) (p - 1 + suc k) (omega arith)

      scaled : 2 ^ (p - 1) * 2 ^ suc k * c ≤ A * L
      scaled = le_trans ((le-div_iff_mul-le C).0 (subst (λ (x : ℕ). x ≤ a * L / c) (pow-add 2 (p - 1) (suc k)) reached)) (mul-le-mul_right L most)

      limit : A * M * (2 ^ suc k * c) ≤ 2 ^ (p - 1) * (2 ^ suc k * c)
      limit = mul-le-mul_right (2 ^ suc k * c) digits

  abbrev places : ℕ
  places = kept p (a * L) c * 2 ^ drop p (a * L) c

  places_near : (2 * M * (places * c) ≤ 2 * M * (a * L) + L) × (2 * M * (a * L) ≤ 2 * M * (places * c) + L)
  places_near =
      let k = drop p (a * L) c in
      let x = kept p (a * L) c in
      let near = closest_near (a * L) (c * 2 ^ k) (mul-pos C (pow_pos k)) in
      let small = digit_small k refl in
      let above = mul-le-mul_left M near.0 in
      let below = mul-le-mul_left M near.1 in
      (within x (2 ^ k) above small, beyond x (2 ^ k) below small)
    where
      within : (x d : ℕ) → M * (2 * (x * (c * d))) ≤ M * (2 * (a * L) + c * d) → c * d * M ≤ L → 2 * M * (x * d * c) ≤ 2 * M * (a * L) + L
      within x d h s = omega arith

      beyond : (x d : ℕ) → M * (2 * (a * L)) ≤ M * (2 * (x * (c * d)) + c * d) → c * d * M ≤ L → 2 * M * (a * L) ≤ 2 * M * (x * d * c) + L
      beyond x d h s = omega arith

-- ---- a quotient as a float: so many of the smallest values, of which `one` make 1, that c times as many are near a * one
abbrev one : ℕ
one = 2 ^ 1074

-- A float has 53 digits, and a is at most 2 ^ 31: that leaves 2 ^ 21 of 2 ^ 52 for M. A rounding errs by half the last place, so
-- c times the float errs by 1 / 2 ^ 22 at most.
abbrev fine : ℕ
fine = 4194304

record Rounded (x : Float) (s : Bool) (a c : ℕ) : Type 0 where
  grains : ℕ
  value : HasValue x s grains one
  at_most : fine * (grains * c) ≤ fine * (a * one) + one
  at_least : fine * (a * one) ≤ fine * (grains * c) + one

near_limit : (g a c l : ℕ) → 0 < c → a ≤ 2147483648 → fine * (g * c) ≤ fine * (a * l) + l → g ≤ 4294967296 * l
near_limit g a c l C h n =
    let once : g * 1 ≤ g * c = mul-le-mul_left g C in
    let limit = mul-le-mul_right l h in
    omega arith

rounded_near : (s : Bool) (a c : ℕ) → 0 < c → a ≤ 2147483648 → c ≤ 2 ^ 53 → Rounded (round binary64 s a c) s a c
rounded_near s a c C h d =
    let near = places_near 53 a 2147483648 c one 2097152 (lit< tt) C (lit< tt) h (lit≤ tt) (le_trans (mul-le-mul_right 2097152 d) (lit≤ tt)) in
    let k = drop 53 (a * one) c in
    let x = kept 53 (a * one) c in
    record {
      grains = x * 2 ^ k;
      value =
          subst (λ (z : Float). HasValue z s (x * 2 ^ k) one) (sym (round_is binary64 s a c))
          (units_val binary64 s x k (lt_of_le_of_lt (near_limit (x * 2 ^ k) a c one C h near.0) (lit< tt)));
      at_most = near.0;
      at_least = near.1;
    }

-- ---- a float that is a / 1, divided by one that is c / 1
like_none : (s : Bool) → unlike s false ≡ s
like_none true = refl
like_none false = refl

-- the fraction that division hands to `round` is a / c
same_fraction : (a c mu e nd d : ℕ) → mu * 1 ≡ a * e → nd * 1 ≡ c * d → mu * d * c ≡ a * (nd * e)
same_fraction a c mu e nd d h k =
    ap (λ (x : ℕ). x * d * c) (sym (mul-one mu) ∙ h)
    ∙ crossed a e d c
    ∙ ap (λ (x : ℕ). a * (x * e)) (sym k ∙ mul-one nd)
  where
    crossed : (a e d c : ℕ) → a * e * d * c ≡ a * (c * d * e)
    crossed a e d c = omega arith

divided_is : (x y : Float) (s : Bool) (a c : ℕ) → 0 < c → HasValue x s a 1 → HasValue y false c 1 → div binary64 x y ≡ round binary64 s a c
unfolding div
divided_is nan y s a c C h k = absurd h
divided_is (inf t) y s a c C h k = absurd h
divided_is (fin t m e) nan s a c C h k = absurd k
divided_is (fin t m e) (inf u) s a c C h k = absurd k
divided_is (fin t m e) (fin u zero d) s a c C h k = absurd (lt_irrefl 0 (subst (λ (x : ℕ). 0 < x) (sym k.1 ∙ ap (λ (x : ℕ). x * 1) (zero-mul (up d)) ∙ zero-mul 1) (mul-pos C (down_pos d))))
divided_is (fin t m e) (fin u (suc n) d) s a c C h k =
    ap (λ (b : Bool). cond b (cond (eqb m 0) nan (inf (unlike t u))) (round binary64 (unlike t u) (m * up e * down d) (suc n * up d * down e))) (eqb-suc-zero n)
    ∙ (λ i. round binary64 (unlike (h.0 i) (k.0 i)) (m * up e * down d) (suc n * up d * down e))
    ∙ ap (λ (b : Bool). round binary64 b (m * up e * down d) (suc n * up d * down e)) (like_none s)
    ∙ round_same binary64 s (m * up e * down d) (suc n * up d * down e) a c (mul-pos (mul-pos (zero-lt-suc n) (up_pos d)) (down_pos e)) C (same_fraction a c (m * up e) (down e) (suc n * up d) (down d) h.1 k.1)

-- ---- the same in fractions
apart : (a b l : ℕ) → fine * a ≤ fine * b + l → fine * b ≤ fine * a + l → fine * nat_abs (pos a -ℤ pos b) ≤ l
apart a b l h k = rw (pos_sub a b) (omega (arith, abs_sub a b (l / fine) (omega arith) (omega arith)))

value_signed : (s : Bool) (m : ℕ) (e : ℤ) → value_of (fin s m e) ≡ signed (not s) (m * up e) over down e
value_signed true m e = refl
value_signed false m e = refl

-- a float that is g / l, times c, is near what g * c / l is near
of_value : (s : Bool) (g c l : ℕ) (x : Float) {h n : ℕ} {y : ℤ} → HasValue x s g l → Within h n (signed (not s) (g * c) over l) y → Within h n (value_of x times whole (pos c)) y
of_value s g c l nan v w = absurd v
of_value s g c l (inf t) v w = absurd v
of_value s g c l (fin t m e) {h} {n} {y} v w =
    subst (λ (f : Fraction). Within h n (f times whole (pos c)) y) (sym (value_signed t m e ∙ ap (λ (b : Bool). signed (not b) (m * up e) over down e) v.0))
    (within_same ((signed (not s) (m * up e) over down e) times whole (pos c)) (signed (not s) (g * c) over l) same (mul-pos (down_pos e) (lit< tt)) w)
  where
    crossed : (x y d : ℕ) → x * l ≡ y * d → x * c * l ≡ y * c * (d * 1)
    crossed x y d h = omega (arith, ap (λ (z : ℕ). z * c) h)

    same : signed (not s) (m * up e) *ℤ pos c *ℤ pos l ≡ signed (not s) (g * c) *ℤ pos (down e * 1)
    same =
        ap (λ (z : ℤ). z *ℤ pos l) (signed-*-pos (not s) (m * up e) c)
        ∙ signed-*-pos (not s) (m * up e * c) l
        ∙ ap (signed (not s)) (crossed (m * up e) g (down e) v.1)
        ∙ sym (signed-*-pos (not s) (g * c) (down e * 1))

-- a number that 53 digits hold is a float without loss
exactly : (s : Bool) (a : ℕ) → a ≤ 2 ^ 53 → Within 0 1 (value_of (round binary64 s a 1)) (signed (not s) a)
exactly s a h =
    subst (λ (f : Fraction). Within 0 1 f (signed (not s) a)) (times_one (value_of (round binary64 s a 1)))
    (of_value s a 1 1 (round binary64 s a 1) (round_whole binary64 s a h) (record { proper = lit< tt; near = le_of_eq (ap (λ (z : ℤ). 1 * nat_abs z) none) }))
  where
    none : signed (not s) a *ℤ pos 1 -ℤ signed (not s) (a * 1) ≡ pos 0
    none = ap (λ (z : ℤ). z -ℤ signed (not s) (a * 1)) (signed-*-pos (not s) a 1) ∙ +ℤ_invr (signed (not s) (a * 1))

pub whole_exact : (n : ℤ) → nat_abs n ≤ 2 ^ 53 → Within 0 1 (value_of (of_int binary64 n)) n
unfolding of_int
whole_exact (pos a) h = exactly false a h
whole_exact (negsuc k) h = exactly true (suc k) h

-- times c, the quotient is within 1 / fine of the number that was divided
near_within : (s : Bool) (a c : ℕ) (x : Float) → Rounded x s a c → Within 1 fine (value_of x times whole (pos c)) (signed (not s) a)
near_within s a c x n = of_value s n.grains c one x n.value (record { proper = lit< tt; near = near })
  where
    near : fine * nat_abs (signed (not s) a *ℤ pos one -ℤ signed (not s) (n.grains * c)) ≤ 1 * one
    near =
        subst (λ (z : ℤ). fine * nat_abs (z -ℤ signed (not s) (n.grains * c)) ≤ 1 * one) (sym (signed-*-pos (not s) a one))
        (subst (λ (k : ℕ). fine * k ≤ 1 * one) (sym (signed_apart (not s) (a * one) (n.grains * c)))
        (apart (a * one) (n.grains * c) one n.at_least n.at_most))

-- c is at most 2 ^ 53, and what is divided at most 2 ^ 31 in size
module _ (c : ℕ) (C : 0 < c) (d : c ≤ 2 ^ 53) where
  divided_near : (s : Bool) (a : ℕ) → a ≤ 2147483648 → Within 1 fine (value_of (div binary64 (round binary64 s a 1) (round binary64 false c 1)) times whole (pos c)) (signed (not s) a)
  divided_near s a h =
      near_within s a c _
      (subst (λ (x : Float). Rounded x s a c)
      (sym (divided_is (round binary64 s a 1) (round binary64 false c 1) s a c C (round_whole binary64 s a (le_trans h (lit≤ tt))) (round_whole binary64 false c d)))
      (rounded_near s a c C h d))

  pub quotient_near : (n : ℤ) → nat_abs n ≤ 2147483648 → Within 1 fine (value_of (n divided_by c) times whole (pos c)) n
  unfolding of_int
  quotient_near (pos a) h = divided_near false a h
  quotient_near (negsuc k) h = divided_near true (suc k) h

  -- so no two give one float
  pub same_whole : (n m : ℤ) → nat_abs n ≤ 2147483648 → nat_abs m ≤ 2147483648 → n divided_by c ≡ m divided_by c → n ≡ m
  same_whole n m h k e = one_number n m (lit< tt) (quotient_near n h) (subst (λ (x : Float). Within 1 fine (value_of x times whole (pos c)) m) (sym e) (quotient_near m k))
