-- Decimal degrees in billionths: how they are worked, how large they are, and the units that they say. Assumes nothing.
use mathlib.Core.Path.{◌≡◌, refl, sym, ap, ◌∙◌, subst}
use mathlib.Core.Bool.{Bool, true, false, cond}
use Prim.Native.Nat.{ℕ, zero, suc, ◌+◌, ◌-◌, ◌*◌, ◌<◌, ◌≤◌}
use native.Mathlib.Omega.{arith}
use lib.Dec.{T, leb, le→leb}
use lib.IntN.{ℤ, pos, negsuc, neg_ℤ, nat_abs, ◌-ℤ◌, ◌*ℤ◌}
use lib.Signed.{le_z, le_z_yes, non_neg}
use borrow.Author.Tests.{leb-true, leb-false, le-leb, lt-leb}
use Rattle.whole.specs.Round.{round_half_up, round_div}
use Rattle.whole.proofs.Bools.{both, joined, by_test, computed}
use Rattle.whole.proofs.Demands.{in_order}
use Rattle.whole.proofs.Orders.{by_parts, of_parts}
use Rattle.whole.proofs.Ring.{up, down, same, add_is, neg_is, mul_is}
use Rattle.whole.proofs.Signs.{signed, by_sign, signed-*, signed-*-pos, signed_round}
use Rattle.whole.proofs.Sizes.{abs_neg, abs_sub}
use Rattle.kinds.specs.Kinds.{within, is_wgs84_latitude}
use Rattle.kinds.proofs.Ranges.{wider}
use Rattle.decimal.specs.Decimal.{billion}
use Rattle.waypoint.specs.Waypoint.{degrees, east_or_west}
use Rattle.waypoint.specs.Office.{units_of, west_as_negative}

-- ---- by the sign and the size
-- so many billionths
abbrev billionths_of : ℕ → ℕ
billionths_of n = round_half_up (n * billion) 360000000

signed_degrees : (s : Bool) (n : ℕ) → degrees (signed s n) ≡ signed s (billionths_of n)
unfolding degrees
signed_degrees s n = ap (λ (z : ℤ). round_div z 360000000) (signed-*-pos s n billion) ∙ signed_round s (n * billion) 360000000

degrees_is : (x : ℤ) → degrees x ≡ signed (non_neg x) (billionths_of (nat_abs x))
degrees_is x = ap degrees (by_sign x) ∙ signed_degrees (non_neg x) (nat_abs x)

signed_size : (s : Bool) (n : ℕ) → nat_abs (signed s n) ≡ n
signed_size true n = refl
signed_size false n = abs_neg (pos n)

size_is : (x : ℤ) → nat_abs (degrees x) ≡ billionths_of (nat_abs x)
size_is x = ap nat_abs (degrees_is x) ∙ signed_size (non_neg x) (billionths_of (nat_abs x))

-- ---- 25 billionths are 9 units: 'n / 360,000,000' in billionths is 25 n / 9
nines : (n : ℕ) → round_half_up (25 * n) 9 ≡ billionths_of n
nines n = omega arith

pub by_nines : (x : ℤ) → round_div (pos 25 *ℤ x) 9 ≡ degrees x
by_nines x =
    ap (λ (z : ℤ). round_div (pos 25 *ℤ z) 9) (by_sign x)
    ∙ ap (λ (z : ℤ). round_div z 9) (signed-* true (non_neg x) 25 (nat_abs x))
    ∙ signed_round (non_neg x) (25 * nat_abs x) 9
    ∙ ap (signed (non_neg x)) (nines (nat_abs x))
    ∙ sym (degrees_is x)

-- ---- the units are found again
again : (n : ℕ) → round_half_up (billionths_of n * 360000000) billion ≡ n
again n = omega arith

pub units_again : (x : ℤ) → units_of (degrees x) ≡ x
unfolding units_of
units_again x =
    let s : Bool = non_neg x in
    let d : ℕ = billionths_of (nat_abs x) in
    ap units_of (degrees_is x)
    ∙ ap (λ (z : ℤ). round_div z billion) (signed-*-pos s d 360000000)
    ∙ signed_round s (d * 360000000) billion
    ∙ ap (signed s) (again (nat_abs x))
    ∙ sym (by_sign x)

-- ---- a turn less of the rounded number is the rounded number of a turn less: no half occurs
a_turn : (m k : ℕ) → m + k ≡ 129600000000 → billionths_of k + billionths_of m ≡ 360000000000
a_turn m k h = omega arith

a_turn_more : (m k : ℕ) → m ≡ 129600000000 + k → billionths_of m ≡ 360000000000 + billionths_of k
a_turn_more m k h = omega arith

half_turn : (m : ℕ) → leb 180000000000 (billionths_of m) ≡ leb 64800000000 m
half_turn m =
    by_test (leb 64800000000 m)
    (λ t. le-leb 180000000000 (billionths_of m) (omega (arith, leb-true 64800000000 m t)) ∙ sym t)
    (λ t. lt-leb 180000000000 (billionths_of m) (omega (arith, leb-false 64800000000 m t)) ∙ sym t)

-- a difference of naturals, by which is larger
less : (a b k : ℕ) → a + k ≡ b → pos a -ℤ pos b ≡ signed false k
less a b k h = same _ _ (omega (arith, add_is (pos a) (neg_ℤ (pos b)), neg_is (pos b), neg_is (pos k)))

more : (a b k : ℕ) → a ≡ b + k → pos a -ℤ pos b ≡ signed true k
more a b k h = same _ _ (omega (arith, add_is (pos a) (neg_ℤ (pos b)), neg_is (pos b)))

wrapped : (m : ℕ) → pos (billionths_of m) -ℤ pos 360000000000 ≡ degrees (pos m -ℤ pos 129600000000)
wrapped m =
    by_test (leb m 129600000000)
    (λ t.
    let k : ℕ = 129600000000 - m in
    let e : m + k ≡ 129600000000 = omega (arith, leb-true m 129600000000 t) in
    less (billionths_of m) 360000000000 (billionths_of k) (omega (arith, a_turn m k e)) ∙ sym (signed_degrees false k) ∙ ap degrees (sym (less m 129600000000 k e)))
    (λ t.
    let k : ℕ = m - 129600000000 in
    let e : m ≡ 129600000000 + k = omega (arith, leb-false m 129600000000 t) in
    more (billionths_of m) 360000000000 (billionths_of k) (a_turn_more m k e) ∙ sym (signed_degrees true k) ∙ ap degrees (sym (more m 129600000000 k e)))

negative : (n : ℕ) → le_z (pos 180000000000) (neg_ℤ (pos n)) ≡ false
negative zero = refl
negative (suc n) = refl

pub wrapped_first : (x : ℤ) → east_or_west (degrees x) ≡ degrees (west_as_negative x)
wrapped_first (pos m) =
    by_test (leb 64800000000 m)
    (λ t. ap east_or_west (signed_degrees true m) ∙ simp (half_turn m, t) (wrapped m))
    (λ t. ap east_or_west (signed_degrees true m) ∙ simp (half_turn m, t) (sym (signed_degrees true m)))
wrapped_first (negsuc m) =
    ap east_or_west (signed_degrees false (suc m)) ∙ simp (negative (billionths_of (suc m))) (sym (signed_degrees false (suc m)))

-- ---- how large they are
-- below 100°: 11 digits, and below 1,000°: 12
pub two_digits : (x : ℤ) → nat_abs x < 36000000000 → nat_abs (degrees x) < 100000000000
two_digits x h = omega (arith, size_is x)

pub few_digits : (x : ℤ) → nat_abs x < 360000000000 → nat_abs (degrees x) < 1000000000000
few_digits x h = omega (arith, size_is x)

pub few_wrapped : (x : ℤ) → nat_abs x < 360000000000 → nat_abs (east_or_west (degrees x)) < 1000000000000
few_wrapped x h = go (degrees x) (few_digits x h)
  where
    go : (z : ℤ) → nat_abs z < 1000000000000 → nat_abs (east_or_west z) < 1000000000000
    go (pos d) h =
        by_test (leb 180000000000 d)
        (λ t. simp t (omega (arith, abs_sub d 360000000000 999999999999 (omega arith) (omega arith))))
        (λ t. simp t h)
    go (negsuc d) h = h

-- in the order of the units
degrees_order : (x y : ℤ) → le_z x y ≡ true → le_z (degrees x) (degrees y) ≡ true
unfolding degrees
degrees_order x y h =
    computed _
    (in_order {m = x *ℤ pos billion} {n = y *ℤ pos billion} {d = 360000000} (omega arith)
    (le_z_yes (of_parts (x *ℤ pos billion) (y *ℤ pos billion) (omega (arith, mul_is x (pos billion), mul_is y (pos billion), by_parts x y (subst T (sym h) tt)))))
    ).le

degrees_within : (a b x : ℤ) → within a b x ≡ true → within (degrees a) (degrees b) (degrees x) ≡ true
degrees_within a b x h = let p = both (le_z a x) (le_z x b) h in joined (degrees_order a x p.0) (degrees_order x b p.1)

-- between the poles
pub latitude_between : (x : ℤ) → is_wgs84_latitude x ≡ true → within (neg_ℤ (pos 90000000000)) (pos 90000000000) (degrees x) ≡ true
unfolding degrees round_div
latitude_between x h = degrees_within (neg_ℤ (pos 32400000000)) (pos 32400000000) x h

-- ---- a longitude that is converted: from 6° west of Greenwich to 306° east
abbrev pub is_near : ℤ → Bool
is_near x = within (neg_ℤ (pos 2147483648)) (pos 110147483647) x

-- from 180° up a turn less is no longitude below that
module _ (x : ℤ) (h : is_near x ≡ true) where
  low : up (neg_ℤ (pos 2147483648)) + down x ≤ up x + down (neg_ℤ (pos 2147483648))
  low = by_parts (neg_ℤ (pos 2147483648)) x (subst T (sym (both (le_z (neg_ℤ (pos 2147483648)) x) (le_z x (pos 110147483647)) h).0) tt)

  high : up x + down (pos 110147483647) ≤ up (pos 110147483647) + down x
  high = by_parts x (pos 110147483647) (subst T (sym (both (le_z (neg_ℤ (pos 2147483648)) x) (le_z x (pos 110147483647)) h).1) tt)

  module _ (t : le_z (pos 64800000000) x ≡ true) where
    far : up (pos 64800000000) + down x ≤ up x + down (pos 64800000000)
    far = by_parts (pos 64800000000) x (subst T (sym t) tt)

    far_between : within (neg_ℤ (pos 64800000000)) (pos 64799999999) (x -ℤ pos 129600000000) ≡ true
    far_between =
        joined
        (computed (le_z (neg_ℤ (pos 64800000000)) (x -ℤ pos 129600000000)) (of_parts (neg_ℤ (pos 64800000000)) (x -ℤ pos 129600000000) (omega (arith, far, add_is x (neg_ℤ (pos 129600000000))))))
        (computed (le_z (x -ℤ pos 129600000000) (pos 64799999999)) (of_parts (x -ℤ pos 129600000000) (pos 64799999999) (omega (arith, high, add_is x (neg_ℤ (pos 129600000000))))))

  near : le_z (pos 64800000000) x ≡ false → up x + down (pos 64799999999) ≤ up (pos 64799999999) + down x
  near t = by_parts x (pos 64799999999) (go x t)
    where
      go : (x : ℤ) → le_z (pos 64800000000) x ≡ false → T (le_z x (pos 64799999999))
      go (pos m) t = le→leb m 64799999999 (omega (arith, leb-false 64800000000 m t))
      go (negsuc m) t = tt

  west_between : within (neg_ℤ (pos 64800000000)) (pos 64799999999) (west_as_negative x) ≡ true
  west_between =
      by_test (le_z (pos 64800000000) x)
      (λ t. simp t (far_between t))
      (λ t.
      simp t
      (joined
      (computed (le_z (neg_ℤ (pos 64800000000)) x) (of_parts (neg_ℤ (pos 64800000000)) x (omega (arith, low))))
      (computed (le_z x (pos 64799999999)) (of_parts x (pos 64799999999) (near t)))))

  -- so it is printed from -180° up to but not 180°
  pub longitude_between : within (neg_ℤ (pos 180000000000)) (pos 179999999999) (east_or_west (degrees x)) ≡ true
  unfolding degrees round_div
  longitude_between =
      ap (within (neg_ℤ (pos 180000000000)) (pos 179999999999)) (wrapped_first x)
      ∙ wider (degrees (neg_ℤ (pos 64800000000))) (degrees (pos 64799999999)) (neg_ℤ (pos 180000000000)) (pos 179999999999) (degrees (west_as_negative x)) refl refl
      (degrees_within (neg_ℤ (pos 64800000000)) (pos 64799999999) (west_as_negative x) west_between)

-- and two such are told apart
pub longitudes_apart : (x y : ℤ) → is_near x ≡ true → is_near y ≡ true → east_or_west (degrees x) ≡ east_or_west (degrees y) → x ≡ y
longitudes_apart x y h k e = go (le_z (pos 64800000000) x) (le_z (pos 64800000000) y) refl refl (told x ∙ ap units_of e ∙ sym (told y))
  where
    told : (x : ℤ) → west_as_negative x ≡ units_of (east_or_west (degrees x))
    told x = sym (ap units_of (wrapped_first x) ∙ units_again (west_as_negative x))

    go : (a b : Bool) → le_z (pos 64800000000) x ≡ a → le_z (pos 64800000000) y ≡ b → cond a (x -ℤ pos 129600000000) x ≡ cond b (y -ℤ pos 129600000000) y → x ≡ y
    go true true t u e = same x y (omega (arith, add_is x (neg_ℤ (pos 129600000000)), add_is y (neg_ℤ (pos 129600000000)), ap up e, ap down e))
    go true false t u e = absurd (omega (arith, high x h, low y k, add_is x (neg_ℤ (pos 129600000000)), ap up e, ap down e))
    go false true t u e = absurd (omega (arith, high y k, low x h, add_is y (neg_ℤ (pos 129600000000)), ap up e, ap down e))
    go false false t u e = e
