-- What document 01 asks of a point's answer, and document 02 of its converted position. Stated over specs/ alone. Assumes nothing.
use mathlib.Core.Path.{◌≡◌, refl, sym, ap, subst}
use mathlib.Core.Bool.{Bool, true, false, false≢true}
use mathlib.Core.List.{List, [], ◌∷◌}
use mathlib.Core.Logic.{◌↔◌, ◌⊎◌}
use Prim.Native.Nat.{ℕ, ◌<◌, ◌^◌}
use lib.Dec.{T, lit<, lit≤}
use lib.IntN.{ℤ, pos, neg_ℤ}
use Rattle.std.specs.Prelude.{Result}
use Rattle.whole.specs.Round.{round_div}
use Rattle.whole.proofs.Bools.{both}
use Rattle.kinds.specs.Answer.{Answer, gives, refused, provided, Test}
use Rattle.kinds.specs.Kinds.{within, is_position, is_wgs84_latitude, is_four_bytes, converted}
use Rattle.kinds.specs.declared.Refusal.{Refusal}
use Rattle.kinds.specs.declared.Height.{Height}
use Rattle.kinds.proofs.Answers.{one_of, first_failed, fails_at, determined, is, is_or}
use Rattle.kinds.proofs.Demands.{given_where}
use Rattle.equation.specs.Powers.{power, powers_of}
use Rattle.equation.specs.Equation.{sum}
use Rattle.equation.specs.Exact.{whole, ◌times◌, ◌to_the◌, exact_of, Within, Beyond}
use Rattle.tables.specs.Page.{Page, Equation, Family, shift, geoid, is_shift, is_geoid, is_either, each, Each, OfShift, OfGeoid}
use Rattle.tables.specs.Rule.{in_box, in_area, worked}
use Rattle.tables.proofs.Limits.{row_keeps}
use Rattle.tables.proofs.Bounds.{row_bounded}
use Rattle.datum.specs.Point.{is_code, row, page_of, point_of, tests, asked, answer_of, shift_of, geoid_of, converted_of, values_of}
use Rattle.datum.specs.Exact.{exact, at_centre, AllWithin, demanded, bounds_of}
use Rattle.datum.specs.Cases.{shift_says, geoid_says, given_says, shift_answer, geoid_answer, point_answer}
use Rattle.datum.specs.declared.Shifts.{Shifts}
use Rattle.datum.specs.declared.Given.{Given}
use Rattle.datum.proofs.Codes.{not_shift, not_geoid}
use Rattle.datum.proofs.Points.{fit}
use Rattle.datum.proofs.Converted as moved
use Rattle.datum.proofs.Errors.{point_near, no_narrower, all_widened, same_demand, row_demanded, over_power, row_over, centres_apart, no_one_answer}

-- ---- 'Order for a point: 4, 5, 3, 6': when each number is given, whichever family is asked of
module _ (family : Family Equation → Bool) (code latitude longitude : ℤ) where
  abbrev page : Page
  page = page_of code

  abbrev is_asked : Bool
  is_asked = family page.equations

  abbrev in_turn : List Test
  in_turn = tests family code latitude longitude

  abbrev value : Family ℤ
  value = worked page latitude longitude

  pub given_4 : (asked family code latitude longitude ≡ refused 4) ↔ (is_code code ≡ false)
  given_4 = fails_at in_turn value 0 refl

  pub given_5 : (asked family code latitude longitude ≡ refused 5) ↔ ((is_code code ≡ true) × (is_asked ≡ false))
  given_5 = fails_at in_turn value 1 refl

  pub given_3 : (asked family code latitude longitude ≡ refused 3) ↔ ((is_code code ≡ true) × ((is_asked ≡ true) × (is_position latitude longitude ≡ false)))
  given_3 = fails_at in_turn value 2 refl

  pub given_6 : (asked family code latitude longitude ≡ refused 6) ↔ ((is_code code ≡ true) × ((is_asked ≡ true) × ((is_position latitude longitude ≡ true) × (in_area page latitude longitude ≡ false))))
  given_6 = fails_at in_turn value 3 refl

  -- no other number is given
  pub given_one_of : (n : ℕ) → asked family code latitude longitude ≡ refused n → (n ≡ 4) ⊎ ((n ≡ 5) ⊎ ((n ≡ 3) ⊎ (n ≡ 6)))
  given_one_of n h = one_of in_turn n (first_failed in_turn value n h)

  -- so 0 is the number of none
  pub above_0 : (n : ℕ) → asked family code latitude longitude ≡ refused n → 0 < n
  above_0 n e = is_or 4 (lit< tt) (is_or 5 (lit< tt) (is_or 3 (lit< tt) (is 6 (lit< tt)))) (given_one_of n e)

  -- and where none is, the answer is the one that the printed coefficients give
  pub answered : (values : Family ℤ) → (asked family code latitude longitude ≡ gives values) ↔ (((is_code code ≡ true) × (is_asked ≡ true)) × (((is_position latitude longitude ≡ true) × (in_area page latitude longitude ≡ true)) × (worked page latitude longitude ≡ values)))
  answered values = (
    (λ h.
        let p = (given_where in_turn value values).0 h in
        ((p.0.0, p.0.1.0), ((p.0.1.1.0, p.0.1.1.1.0), p.1))),
    (λ h. (given_where in_turn value values).1 ((h.0.0, (h.0.1, (h.1.0.0, (h.1.0.1, tt)))), h.1.1)),
  )

-- ---- 'a shift is asked of code 5 or 6, or a geoid height of code 1 to 4'
pub shift_5 : (code latitude longitude : ℤ) → (shift_of code latitude longitude ≡ refused 5) ↔ (within (pos 5) (pos 6) code ≡ true)
shift_5 code latitude longitude = (
  (λ h. (not_shift code).0 ((given_5 is_shift code latitude longitude).0 h)),
  (λ h. (given_5 is_shift code latitude longitude).1 ((not_shift code).1 h)),
)

pub geoid_5 : (code latitude longitude : ℤ) → (geoid_of code latitude longitude ≡ refused 5) ↔ (within (pos 1) (pos 4) code ≡ true)
geoid_5 code latitude longitude = (
  (λ h. (not_geoid code).0 ((given_5 is_geoid code latitude longitude).0 h)),
  (λ h. (given_5 is_geoid code latitude longitude).1 ((not_geoid code).1 h)),
)

-- what takes both families never gives it
pub answer_never_5 : (code latitude longitude : ℤ) → answer_of code latitude longitude ≡ refused 5 → ⊥
answer_never_5 code latitude longitude h = false≢true (sym ((given_5 is_either code latitude longitude).0 h).1)

-- and a shift or a geoid height is that, with the family tested
pub family_tested : (family : Family Equation → Bool) (code latitude longitude : ℤ) → asked family code latitude longitude ≡ provided (is_code code) 4 (provided (is_asked family code latitude longitude) 5 (answer_of code latitude longitude))
family_tested family code latitude longitude = go (is_code code)
  where
    point : Answer (Family ℤ)
    point = point_of (page_of code) latitude longitude

    go : (b : Bool) → provided b 4 (provided (is_asked family code latitude longitude) 5 point) ≡ provided b 4 (provided (is_asked family code latitude longitude) 5 (provided b 4 point))
    go true = refl
    go false = refl

-- ---- 'dLat, dLon, dH, or N and two zeros', with `none` for the zeros; and three of these where the point is refused
pub three_values : {A : Type 0} (none a b c : A) (n : ℕ)
    → (values_of none (gives (shift a b c)) ≡ a ∷ b ∷ c ∷ []) × (values_of none (gives (geoid a)) ≡ a ∷ none ∷ none ∷ [])
    × (values_of none (refused n) ≡ none ∷ none ∷ none ∷ [])
three_values none a b c n = (refl, refl, refl)

-- ---- the answers fit 4 bytes
pub four_bytes : (family : Family Equation → Bool) (code latitude longitude : ℤ) {values : Family ℤ} → asked family code latitude longitude ≡ gives values → each is_four_bytes values ≡ true
four_bytes family code latitude longitude {values} h =
    let p = (answered family code latitude longitude values).0 h in
    subst (λ (v : Family ℤ). each is_four_bytes v ≡ true) p.1.1
    (fit (page_of code) (row_keeps (row code)) latitude longitude (both (is_position latitude longitude) (in_box (page_of code) latitude longitude) p.1.0.1).1)

-- ---- document 02, wish 1: 'The converted position is 100 times the ms plus the shift, in hundred-thousandths of a second'
-- a point has one exactly where it has a shift, and it is refused exactly as that is
module _ (code latitude longitude : ℤ) where
  pub converted_where : (north east : ℤ) → (converted_of code latitude longitude ≡ gives (north, east))
      ↔ ((d_lat : ℤ) × ((d_lon : ℤ) × ((d_h : ℤ) × ((shift_of code latitude longitude ≡ gives (shift d_lat d_lon d_h)) × ((converted latitude d_lat ≡ north) × (converted longitude d_lon ≡ east))))))
  converted_where north east = (
    (λ h. moved.from_shift code latitude longitude h),
    (λ h. moved.of_shift code latitude longitude h),
  )

  pub converted_refused : (n : ℕ) → (converted_of code latitude longitude ≡ refused n) ↔ (shift_of code latitude longitude ≡ refused n)
  converted_refused n = moved.as_refused code latitude longitude n

  -- it lies between the poles, and between 6° west of Greenwich and 306° east
  pub converted_between : (north east : ℤ) → converted_of code latitude longitude ≡ gives (north, east)
      → (is_wgs84_latitude north ≡ true) × (within (neg_ℤ (pos 2147483648)) (pos 110147483647) east ≡ true)
  converted_between north east h = moved.settled code latitude longitude h

-- ---- demand 3: how near the answer is to the exact value of the printed polynomial
-- the exact value is a fraction: dLat of code 1 at document 000's test point, times this bottom, is this top
pub exact_worked : OfShift (exact (page_of (pos 1)) (pos 125003316) (pos 116886026)) (λ d_lat d_lon d_h. Within 0 1 (d_lat times whole (pos 84375000000000000000000000)) (neg_ℤ (pos 32776347003777073227729494015291)))
unfolding exact_of ◌to_the◌
exact_worked = record { proper = lit< tt; near = lit≤ tt }

-- each exact value is a whole number over the 18th power of 360,000,000,000,000
pub over_one_power : (code latitude longitude : ℤ) → is_code code ≡ true → Each (λ f. (n : ℤ) × Within 0 1 (f times whole (pos (360000000000000 ^ 18))) n) (exact (page_of code) latitude longitude)
over_one_power code latitude longitude h = over_power (page_of code) (row_over (row code)) latitude longitude

module _ (family : Family Equation → Bool) (code latitude longitude : ℤ) where
  -- whichever call gives values, each is within its bound in the table
  pub within_bounds : {values : Family ℤ} → asked family code latitude longitude ≡ gives values → AllWithin 1000 (bounds_of code) (exact (page_of code) latitude longitude) values
  within_bounds {values} h =
      let p = (answered family code latitude longitude values).0 h in
      subst (AllWithin 1000 (bounds_of code) (exact (page_of code) latitude longitude)) p.1.1
      (point_near (page_of code) (row_keeps (row code)) (row_bounded (row code)) latitude longitude (both (is_position latitude longitude) (in_box (page_of code) latitude longitude) p.1.0.1).1)

  -- so demand 3 is met
  pub as_demanded : {values : Family ℤ} → asked family code latitude longitude ≡ gives values → AllWithin 1 (demanded values) (exact (page_of code) latitude longitude) values
  as_demanded {values} h =
      all_widened 1000 1 (lit< tt) (bounds_of code) (demanded values) (exact (page_of code) latitude longitude) values
      (subst (λ (v : Family ℤ). T (no_narrower 1000 1 (bounds_of code) (demanded v))) ((answered family code latitude longitude values).0 h).1.1
      (subst (λ (d : Family ℕ). T (no_narrower 1000 1 (bounds_of code) d)) (sym (same_demand _ (page_of code).equations)) (row_demanded (row code))))
      (within_bounds h)

  -- and 'each point in its area' is answered: a call that takes the code's family refuses none of them
  pub in_its_area : is_code code ≡ true → family (page_of code).equations ≡ true → in_area (page_of code) latitude longitude ≡ true
      → (asked family code latitude longitude ≡ gives (worked (page_of code) latitude longitude))
      × AllWithin 1 (demanded (worked (page_of code) latitude longitude)) (exact (page_of code) latitude longitude) (worked (page_of code) latitude longitude)
  in_its_area coded is-asked inside =
      let ranged = (both (is_position latitude longitude) (in_box (page_of code) latitude longitude) inside).0 in
      let e = (answered family code latitude longitude (worked (page_of code) latitude longitude)).1 ((coded, is-asked), ((ranged, inside), refl)) in
      (e, as_demanded e)

  -- a shift's three numbers are within 2, 2 and 1 units of the exact values of their polynomials
  pub shift_near : (a b c : ℤ) → asked family code latitude longitude ≡ gives (shift a b c) → OfShift (exact (page_of code) latitude longitude) (λ d_lat d_lon d_h. Within 2 1 d_lat a × Within 2 1 d_lon b × Within 1 1 d_h c)
  shift_near a b c h = as_demanded h

  -- and a geoid height is within 1
  pub geoid_near : (a : ℤ) → asked family code latitude longitude ≡ gives (geoid a) → OfGeoid (exact (page_of code) latitude longitude) (λ n. Within 1 1 n a)
  geoid_near a h = as_demanded h

-- what is not so: that the last rounding is the only error. Of neither angle of code 2 is one half a bound; each is passed at
-- a point of the area
pub record Over-half : Type 0 where
  pub latitude_worked : answer_of (pos 2) (pos 14444031) (pos 52498162) ≡ gives (shift (neg_ℤ (pos 5818369)) (neg_ℤ (pos 310459)) (pos 30368))
  pub latitude_far : OfShift (exact (page_of (pos 2)) (pos 14444031) (pos 52498162)) (λ d_lat d_lon d_h. Beyond 1 2 d_lat (neg_ℤ (pos 5818369)))
  pub longitude_worked : answer_of (pos 2) (pos 18086400) (pos 9000000) ≡ gives (shift (neg_ℤ (pos 456159)) (neg_ℤ (pos 309433)) (pos 27697))
  pub longitude_far : OfShift (exact (page_of (pos 2)) (pos 18086400) (pos 9000000)) (λ d_lat d_lon d_h. Beyond 1 2 d_lon (neg_ℤ (pos 309433)))

pub over_half : Over-half
unfolding round_div power powers_of sum exact_of ◌to_the◌
over_half = record {
  latitude_worked = refl;
  latitude_far = record { proper = lit< tt; far = lit< tt };
  longitude_worked = refl;
  longitude_far = record { proper = lit< tt; far = lit< tt };
}

-- 'One fixed answer breaks demand 3 between two centres': whichever two they are
pub no_fixed_answer : (c d : ℤ) → is_code c ≡ true → is_code d ≡ true → (c ≡ d → ⊥) → (values : Family ℤ)
    → AllWithin 1 (demanded values) (at_centre (page_of c)) values → AllWithin 1 (demanded values) (at_centre (page_of d)) values → ⊥
no_fixed_answer c d h k other values = no_one_answer _ _ values (centres_apart c d h k other)

-- ---- 'that two permitted answers coincide is proved'
pub shifts_determined : (a b : Shifts) → shift_says a ≡ shift_says b → a ≡ b
shifts_determined a b h = ap rebuilt h
  where
    rebuilt : Family ℤ → Shifts
    rebuilt (shift x y z) = record { latitude = record { 0 = x }; longitude = record { 0 = y }; height = record { 0 = z } }
    rebuilt (geoid n) = a

pub geoid_height_determined : (a b : Height) → geoid_says a ≡ geoid_says b → a ≡ b
geoid_height_determined a b h = ap rebuilt h
  where
    rebuilt : Family ℤ → Height
    rebuilt (shift x y z) = a
    rebuilt (geoid n) = record { 0 = n }

-- two results that say the same are the same
pub shift_determined : (a b : Result Shifts Refusal) → shift_answer a ≡ shift_answer b → a ≡ b
shift_determined = determined shift_says made (λ _. refl)
  where
    made : Family ℤ → Shifts
    made (shift a b c) = record { latitude = record { 0 = a }; longitude = record { 0 = b }; height = record { 0 = c } }
    made (geoid n) = record { latitude = record { 0 = n }; longitude = record { 0 = n }; height = record { 0 = n } }

pub geoid_determined : (a b : Result Height Refusal) → geoid_answer a ≡ geoid_answer b → a ≡ b
geoid_determined = determined geoid_says made (λ _. refl)
  where
    made : Family ℤ → Height
    made (shift a b c) = record { 0 = a }
    made (geoid n) = record { 0 = n }

pub point_determined : (a b : Result Given Refusal) → point_answer a ≡ point_answer b → a ≡ b
point_determined = determined given_says made back
  where
    made : Family ℤ → Given
    made (shift a b c) = Given.Shift (record { latitude = record { 0 = a }; longitude = record { 0 = b }; height = record { 0 = c } })
    made (geoid n) = Given.Geoid (record { 0 = n })

    back : (g : Given) → made (given_says g) ≡ g
    back (Given.Shift s) = refl
    back (Given.Geoid n) = refl
