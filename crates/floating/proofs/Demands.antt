-- What document 01 asks of the floating numbers. Stated over specs/ and the toolchain's library, which has IEEE 754. Assumes nothing.
use mathlib.Core.Path.{◌≡◌, refl, sym, ap, ◌∙◌, subst}
use mathlib.Core.Bool.{true}
use mathlib.Core.List.{List, [], ◌∷◌, map}
use mathlib.Core.Logic.{◌↔◌}
use Prim.Native.Nat.{ℕ, ◌+◌}
use native.Mathlib.Nat.{le_trans}
use lib.Dec.{T, lit<, lit≤}
use lib.IntN.{ℤ, pos, neg_ℤ}
use lib.Ieee.{Float, binary64, div, of_bits, of_int, round}
use Rattle.whole.specs.Round.{round_div}
use Rattle.kinds.specs.Answer as Said
use Rattle.kinds.specs.Answer.{gives, refused, refusal_of}
use Rattle.kinds.specs.Kinds.{is_four_bytes}
use Rattle.kinds.proofs.Answers.{told}
use Rattle.equation.specs.Powers.{power, powers_of}
use Rattle.equation.specs.Equation.{sum}
use Rattle.equation.specs.Exact.{◌over◌, whole, Within}
use Rattle.tables.specs.Page.{Family, shift, geoid, is_either, of_each}
use Rattle.tables.specs.Rule.{in_area, worked}
use Rattle.datum.specs.Point.{is_code, row, page_of, answer_of, first_of, second_of, third_of}
use Rattle.datum.specs.Exact.{exact, demanded, bounds_of}
use Rattle.datum.proofs.Errors.{no_narrower, same_demand, row_float_demanded}
use Rattle.datum.proofs.Demands as datum
use Rattle.floating.specs.Floats.{per_second, per_metre, seconds, metres, in_floats, answer_in_floats, floating_of, float_zero}
use Rattle.floating.specs.Cases.{floats_say, float_answer}
use Rattle.floating.specs.Value.{value_of, in_units, FloatsWithin}
use Rattle.floating.specs.declared.ShiftFloats.{ShiftFloats}
use Rattle.floating.specs.declared.Answer.{Answer}
use Rattle.floating.specs.declared.Answer.TheVariants.{Shift, Geoid, Refused}
use Rattle.floating.proofs.Calls.{per_second_lem, per_metre_lem, no_value}
use Rattle.floating.proofs.Quotients.{whole_exact, quotient_near}
use Rattle.floating.proofs.Answers as answers

-- ---- the number that a float is, shown: -0.75 is -3 / 4
pub value_shown : value_of (of_bits binary64 0xbfe8_0000_0000_0000) ≡ neg_ℤ (pos 3) over 4
unfolding of_bits
value_shown = refl

-- ---- 'the whole answer made a 64-bit float without loss'
pub without_loss : (n : ℤ) → is_four_bytes n ≡ true → Within 0 1 (value_of (of_int binary64 n)) n
without_loss n h = whole_exact n (le_trans (answers.held n h) (lit≤ tt))

-- ---- 'then divided once by 100000 or by 1000': the divisors are these numbers exactly, and have the bits of the code's constants
pub record Divisors : Type 0 where
  pub second : value_of (of_int binary64 (pos per_second)) ≡ whole (pos 100000)
  pub metre : value_of (of_int binary64 (pos per_metre)) ≡ whole (pos 1000)
  pub second_bits : of_bits binary64 0x40f8_6a00_0000_0000 ≡ of_int binary64 (pos per_second)
  pub metre_bits : of_bits binary64 0x408f_4000_0000_0000 ≡ of_int binary64 (pos per_metre)

pub divisors : Divisors
unfolding of_int round
divisors = record { second = refl; metre = refl; second_bits = per_second_lem; metre_bits = per_metre_lem }

-- and the zero of a refusal is no -0
pub zero_worked : of_bits binary64 0x0000_0000_0000_0000 ≡ float_zero
zero_worked = no_value

-- ---- 'rounded by IEEE 754': whole numbers, and the bits of their floats
abbrev angles : List (ℤ × ℕ)
angles =
    (neg_ℤ (pos 384288), 0xc00e_be37_de93_9eae)
    ∷ (neg_ℤ (pos 110294), 0xbff1_a5a4_69d7_342f)
    ∷ (pos 49461, 0x3fdf_a7b0_b391_9264)
    ∷ (pos 1, 0x3ee4_f8b5_88e3_68f1)
    ∷ (pos 0, 0x0000_0000_0000_0000)
    ∷ (neg_ℤ (pos 1), 0xbee4_f8b5_88e3_68f1)
    ∷ (pos 2147483647, 0x40d4_f8b5_88b9_7785)
    ∷ (neg_ℤ (pos 2147483648), 0xc0d4_f8b5_88e3_68f1)
    ∷ []

abbrev heights : List (ℤ × ℕ)
heights =
    (neg_ℤ (pos 979), 0xbfef_53f7_ced9_1687)
    ∷ (pos 7464, 0x401d_db22_d0e5_6042)
    ∷ (pos 24430, 0x4038_6e14_7ae1_47ae)
    ∷ (neg_ℤ (pos 28376), 0xc03c_6041_8937_4bc7)
    ∷ (pos 1, 0x3f50_624d_d2f1_a9fc)
    ∷ (pos 0, 0x0000_0000_0000_0000)
    ∷ []

pub seconds_worked : map (λ row. seconds row.0) angles ≡ map (λ row. of_bits binary64 row.1) angles
unfolding div of_int of_bits round
seconds_worked = refl

pub metres_worked : map (λ row. metres row.0) heights ≡ map (λ row. of_bits binary64 row.1) heights
unfolding div of_int of_bits round
metres_worked = refl

-- and whole points: the centres of codes 1 and 5
pub record Centres : Type 0 where
  pub code_1 : floating_of (pos 1) (pos 126000000) (pos 118800000)
      ≡ gives (shift (of_bits binary64 0xc00e_be37_de93_9eae) (of_bits binary64 0xbff1_a5a4_69d7_342f) (of_bits binary64 0x4038_6e14_7ae1_47ae))
  pub code_5 : floating_of (pos 5) (pos 25200000) (pos 288000000) ≡ gives (geoid (of_bits binary64 0xbfef_53f7_ced9_1687))

pub centres : Centres
unfolding round_div power powers_of sum div of_int of_bits round
centres = record { code_1 = refl; code_5 = refl }

-- ---- no two whole answers have one floating answer
-- times its units, a float is within 1 / 4194304 of the whole answer
pub near_whole : (n : ℤ) → is_four_bytes n ≡ true → Within 1 4194304 (in_units 100000 (seconds n)) n × Within 1 4194304 (in_units 1000 (metres n)) n
near_whole n h = (quotient_near 100000 (lit< tt) (lit≤ tt) n (answers.held n h), quotient_near 1000 (lit< tt) (lit≤ tt) n (answers.held n h))

-- no two angles have one float, and no two heights
pub nothing_lost : (n m : ℤ) → is_four_bytes n ≡ true → is_four_bytes m ≡ true → (seconds n ≡ seconds m → n ≡ m) × (metres n ≡ metres m → n ≡ m)
nothing_lost n m h k = (answers.same_seconds n m (answers.held n h) (answers.held m k), answers.same_metres n m (answers.held n h) (answers.held m k))

-- two points with one floating answer have one whole answer
pub same_answer : (code latitude longitude code' latitude' longitude' : ℤ) → floating_of code latitude longitude ≡ floating_of code' latitude' longitude'
    → answer_of code latitude longitude ≡ answer_of code' latitude' longitude'
same_answer code latitude longitude code' latitude' longitude' =
    answers.same_answers (answer_of code latitude longitude) (answer_of code' latitude' longitude')
    (λ values. datum.four_bytes is_either code latitude longitude {values = values})
    (λ values. datum.four_bytes is_either code' latitude' longitude' {values = values})

module _ (code latitude longitude : ℤ) where
  -- values are given where the whole answer has values, and they are its floats
  pub answered : (floats : Family Float) → (floating_of code latitude longitude ≡ gives floats) ↔ ((values : Family ℤ) × ((answer_of code latitude longitude ≡ gives values) × (in_floats values ≡ floats)))
  answered floats = (
    answers.gave (answer_of code latitude longitude),
    (λ p. ap answer_in_floats p.1.0 ∙ ap gives p.1.1),
  )

  -- 'a refusal number' is the whole answer's, and is never 5
  pub same_refusal : (n : ℕ) → (floating_of code latitude longitude ≡ refused n) ↔ (answer_of code latitude longitude ≡ refused n)
  same_refusal n = (answers.was_refused (answer_of code latitude longitude), ap answer_in_floats)

  pub never_5 : floating_of code latitude longitude ≡ refused 5 → ⊥
  never_5 h = datum.answer_never_5 code latitude longitude ((same_refusal 5).0 h)

  -- ---- demand 3: how near a float is, in units, to the exact value of the printed polynomial
  -- within the bound of its equation and one thousandth of a unit together
  pub within_bounds : {floats : Family Float} → floating_of code latitude longitude ≡ gives floats
      → FloatsWithin 1000 (of_each (λ h. h + 1) (bounds_of code)) (exact (page_of code) latitude longitude) floats
  within_bounds {floats} h =
      let g = (answered floats).0 h in
      subst (FloatsWithin 1000 (of_each (λ h. h + 1) (bounds_of code)) (exact (page_of code) latitude longitude)) g.1.1
      (answers.floats_near (bounds_of code) (exact (page_of code) latitude longitude) g.0
      (datum.four_bytes is_either code latitude longitude g.1.0) (datum.within_bounds is_either code latitude longitude g.1.0))

  -- so within two units of an angle, and one of a height
  pub as_demanded : {floats : Family Float} → floating_of code latitude longitude ≡ gives floats
      → FloatsWithin 1 (demanded floats) (exact (page_of code) latitude longitude) floats
  as_demanded {floats} h =
      let g = (answered floats).0 h in
      let p = (datum.answered is_either code latitude longitude g.0).0 g.1.0 in
      let e : demanded (page_of code).equations ≡ demanded floats = sym (same_demand _ (page_of code).equations) ∙ ap demanded p.1.1 ∙ sym (answers.float_demand g.0) ∙ ap demanded g.1.1 in
      answers.floats_wider 1000 1 (lit< tt) (of_each (λ h. h + 1) (bounds_of code)) (demanded floats) (exact (page_of code) latitude longitude) floats
      (subst (λ (d : Family ℕ). T (no_narrower 1000 1 (of_each (λ h. h + 1) (bounds_of code)) d)) e (row_float_demanded (row code)))
      (within_bounds h)

  -- and each point in its area is answered
  pub in_its_area : is_code code ≡ true → in_area (page_of code) latitude longitude ≡ true
      → (floating_of code latitude longitude ≡ gives (in_floats (worked (page_of code) latitude longitude)))
      × FloatsWithin 1 (demanded (in_floats (worked (page_of code) latitude longitude))) (exact (page_of code) latitude longitude) (in_floats (worked (page_of code) latitude longitude))
  in_its_area coded inside =
      let e = ap answer_in_floats (datum.in_its_area is_either code latitude longitude coded refl inside).0 in
      (e, as_demanded e)

  -- ---- 'the first is dLat or N, the second and third are zero for a geoid height'
  abbrev called : Float → Float → Float → ℕ → Type 0
  called x y z n =
      (first_of float_zero (floating_of code latitude longitude) ≡ x) × (second_of float_zero (floating_of code latitude longitude) ≡ y)
      × (third_of float_zero (floating_of code latitude longitude) ≡ z) × (refusal_of (floating_of code latitude longitude) ≡ n)

  pub of_shift : (d_lat d_lon d_h : Float) → floating_of code latitude longitude ≡ gives (shift d_lat d_lon d_h) → called d_lat d_lon d_h 0
  of_shift d_lat d_lon d_h h = (ap (first_of float_zero) h, ap (second_of float_zero) h, ap (third_of float_zero) h, ap refusal_of h)

  pub of_geoid : (n : Float) → floating_of code latitude longitude ≡ gives (geoid n) → called n float_zero float_zero 0
  of_geoid n h = (ap (first_of float_zero) h, ap (second_of float_zero) h, ap (third_of float_zero) h, ap refusal_of h)

  -- 'and all are zero where the point is refused'; 'a fourth call gives the point's refusal number'
  pub of_refused : (n : ℕ) → floating_of code latitude longitude ≡ refused n → called float_zero float_zero float_zero n
  of_refused n h = (ap (first_of float_zero) h, ap (second_of float_zero) h, ap (third_of float_zero) h, ap refusal_of h)

  -- 'or 0 for an answered point', and for no other
  pub answered_0 : (refusal_of (floating_of code latitude longitude) ≡ 0) ↔ ((floats : Family Float) × (floating_of code latitude longitude ≡ gives floats))
  answered_0 = (
    (λ h. told (floating_of code latitude longitude) (λ n e. datum.above_0 is_either code latitude longitude n (answers.was_refused (answer_of code latitude longitude) e)) h),
    (λ p. ap refusal_of p.1),
  )

-- ---- 'that two permitted answers coincide is proved'
pub floats_determined : (a b : ShiftFloats) → floats_say a ≡ floats_say b → a ≡ b
floats_determined a b h = ap rebuilt h
  where
    rebuilt : Family Float → ShiftFloats
    rebuilt (shift x y z) = record { latitude = x; longitude = y; height = z }
    rebuilt (geoid n) = a

pub determined : (a b : Answer) → float_answer a ≡ float_answer b → a ≡ b
determined a b h = sym (back a) ∙ ap rebuilt h ∙ back b
  where
    rebuilt : Said.Answer (Family Float) → Answer
    rebuilt (gives (shift x y z)) = Shift (record { latitude = x; longitude = y; height = z })
    rebuilt (gives (geoid n)) = Geoid n
    rebuilt (refused n) = Refused n

    back : (e : Answer) → rebuilt (float_answer e) ≡ e
    back (Shift s) = refl
    back (Geoid n) = refl
    back (Refused n) = refl
