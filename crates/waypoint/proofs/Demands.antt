-- What document 02, wish 1, asks of a waypoint. Stated over specs/ alone. Assumes nothing.
use mathlib.Core.Path.{◌≡◌, refl, ap, ◌∙◌, subst}
use mathlib.Core.Bool.{true}
use mathlib.Core.List.{List}
use mathlib.Core.Logic.{◌↔◌, ◌⊎◌, inl, inr, ⊎_elim}
use Prim.Native.Nat.{ℕ, ◌<◌, ◌≤◌}
use native.Mathlib.Omega.{arith}
use lib.IntN.{ℤ, pos, neg_ℤ}
use lib.ListN.{length}
use Rattle.whole.specs.Places.{in_places}
use Rattle.whole.specs.Round.{round_div}
use Rattle.whole.specs.Digits.{digits}
use Rattle.kinds.specs.Answer.{gives, refused}
use Rattle.kinds.specs.Bytes.{ascii}
use Rattle.kinds.specs.Kinds.{within}
use Rattle.equation.specs.Powers.{power, powers_of}
use Rattle.equation.specs.Equation.{sum}
use Rattle.tables.specs.Page.{is_shift}
use Rattle.datum.specs.Point.{shift_of, converted_of}
use Rattle.datum.proofs.Demands as datum
use Rattle.decimal.specs.Decimal.{unpadded, decimal, billionths, nine_places}
use Rattle.waypoint.specs.Waypoint.{degrees, east_or_west, element, element_of, waypoint_of}
use Rattle.waypoint.specs.Office.{units_of, west_as_negative}
use Rattle.waypoint.proofs.Degrees as law
use Rattle.waypoint.proofs.Writing.{element_short}
use Rattle.waypoint.proofs.Positions as positions
use Rattle.waypoint.proofs.Apart as apart

-- ---- 'For a shift datum, write one waypoint element per converted point'; 'Refusals: as for a shift, then 7'
module _ (code latitude longitude : ℤ) (room : ℕ) where
  -- an element is written exactly where the point has a converted position, and there is room for it
  pub written_where : (bytes : List ℕ) → (waypoint_of code latitude longitude room ≡ gives bytes)
      ↔ ((north : ℤ) × ((east : ℤ) × ((converted_of code latitude longitude ≡ gives (north, east)) × ((length (element north east) ≤ room) × (element north east ≡ bytes)))))
  written_where bytes = (positions.written code latitude longitude room, positions.writes code latitude longitude room)

  -- and else it is refused: as the shift is, or with 7 where there is no room
  pub refused_where : (n : ℕ) → (waypoint_of code latitude longitude room ≡ refused n)
      ↔ ((shift_of code latitude longitude ≡ refused n)
      ⊎ ((north : ℤ) × ((east : ℤ) × ((converted_of code latitude longitude ≡ gives (north, east)) × ((room < length (element north east)) × (n ≡ 7))))))
  refused_where n = (positions.unwritten code latitude longitude room n, positions.unwrites code latitude longitude room n)

  -- no other number is given
  pub given_one_of : (n : ℕ) → waypoint_of code latitude longitude room ≡ refused n → (n ≡ 4) ⊎ ((n ≡ 5) ⊎ ((n ≡ 3) ⊎ ((n ≡ 6) ⊎ (n ≡ 7))))
  given_one_of n h =
      ⊎_elim
      (λ s. ⊎_elim inl (λ s. inr (⊎_elim inl (λ s. inr (⊎_elim inl (λ s. inr (inl s)) s)) s)) (datum.given_one_of is_shift code latitude longitude n s))
      (λ (north, (east, (c, (short, seven)))). inr (inr (inr (inr seven))))
      ((refused_where n).0 h)

  -- 5 of a geoid datum
  pub given_5 : (waypoint_of code latitude longitude room ≡ refused 5) ↔ (within (pos 5) (pos 6) code ≡ true)
  given_5 = (
    (λ h. ⊎_elim (λ s. (datum.shift_5 code latitude longitude).0 s) (λ (north, (east, (c, (short, other)))). absurd (omega (arith, other))) ((refused_where 5).0 h)),
    (λ h. (refused_where 5).1 (inl ((datum.shift_5 code latitude longitude).1 h))),
  )

  -- an element has at most 47 bytes
  pub bytes_at_most : (bytes : List ℕ) → waypoint_of code latitude longitude room ≡ gives bytes → length bytes ≤ 47
  bytes_at_most bytes h =
      let (north, (east, (c, (fits, same)))) = (written_where bytes).0 h in
      subst (λ (l : List ℕ). length l ≤ 47) same (element_short north east (positions.printable code latitude longitude c))

-- ---- 'Office and handheld must agree to the last place'
-- from the printed degrees the units are found again, the whole number of them: of a latitude, and of a longitude, which is a turn
-- less from 180° up. That the digits say the degrees is `nine_say` of crate decimal
pub latitude_again : (north : ℤ) → units_of (degrees north) ≡ north
latitude_again north = law.units_again north

pub longitude_again : (east : ℤ) → units_of (east_or_west (degrees east)) ≡ west_as_negative east
longitude_again east = ap units_of (law.wrapped_first east) ∙ law.units_again (west_as_negative east)

-- so two points that get the same element, of one datum or of two, have the same converted position
pub elements_apart : (c₁ a₁ o₁ c₂ a₂ o₂ : ℤ) {bytes : List ℕ} → element_of c₁ a₁ o₁ ≡ gives bytes → element_of c₂ a₂ o₂ ≡ gives bytes → converted_of c₁ a₁ o₁ ≡ converted_of c₂ a₂ o₂
elements_apart = apart.elements_apart

-- ---- 'longitude from -180 up to but not 180', and a latitude between the poles: in billionths of a degree
pub degrees_between : (code latitude longitude north east : ℤ) → converted_of code latitude longitude ≡ gives (north, east)
    → (within (neg_ℤ (pos 90000000000)) (pos 90000000000) (degrees north) ≡ true)
    × (within (neg_ℤ (pos 180000000000)) (pos 179999999999) (east_or_west (degrees east)) ≡ true)
degrees_between code latitude longitude north east h =
    let (low, near) = datum.converted_between code latitude longitude north east h in
    (law.latitude_between north low, law.longitude_between east near)

-- ---- 'the centre of code 1 gives'
pub centre_of_code_1 : waypoint_of (pos 1) (pos 126000000) (pos 118800000) 44 ≡ gives (ascii "<wpt lat=\"34.998932533\" lon=\"32.999693628\"/>")
unfolding round_div power powers_of sum element degrees nine_places billionths decimal unpadded digits in_places
centre_of_code_1 = refl

-- and around 0° and 180°: half a degree south and west, one unit each side of zero, the last below 180°, 180° itself and 190°
pub record Edges : Type 0 where
  pub half_south_and_west : element (neg_ℤ (pos 180000000)) (neg_ℤ (pos 180000000)) ≡ ascii "<wpt lat=\"-0.500000000\" lon=\"-0.500000000\"/>"
  pub nothing : element (pos 0) (pos 0) ≡ ascii "<wpt lat=\"0.000000000\" lon=\"0.000000000\"/>"
  pub one_unit : element (neg_ℤ (pos 1)) (pos 1) ≡ ascii "<wpt lat=\"-0.000000003\" lon=\"0.000000003\"/>"
  pub below_180 : element (pos 32400000000) (pos 64799999999) ≡ ascii "<wpt lat=\"90.000000000\" lon=\"179.999999997\"/>"
  pub from_180 : element (neg_ℤ (pos 32400000000)) (pos 64800000000) ≡ ascii "<wpt lat=\"-90.000000000\" lon=\"-180.000000000\"/>"
  pub at_190 : element (pos 36000000) (pos 68400000000) ≡ ascii "<wpt lat=\"0.100000000\" lon=\"-170.000000000\"/>"

pub edges : Edges
unfolding round_div element degrees nine_places billionths decimal unpadded digits in_places
edges = record { half_south_and_west = refl; nothing = refl; one_unit = refl; below_180 = refl; from_180 = refl; at_190 = refl }
