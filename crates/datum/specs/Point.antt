-- Document 01, 'The six areas' and 'Refusal numbers': the answer of a point.
use Rattle.std.specs.Prelude.{Bool, List, [], ◌∷◌, ℕ, ◌-◌, ℤ, pos, nat_abs, get_or}
use Rattle.kinds.specs.Answer.{Answer, gives, refused, Test, ◌else◌, in_order, following}
use Rattle.kinds.specs.Kinds.{within, is_position, converted}
use Rattle.tables.specs.Page.{Page, Equation, Family, shift, geoid, is_shift, is_geoid, is_either}
use Rattle.tables.specs.Cyprus.{cyprus}
use Rattle.tables.specs.Rule.{in_area, worked}
use Rattle.tables.specs.Tables.{pages}

-- ---- the six codes
abbrev pub is_code : ℤ → Bool
is_code code = within (pos 1) (pos 6) code

-- the row of a code in a list by codes; asked only of a number that is a code
abbrev pub row : ℤ → ℕ
row code = nat_abs code - 1

-- their pages
abbrev pub page_of : ℤ → Page
page_of code = get_or pages (row code) cyprus

-- ---- the answer
-- of a datum
abbrev pub point_tests : Page → ℤ → ℤ → List Test
point_tests page latitude longitude =
    (is_position latitude longitude else 3)
    ∷ (in_area page latitude longitude else 6)
    ∷ []

abbrev pub point_of : Page → ℤ → ℤ → Answer (Family ℤ)
point_of page latitude longitude = in_order (point_tests page latitude longitude) (gives (worked page latitude longitude))

-- of a code, asked of a family: 'Order for a point: 4, 5, 3, 6'
abbrev pub tests : (Family Equation → Bool) → ℤ → ℤ → ℤ → List Test
tests family code latitude longitude =
    (is_code code else 4)
    ∷ (family (page_of code).equations else 5)
    ∷ point_tests (page_of code) latitude longitude

abbrev pub asked : (Family Equation → Bool) → ℤ → ℤ → ℤ → Answer (Family ℤ)
asked family code latitude longitude = in_order (tests family code latitude longitude) (gives (worked (page_of code) latitude longitude))

abbrev pub shift_of : ℤ → ℤ → ℤ → Answer (Family ℤ)
shift_of code latitude longitude = asked is_shift code latitude longitude

abbrev pub geoid_of : ℤ → ℤ → ℤ → Answer (Family ℤ)
geoid_of code latitude longitude = asked is_geoid code latitude longitude

-- both families are taken
abbrev pub answer_of : ℤ → ℤ → ℤ → Answer (Family ℤ)
answer_of code latitude longitude = asked is_either code latitude longitude

-- ---- document 02, wish 1: 'The converted position is 100 times the ms plus the shift'; refused as the shift is
abbrev pub converted_by : ℤ → ℤ → Family ℤ → Answer (ℤ × ℤ)
converted_by latitude longitude (shift d_lat d_lon d_h) = gives (converted latitude d_lat, converted longitude d_lon)
converted_by latitude longitude (geoid n) = refused 5

abbrev pub converted_of : ℤ → ℤ → ℤ → Answer (ℤ × ℤ)
converted_of code latitude longitude = following (shift_of code latitude longitude) (converted_by latitude longitude)

-- ---- an answer as three values: dLat, dLon and dH, or N; `none` stands where there is no value
abbrev pub first_of : {A : Type 0} → A → Answer (Family A) → A
first_of none (gives (shift d_lat d_lon d_h)) = d_lat
first_of none (gives (geoid n)) = n
first_of none (refused r) = none

abbrev pub second_of : {A : Type 0} → A → Answer (Family A) → A
second_of none (gives (shift d_lat d_lon d_h)) = d_lon
second_of none (gives (geoid n)) = none
second_of none (refused r) = none

abbrev pub third_of : {A : Type 0} → A → Answer (Family A) → A
third_of none (gives (shift d_lat d_lon d_h)) = d_h
third_of none (gives (geoid n)) = none
third_of none (refused r) = none

abbrev pub values_of : {A : Type 0} → A → Answer (Family A) → List A
values_of none answer = first_of none answer ∷ second_of none answer ∷ third_of none answer ∷ []
