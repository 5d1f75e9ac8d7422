-- What is private to the crate: what its functions tell each other. No promise to a user speaks of it.
use Rattle.std.specs.Prelude.{Bool, ℤ, Result}
use Rattle.kinds.specs.Answer.{Answer, gives, provided, in_order}
use Rattle.kinds.specs.Cases.{answered}
use Rattle.kinds.specs.declared.Refusal.{Refusal}
use Rattle.kinds.specs.Kinds.{is_position, converted}
use Rattle.tables.specs.Page.{Page, Equation, Family, is_shift, is_geoid}
use Rattle.tables.specs.Inside.{datum_page}
use Rattle.tables.specs.declared.Family as code
use Rattle.tables.specs.declared.Family.TheVariants as Gives
use Rattle.datum.specs.Point.{is_code, page_of, point_tests}
use Rattle.tables.specs.declared.Datum.{Datum}

-- the page of a code's datum
abbrev pub datum_answer : Result Datum Refusal → Answer Page
datum_answer = answered datum_page

-- a point as a position of the area
abbrev pub located : Page → ℤ → ℤ → Answer (ℤ × ℤ)
located page latitude longitude = in_order (point_tests page latitude longitude) (gives (latitude, longitude))

-- a point as a position, wherever it is
abbrev pub ranged : ℤ → ℤ → Answer (ℤ × ℤ)
ranged latitude longitude = provided (is_position latitude longitude) 3 (gives (latitude, longitude))

-- and where shifts lead from it
abbrev pub shifted_by : ℤ → ℤ → ℤ → ℤ → Answer (ℤ × ℤ)
shifted_by d_lat d_lon latitude longitude = provided (is_position latitude longitude) 3 (gives (converted latitude d_lat, converted longitude d_lon))

-- whether a datum has what is asked for: a geoid height, or a shift
abbrev pub is_of : code.Family → Family Equation → Bool
is_of Gives.Shift = is_shift
is_of Gives.Geoid = is_geoid

-- the page of a code, where its equations are of a family
abbrev pub coded_as : (Family Equation → Bool) → ℤ → Answer Page
coded_as family code = provided (is_code code) 4 (provided (family (page_of code).equations) 5 (gives (page_of code)))
