-- Document 01, 'The six areas' and 'The working rule': the area of a page, and what the page gives for a point of it.
use Rattle.std.specs.Prelude.{Bool, cond, ◌&&◌, List, ℤ, pos, ◌-ℤ◌, ◌*ℤ◌}
use Rattle.std.specs.Int.Signed.{le_z}
use Rattle.whole.specs.Round.{round_div, scale}
use Rattle.kinds.specs.Kinds.{within, is_position}
use Rattle.equation.specs.Powers.{powers_of}
use Rattle.equation.specs.Equation.{equation_of}
use Rattle.tables.specs.Page.{Page, Axis, Equation, Family, of_each}

-- ---- the area
-- 360°
abbrev pub turn : ℤ
turn = pos 1296000000

-- a longitude as it is counted from a west end: less a turn, where it is not west of that end even then
abbrev pub counted_from : ℤ → ℤ → ℤ
counted_from west longitude = cond (le_z west (longitude -ℤ turn)) (longitude -ℤ turn) longitude

abbrev pub longitude_on : Page → ℤ → ℤ
longitude_on page longitude = counted_from page.west longitude

-- from south to north, and from west to east as counted: both ends belong to it
abbrev pub enclosed : ℤ → ℤ → ℤ → ℤ → ℤ → ℤ → Bool
enclosed south north west east latitude longitude = within south north latitude && within west east (counted_from west longitude)

-- the box of a page
abbrev pub in_box : Page → ℤ → ℤ → Bool
in_box page latitude longitude = enclosed page.south page.north page.west page.east latitude longitude

-- the area: the positions of the box
abbrev pub in_area : Page → ℤ → ℤ → Bool
in_area page latitude longitude = is_position latitude longitude && in_box page latitude longitude

-- ---- the working rule
-- 1. u of a latitude, or v of a longitude
abbrev pub along : Axis → ℤ → ℤ
along axis x = round_div (pos axis.factor *ℤ x -ℤ axis.offset) axis.divisor

-- 2. the ten powers of u and of v
abbrev pub powers_u : Page → ℤ → List ℤ
powers_u page latitude = powers_of scale (along page.u latitude) 10

abbrev pub powers_v : Page → ℤ → List ℤ
powers_v page longitude = powers_of scale (along page.v (longitude_on page longitude)) 10

-- 3. and 4. each equation: dLat and dLon in 0.00001", dH and N in mm
abbrev pub evaluated : Family Equation → List ℤ → List ℤ → Family ℤ
evaluated equations pu pv = of_each (λ e. equation_of e.divisor e.terms pu pv) equations

abbrev pub worked : Page → ℤ → ℤ → Family ℤ
worked page latitude longitude = evaluated page.equations (powers_u page latitude) (powers_v page longitude)
