-- Document 01, 'The working rule', last paragraph: the exact values of a point; and demand 3, how near the answer is to them.
use Rattle.std.specs.Prelude.{ℕ, ◌*◌, ℤ, pos, ◌-ℤ◌, ◌*ℤ◌}
use Rattle.whole.specs.Round.{round_div, scale}
use Rattle.equation.specs.Exact.{Fraction, ◌over◌, ◌times◌, exact_of, Within}
use Rattle.tables.specs.Page.{Page, Axis, Equation, Family, shift, geoid, Kind, angle, height, kinds_of, of_each, OfShift, OfGeoid}
use Rattle.tables.specs.Rule.{longitude_on}
use Rattle.datum.specs.Point.{page_of}

-- ---- the exact values
-- exact U is what is rounded to u, over the scale: K times the latitude difference in ms, over 360,000,000,000,000; exact V
-- likewise
abbrev pub exact_along : Axis → ℤ → Fraction
exact_along axis x = (pos axis.factor *ℤ x -ℤ axis.offset) over (axis.divisor * scale)

-- the printed polynomial at exact U and V, in the units of the answer, into which the scale over the last divisor carries it
abbrev pub exact_at : Fraction → Fraction → Equation → Fraction
exact_at exact_u exact_v e = exact_of e.terms exact_u exact_v times (pos scale over e.divisor)

abbrev pub exact : Page → ℤ → ℤ → Family Fraction
exact page latitude longitude =
    of_each (exact_at (exact_along page.u latitude) (exact_along page.v (longitude_on page longitude))) page.equations

-- the centre of an axis, to the nearest ms: where u or v is zero
abbrev pub centre : Axis → ℤ
centre axis = round_div axis.offset axis.factor

abbrev pub at_centre : Page → Family Fraction
at_centre page = exact page (centre page.u) (centre page.v)

-- ---- how near
-- each value is as near to its exact value as its bound says
abbrev pub AllNear : {A : Type 0} → (ℕ → Fraction → A → Type 0) → Family ℕ → Family Fraction → Family A → Type 0
AllNear near (shift h i j) exacts values =
    OfShift exacts (λ d_lat d_lon d_h. OfShift values (λ a b c. near h d_lat a × near i d_lon b × near j d_h c))
AllNear near (geoid h) exacts values = OfGeoid exacts (λ height. OfGeoid values (λ a. near h height a))

-- each value is within its bound of its exact value; bounds are in nths of a unit
abbrev pub AllWithin : ℕ → Family ℕ → Family Fraction → Family ℤ → Type 0
AllWithin n = AllNear (λ h exact value. Within h n exact value)

-- demand 3, in units: two for each angle and one for each height
abbrev pub allowed : Kind → ℕ
allowed angle = 2
allowed height = 1

abbrev pub demanded : {A : Type 0} → Family A → Family ℕ
demanded values = of_each allowed (kinds_of values)

-- what is proved, from which it follows: the bound of each equation, in thousandths of a unit
abbrev pub bounds_of : ℤ → Family ℕ
bounds_of code = of_each (λ e. e.bound) (page_of code).equations
