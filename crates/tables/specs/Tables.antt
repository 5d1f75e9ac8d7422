-- Document 01, 'The six areas': the six pages, how many terms the equations have, how the tables stand, and where the areas end.
use Rattle.std.specs.Prelude.{Bool, true, cond, not, ◌&&◌, ◌||◌, ◌≡◌, ℕ, ◌+◌, eqb, ltb, ℤ, pos, ◌+ℤ◌, ◌-ℤ◌, length}
use mathlib.Core.List.{List, [], ◌∷◌, Perm}
use Rattle.std.specs.Int.Signed.{le_z}
use Rattle.kinds.specs.Kinds.{is_position}
use Rattle.equation.specs.Equation.{Term, term, among_ten}
use Rattle.tables.specs.Page.{Page, Equation, Family, shift, geoid, of_each, Paired}
use Rattle.tables.specs.Rule.{turn, in_area}
use Rattle.tables.specs.Cyprus.{cyprus}
use Rattle.tables.specs.Minna.{minna}
use Rattle.tables.specs.Alaska.{alaska}
use Rattle.tables.specs.Qatar.{qatar}
use Rattle.tables.specs.Kandawala.{kandawala}
use Rattle.tables.specs.Nahrwan.{nahrwan}

-- in the order of their codes
abbrev pub pages : List Page
pages = cyprus ∷ minna ∷ alaska ∷ qatar ∷ kandawala ∷ nahrwan ∷ []

-- the terms of each equation, with the constant
abbrev pub terms_of : Family Equation → Family ℕ
terms_of = of_each (λ e. length e.terms)

abbrev pub in_all : List Page → ℕ
in_all [] = 0
in_all (page ∷ rest) = total (terms_of page.equations) + in_all rest
  where
    total : Family ℕ → ℕ
    total (shift a b c) = a + b + c
    total (geoid n) = n

-- by rising power of longitude, then of latitude; each power is below ten
abbrev pub before : Term → Term → Bool
before (term c i j) (term d k l) = ltb j l || (eqb j l && ltb i k)

abbrev pub stands : List Term → Bool
stands [] = true
stands (t ∷ []) = among_ten t
stands (s ∷ t ∷ ts) = among_ten s && (before s t && stands (t ∷ ts))

-- the same terms in another order, and the same divisors
abbrev pub Reordered : Family Equation → Family Equation → Type 0
Reordered = Paired (λ e f. Perm e.terms f.terms × (e.divisor ≡ f.divisor))

-- the position of an end: from 0° up, where it is negative
abbrev pub positioned : ℤ → ℤ
positioned end = cond (le_z (pos 0) end) end (end +ℤ turn)

-- two corners of the area are in it, and what is 1 ms outside an end is not
abbrev pub ends : Page → Bool
ends page =
    holds page.south page.west && holds page.north page.east
    && not (holds (page.south -ℤ pos 1) page.west) && not (holds (page.north +ℤ pos 1) page.east)
    && not (holds page.south (page.west -ℤ pos 1)) && not (holds page.north (page.east +ℤ pos 1))
  where
    holds : ℤ → ℤ → Bool
    holds latitude longitude = in_area page latitude (positioned longitude)

-- its ends are latitudes and longitudes
abbrev pub area_in_range : Page → Bool
area_in_range page = is_position page.south (positioned page.west) && is_position page.north (positioned page.east)
