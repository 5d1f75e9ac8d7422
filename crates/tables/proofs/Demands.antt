-- What document 01 asks of the tables and of the areas. Stated over specs/ alone. Assumes nothing.
use mathlib.Core.Path.{◌≡◌, refl, sym, ap, ◌∙◌}
use mathlib.Core.Bool.{true}
use mathlib.Core.List.{List, [], ◌∷◌, map, Perm}
use Prim.Native.Nat.{ℕ}
use lib.Dec.{T}
use lib.IntN.{ℤ, pos, ◌-ℤ◌, ◌*ℤ◌}
use Rattle.whole.specs.Round.{round_div}
use Rattle.whole.specs.Every.{every}
use Rattle.whole.proofs.Ring.{*ℤ--ℤ}
use Rattle.equation.specs.Equation.{equation_of}
use Rattle.equation.proofs.Demands as equation
use Rattle.tables.specs.Page.{Page, Equation, Family, shift, geoid, each, ◌from◌}
use Rattle.tables.specs.Rule.{along, evaluated}
use Rattle.tables.specs.Tables.{pages, terms_of, in_all, stands, Reordered, ends, area_in_range}

-- ---- 'Terms with the constant, in that order .. In all 157 terms'
pub terms_counted : map (λ (page : Page). terms_of page.equations) pages ≡ shift 4 7 11 ∷ shift 16 9 9 ∷ shift 20 23 17 ∷ shift 9 7 9 ∷ geoid 9 ∷ geoid 7 ∷ []
terms_counted = refl

pub terms_in_all : in_all pages ≡ 157
terms_in_all = refl

-- ---- 'The tables stand by rising power of longitude, then of latitude'; and each power is one of the ten
pub tables_stand : T (every (λ page. each (λ e. stands e.terms) page.equations) pages)
tables_stand = tt

-- ---- 'Both ends belong to the area'
pub ends_belong : T (every ends pages)
ends_belong = tt

-- and an area reaches past no pole and no turn
pub areas_in_range : every area_in_range pages ≡ true
areas_in_range = refl

-- ---- 'u is K times the latitude less the centre's, divided by 3,600,000 and rounded'
pub by_the_centre : (k : ℕ) (centre x : ℤ) → along (k from centre) x ≡ round_div (pos k *ℤ (x -ℤ centre)) 3600000
by_the_centre k centre x = ap (λ (n : ℤ). round_div n 3600000) (sym (*ℤ--ℤ (pos k) x centre))

-- ---- the answer does not depend on the order of a table's terms
pub any_order : (f g : Family Equation) → Reordered f g → (pu pv : List ℤ) → evaluated f pu pv ≡ evaluated g pu pv
any_order f g p pu pv = same f g p
  where
    one : (e f : Equation) → Perm e.terms f.terms × (e.divisor ≡ f.divisor) → equation_of e.divisor e.terms pu pv ≡ equation_of f.divisor f.terms pu pv
    one e f p = equation.any_order e.divisor p.0 pu pv ∙ ap (λ (d : ℕ). equation_of d f.terms pu pv) p.1

    same : (f g : Family Equation) → Reordered f g → evaluated f pu pv ≡ evaluated g pu pv
    same (shift a b c) (shift d e f) p = λ i. shift (one a d p.0 i) (one b e p.1 i) (one c f p.2 i)
    same (geoid m) (geoid n) p = ap geoid (one m n p)
    same (shift a b c) (geoid n) p = absurd p
    same (geoid n) (shift a b c) p = absurd p
