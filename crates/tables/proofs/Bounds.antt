-- The bounds of a page: one computed test that each is large enough, by `bounded` of `equation`, and that no smaller one is.
-- `datum` has what it shows of every point. Assumes nothing.
use mathlib.Core.Path.{◌≡◌, refl}
use mathlib.Core.Bool.{Bool, true, false, not, ◌&&◌}
use Prim.Native.Nat.{ℕ, ◌-◌, ◌≤◌}
use native.Mathlib.Omega.{arith}
use lib.Dec.{T, leb}
use lib.ListN.{get_or}
use borrow.Author.Tests.{leb-true, leb-false}
use mir.Facts.{and_yes}
use Rattle.whole.specs.Round.{round_div, scale}
use Rattle.whole.specs.Every.{every}
use Rattle.equation.proofs.Errors.{bounded, bounded_wider}
use Rattle.tables.specs.Page.{Page, Equation, each, Each}
use Rattle.tables.specs.Cyprus.{cyprus}
use Rattle.tables.specs.Tables.{pages}
use Rattle.tables.proofs.Families.{each_by}
use Rattle.tables.proofs.Limits.{each_row, most_u, most_v}

-- ---- the test of a page: each equation with its bound, in thousandths of a unit, and with no smaller one
-- errors on the way are counted in millionths
abbrev pub fine : ℕ
fine = 1000000

abbrev pub within_h : Page → ℕ → Equation → Bool
within_h page h e = bounded scale fine page.u.divisor page.v.divisor e.divisor (most_u page) (most_v page) h 1000 e.terms

abbrev pub equation_bounded : Page → Equation → Bool
equation_bounded page e = within_h page e.bound e && not (within_h page (e.bound - 1) e)

abbrev pub page_bounded : Page → Bool
page_bounded page = each (equation_bounded page) page.equations

all_bounded : T (every page_bounded pages)
unfolding round_div
all_bounded = tt

pub row_bounded : (n : ℕ) → T (page_bounded (get_or pages n cyprus))
row_bounded = each_row page_bounded all_bounded

-- with no smaller bound than the page's does the test hold
pub smallest : (page : Page) → T (page_bounded page) → Each (λ e. (h : ℕ) → T (within_h page h e) → e.bound ≤ h) page.equations
smallest page = each_by (equation_bounded page) at_least page.equations
  where
    neither : (b : Bool) → T (not b) → T b → ⊥
    neither true p q = p
    neither false p q = q

    at_least : (e : Equation) → T (equation_bounded page e) → (h : ℕ) → T (within_h page h e) → e.bound ≤ h
    at_least e t h passes = go (leb e.bound h) refl
      where
        go : (b : Bool) → leb e.bound h ≡ b → e.bound ≤ h
        go true k = leb-true e.bound h k
        go false k =
            let less : h ≤ e.bound - 1 = omega (arith, leb-false e.bound h k) in
            absurd
            (neither (within_h page (e.bound - 1) e) (and_yes (within_h page e.bound e) (not (within_h page (e.bound - 1) e)) t).1
            (bounded_wider scale fine page.u.divisor page.v.divisor e.divisor (most_u page) (most_v page) 1000 e.terms less passes))
