-- The limits of a page: what one computed test shows of every point of its box. Assumes nothing.
use mathlib.Core.Path.{◌≡◌, sym, ap, subst}
use mathlib.Core.Bool.{Bool, true, ◌&&◌}
use Prim.Native.Nat.{ℕ, ◌<◌, ◌≤◌}
use native.Mathlib.Nat.{le_trans}
use lib.Dec.{T, leb, leb→le, ltb, ltb→lt, eqb, eqb→eq, lit<}
use lib.ListN.{get_or, drop}
use lib.IntN.{ℤ, nat_abs}
use lib.Signed.{le_z, ◌≤ℤ◌, le_z_yes}
use mir.Facts.{and_yes}
use Rattle.whole.specs.Round.{round_div}
use Rattle.whole.specs.Every.{every}
use Rattle.whole.proofs.Bools.{both, three}
use Rattle.whole.proofs.Every.{every_place}
use Rattle.whole.proofs.Orders.{multiple_order, between_size}
use Rattle.whole.proofs.Words.{small}
use Rattle.whole.proofs.Demands.{in_order}
use Rattle.kinds.specs.Kinds.{within}
use Rattle.equation.proofs.Limits.{keeps, room, in_four_bytes}
use Rattle.tables.specs.Page.{Page, Axis, Equation, each}
use Rattle.tables.specs.Cyprus.{cyprus}
use Rattle.tables.specs.Rule.{longitude_on, in_box, along}
use Rattle.tables.specs.Tables.{pages}
use Rattle.tables.specs.Inside.{axis_of, on_axis, equation_at, Fits, AllFit, Small, Close}
use Rattle.tables.proofs.Families.{each_by}
use Rattle.tables.proofs.Reach.{most}
pub use Rattle.tables.proofs.Reach.{most_u, most_v}

-- ---- a test of every page shows of the page in each row
pub each_row : (test : Page → Bool) → T (every test pages) → (n : ℕ) → T (test (get_or pages n cyprus))
each_row test = every_place test cyprus (drop 1 pages)

-- ---- the test
-- of an axis: the code's divisor, and numbers so small that 64 bits hold what is divided
abbrev axis_keeps : Axis → Bool
axis_keeps axis = eqb axis.divisor 3600000 && (leb axis.factor 1000000000 && leb (nat_abs axis.offset) 1000000000000000000)

abbrev equation_keeps : ℕ → ℕ → Equation → Bool
equation_keeps mu mv e = ltb 0 e.divisor && keeps e.divisor mu mv e.terms

abbrev sizes_keep : Page → Bool
sizes_keep page = leb (most_u page) 255000000 && (leb (most_v page) 255000000 && each (equation_keeps (most_u page) (most_v page)) page.equations)

abbrev pub page_keeps : Page → Bool
page_keeps page = axis_keeps page.u && (axis_keeps page.v && sizes_keep page)

-- each of the pages keeps it
all_keep : T (every page_keeps pages)
unfolding round_div
all_keep = tt

pub row_keeps : (n : ℕ) → T (page_keeps (get_or pages n cyprus))
row_keeps = each_row page_keeps all_keep

-- ---- what it shows of an axis
module _ (axis : Axis) (h : T (axis_keeps axis)) where
  tests : T (eqb axis.divisor 3600000) × T (leb axis.factor 1000000000) × T (leb (nat_abs axis.offset) 1000000000000000000)
  tests = three (eqb axis.divisor 3600000) (leb axis.factor 1000000000) (leb (nat_abs axis.offset) 1000000000000000000) h

  degree : axis.divisor ≡ 3600000
  degree = eqb→eq axis.divisor 3600000 tests.0

  near : Close (axis_of axis)
  near = record { factor = leb→le axis.factor 1000000000 tests.1; offset = leb→le (nat_abs axis.offset) 1000000000000000000 tests.2 }

  as_coded : (x : ℤ) → on_axis (axis_of axis) x ≡ along axis x
  as_coded x = ap (round_div _) (sym degree)

  order : (a b : ℤ) → le_z a b ≡ true → along axis a ≤ℤ along axis b
  order a b t = in_order (subst (λ (d : ℕ). 0 < d) (sym degree) (lit< tt)) (multiple_order axis.factor axis.offset {x = a} {y = b} (le_z_yes (subst T (sym t) tt)))

  between : (least largest x : ℤ) → within least largest x ≡ true → nat_abs (along axis x) ≤ most axis least largest
  between least largest x t =
      let b = both (le_z least x) (le_z x largest) t in
      between_size (along axis least) (along axis largest) (along axis x) (order least x b.0) (order x largest b.1)

-- ---- what it shows of a page
module _ (page : Page) (h : T (page_keeps page)) where
  parts : T (axis_keeps page.u) × T (axis_keeps page.v) × T (sizes_keep page)
  parts = three (axis_keeps page.u) (axis_keeps page.v) (sizes_keep page) h

  pub close : Close (axis_of page.u) × Close (axis_of page.v)
  close = (near page.u parts.0, near page.v parts.1)

  pub u_coded : (x : ℤ) → on_axis (axis_of page.u) x ≡ along page.u x
  u_coded = as_coded page.u parts.0

  pub v_coded : (x : ℤ) → on_axis (axis_of page.v) x ≡ along page.v x
  v_coded = as_coded page.v parts.1

  sizes : T (leb (most_u page) 255000000) × T (leb (most_v page) 255000000) × T (each (equation_keeps (most_u page) (most_v page)) page.equations)
  sizes = three (leb (most_u page) 255000000) (leb (most_v page) 255000000) (each (equation_keeps (most_u page) (most_v page)) page.equations) parts.2

  -- and of a point of its box
  module _ (latitude longitude : ℤ) (inside : in_box page latitude longitude ≡ true) where
    abbrev u : ℤ
    u = along page.u latitude

    abbrev v : ℤ
    v = along page.v (longitude_on page longitude)

    sides : (within page.south page.north latitude ≡ true) × (within page.west page.east (longitude_on page longitude) ≡ true)
    sides = both (within page.south page.north latitude) (within page.west page.east (longitude_on page longitude)) inside

    pub u_size : nat_abs u ≤ most_u page
    u_size = between page.u parts.0 page.south page.north latitude sides.0

    pub v_size : nat_abs v ≤ most_v page
    v_size = between page.v parts.1 page.west page.east (longitude_on page longitude) sides.1

    both_small : Small u v
    both_small = (le_trans u_size (leb→le (most_u page) 255000000 sizes.0), le_trans v_size (leb→le (most_v page) 255000000 sizes.1))

    fits : (e : Equation) → T (equation_keeps (most_u page) (most_v page) e) → Fits e.divisor e.terms u v
    fits e t =
        let p = and_yes (ltb 0 e.divisor) (keeps e.divisor (most_u page) (most_v page) e.terms) t in
        record {
          small = both_small;
          room = room u v u_size v_size e.divisor e.terms p.1;
          fits = small (equation_at e.divisor e.terms u v) (in_four_bytes u v u_size v_size e.divisor e.terms p.1 (ltb→lt 0 e.divisor p.0));
        }

    pub all_fit : AllFit page.equations u v
    all_fit = each_by (equation_keeps (most_u page) (most_v page)) fits page.equations sizes.2
