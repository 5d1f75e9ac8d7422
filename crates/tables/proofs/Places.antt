-- Where the frame of a datum puts a point: u and v are those of its page, whose equations fit there. Assumes nothing.
use mathlib.Core.Path.{◌≡◌, sym, ◌∙◌, subst, subst₂}
use mathlib.Core.Bool.{true}
use lib.Dec.{T}
use lib.IntN.{ℤ}
use Rattle.tables.specs.Page.{Page, Family}
use Rattle.tables.specs.Rule.{counted_from, longitude_on, in_box, along, worked}
use Rattle.tables.specs.Inside.{row_of, datum_page, frame_of, on_axis, evaluated_at, AllFit, Close}
use Rattle.tables.specs.declared.Datum.{Datum}
use Rattle.tables.specs.declared.Frame.{Frame}
use Rattle.tables.proofs.Limits.{page_keeps, row_keeps, close, u_coded, v_coded, all_fit}

pub axes_close : (self : Datum) {frame : Frame} → frame ≡ frame_of (datum_page self) → Close frame.u × Close frame.v
axes_close self e = subst (λ (f : Frame). Close f.u × Close f.v) (sym e) (close (datum_page self) (row_keeps (row_of self)))

-- u and v of a place that the frame of a datum gives: they are the page's, and its equations fit there
module _ (self : Datum) (latitude longitude : ℤ) (inside : in_box (datum_page self) latitude longitude ≡ true) {frame : Frame} (frame_is : frame ≡ frame_of (datum_page self)) {u v : ℤ} (u_at : u ≡ on_axis frame.u latitude) (v_at : v ≡ on_axis frame.v (counted_from frame.west longitude)) where
  abbrev page : Page
  page = datum_page self

  keeps : T (page_keeps page)
  keeps = row_keeps (row_of self)

  u_is : u ≡ along page.u latitude
  u_is = u_at ∙ (λ i. on_axis (frame_is i).u latitude) ∙ u_coded page keeps latitude

  v_is : v ≡ along page.v (longitude_on page longitude)
  v_is =
      v_at
      ∙ (λ i. on_axis (frame_is i).v (counted_from (frame_is i).west longitude))
      ∙ v_coded page keeps (longitude_on page longitude)

  pub fit : AllFit page.equations u v
  fit = subst₂ (AllFit page.equations) (sym u_is) (sym v_is) (all_fit page keeps latitude longitude inside)

  -- and what these give there is what the page gives
  pub given : {answer : Family ℤ} → answer ≡ evaluated_at page.equations u v → answer ≡ worked page latitude longitude
  given h = h ∙ (λ i. evaluated_at page.equations (u_is i) (v_is i))
