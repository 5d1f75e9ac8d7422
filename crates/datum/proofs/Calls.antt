-- What a call says of a code, by the page that the code has. Assumes nothing.
use mathlib.Core.Path.{◌≡◌, refl, sym, ap, ◌∙◌}
use mathlib.Core.Bool.{Bool, true, false}
use Prim.Native.Nat.{ℕ}
use lib.IntN.{ℤ}
use Rattle.kinds.specs.Answer.{gives, refused, provided}
use Rattle.kinds.proofs.Answers.{passed, same_value}
use Rattle.kinds.specs.Kinds.{is_position}
use Rattle.tables.specs.Page.{Page, Equation, Family, shift, geoid, is_shift, of_each}
use Rattle.tables.specs.Rule.{in_area, worked}
use Rattle.datum.specs.Point.{is_code, page_of, point_of, asked}
use Rattle.tables.specs.Inside.{family_of, frame_of}
use Rattle.tables.specs.declared.Family as code
use Rattle.tables.specs.declared.Family.TheVariants as Gives
use Rattle.tables.specs.declared.Frame.{Frame}
use Rattle.datum.specs.Inside.{located, coded_as, is_of}
use Rattle.datum.proofs.Points.{works, refuses}

-- a call that asks of a family was told the page of the code
module _ (family : Family Equation → Bool) (code : ℤ) {page : Page} (coded : gives page ≡ coded_as family code) where
  told : ((is_code code ≡ true) × (family (page_of code).equations ≡ true)) × (page ≡ page_of code)
  told =
      let p = passed (is_code code) 4 (provided (family (page_of code).equations) 5 (gives (page_of code))) (sym coded) in
      let q = passed (family (page_of code).equations) 5 (gives (page_of code)) p.1 in
      ((p.0, q.0), sym (same_value q.1))

  pub its_family : family page.equations ≡ true
  its_family = ap (λ (x : Page). family x.equations) told.1 ∙ told.0.1

  module _ (latitude longitude : ℤ) where
    on_page : point_of page latitude longitude ≡ asked family code latitude longitude
    on_page = λ i. provided (sym told.0.0 i) 4 (provided (sym told.0.1 i) 5 (point_of (told.1 i) latitude longitude))

    -- it answers as the page does at the position, or hands its refusal on
    pub worked_is : {p q : ℤ} {values : Family ℤ} → gives (p, q) ≡ located page latitude longitude → values ≡ worked page p q → gives values ≡ asked family code latitude longitude
    worked_is e v = ap gives v ∙ sym (works page latitude longitude (sym e)) ∙ on_page

    pub refused_is : {n : ℕ} → refused n ≡ located page latitude longitude → refused n ≡ asked family code latitude longitude
    refused_is {n} e = sym (refuses page latitude longitude n (sym e)) ∙ on_page

-- or it was refused the code, and hands that refusal on
pub refused_code : (family : Family Equation → Bool) (code latitude longitude : ℤ) {n : ℕ} → refused n ≡ coded_as family code → refused n ≡ asked family code latitude longitude
refused_code family code latitude longitude {n} = go (is_code code) (family (page_of code).equations)
  where
    go : (known same : Bool) → refused n ≡ provided known 4 (provided same 5 (gives (page_of code))) → refused n ≡ provided known 4 (provided same 5 (point_of (page_of code) latitude longitude))
    go false same e = cc
    go true false e = cc
    go true true e = cc

-- what such a call gives is of the family
pub of_family : (family : Family Equation → Bool) (given : Family ℤ → Bool) → ((f : Equation → ℤ) (e : Family Equation) → given (of_each f e) ≡ family e)
    → (code latitude longitude : ℤ) {values : Family ℤ} → asked family code latitude longitude ≡ gives values → given values ≡ true
of_family family given same code latitude longitude {values} e =
    let page = page_of code in
    let a = passed (is_code code) 4 (provided (family page.equations) 5 (point_of page latitude longitude)) e in
    let b = passed (family page.equations) 5 (point_of page latitude longitude) a.1 in
    let c = passed (is_position latitude longitude) 3 (provided (in_area page latitude longitude) 6 (gives (worked page latitude longitude))) b.1 in
    let d = passed (in_area page latitude longitude) 6 (gives (worked page latitude longitude)) c.1 in
    ap given (sym (same_value d.1)) ∙ same _ page.equations ∙ b.0

pub worked_shift : (f : Equation → ℤ) (e : Family Equation) → is_shift (of_each f e) ≡ is_shift e
worked_shift f (shift a b c) = refl
worked_shift f (geoid n) = refl

-- ---- the family of a page, as its frame tells
pub of_frame : (page : Page) {frame : Frame} {family : code.Family} → frame ≡ frame_of page → frame.family ≡ family → is_of family page.equations ≡ true
of_frame page framed e = go _ page.equations (sym (ap (λ (f : Frame). f.family) framed) ∙ e)
  where
    go : (family : code.Family) (e : Family Equation) → family_of e ≡ family → is_of family e ≡ true
    go Gives.Shift (shift a b c) h = refl
    go Gives.Shift (geoid n) h = cc
    go Gives.Geoid (shift a b c) h = cc
    go Gives.Geoid (geoid n) h = refl
