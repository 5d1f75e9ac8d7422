-- A point's answer by its page: what the tests say of it, and that each of its values is in 4 bytes. Assumes nothing.
use mathlib.Core.Path.{◌≡◌, sym, ap, ◌∙◌, subst}
use mathlib.Core.Bool.{true}
use Prim.Native.Nat.{ℕ}
use lib.Dec.{T}
use lib.IntN.{ℤ}
use Rattle.whole.proofs.Bools.{both, joined}
use Rattle.kinds.specs.Answer.{Answer, gives, refused, provided, AllHold, following}
use Rattle.kinds.specs.Kinds.{is_position, is_four_bytes, converted}
use Rattle.kinds.proofs.Answers as Answers
use Rattle.kinds.proofs.Answers.{same_value, all_held, first_failed, fails}
use Rattle.kinds.proofs.Tested.{in_four_bytes}
use Rattle.tables.specs.Page.{Page, Equation, Family, shift, geoid, is_shift, each}
use Rattle.tables.specs.Rule.{in_box, longitude_on, along, worked}
use Rattle.tables.specs.Inside.{equation_at, evaluated_at, Fits, AllFit}
use Rattle.tables.proofs.Limits.{page_keeps, all_fit}
use Rattle.datum.specs.Point.{page_of, point_tests, point_of, tests, shift_of, converted_by, converted_of}
use Rattle.datum.specs.Inside.{located, shifted_by}

-- ---- a point's answer, by whether it is located
module _ (page : Page) (latitude longitude : ℤ) where
  module _ {p : ℤ × ℤ} (e : located page latitude longitude ≡ gives p) where
    held : AllHold (point_tests page latitude longitude) × (gives (latitude, longitude) ≡ gives p)
    held = all_held (point_tests page latitude longitude) (gives (latitude, longitude)) e

    same : ◌≡◌ {A = ℤ × ℤ} (latitude, longitude) p
    same = same_value held.1

    in_the_box : in_box page p.0 p.1 ≡ true
    in_the_box = subst (λ (q : ℤ × ℤ). in_box page q.0 q.1 ≡ true) same (both (is_position latitude longitude) (in_box page latitude longitude) held.0.1.0).1

    pub works : point_of page latitude longitude ≡ gives (worked page p.0 p.1)
    works = Answers.held (point_tests page latitude longitude) (gives (worked page latitude longitude)) held.0 ∙ ap (λ (q : ℤ × ℤ). gives (worked page q.0 q.1)) same

  pub refuses : (n : ℕ) → located page latitude longitude ≡ refused n → point_of page latitude longitude ≡ refused n
  refuses n e = fails (point_tests page latitude longitude) (gives (worked page latitude longitude)) n (first_failed (point_tests page latitude longitude) (latitude, longitude) n e)

  pub inside : {p q : ℤ} → gives (p, q) ≡ located page latitude longitude → in_box page p q ≡ true
  inside e = in_the_box (sym e)

-- ---- each of a point's values is in 4 bytes
of_family : (equations : Family Equation) (u v : ℤ) → AllFit equations u v → each is_four_bytes (evaluated_at equations u v) ≡ true
of_family equations u v = go equations
  where
    held : (e : Equation) → Fits e.divisor e.terms u v → is_four_bytes (equation_at e.divisor e.terms u v) ≡ true
    held e f = in_four_bytes (equation_at e.divisor e.terms u v) f.fits

    go : (equations : Family Equation) → AllFit equations u v → each is_four_bytes (evaluated_at equations u v) ≡ true
    go (shift a b c) f = joined (held a f.0) (joined (held b f.1) (held c f.2))
    go (geoid n) f = held n f

pub fit : (page : Page) → T (page_keeps page) → (latitude longitude : ℤ) → in_box page latitude longitude ≡ true → each is_four_bytes (worked page latitude longitude) ≡ true
fit page h latitude longitude inside = of_family page.equations (along page.u latitude) (along page.v (longitude_on page longitude)) (all_fit page h latitude longitude inside)

-- ---- where the shifts of a point lead is its converted position, where it has a shift
pub converts : (code latitude longitude : ℤ) {d_lat d_lon d_h : ℤ} → gives (shift d_lat d_lon d_h) ≡ shift_of code latitude longitude
    → shifted_by d_lat d_lon latitude longitude ≡ converted_of code latitude longitude
converts code latitude longitude {d_lat} {d_lon} e =
    let in_range = (all_held (tests is_shift code latitude longitude) (gives (worked (page_of code) latitude longitude)) (sym e)).0.1.1.0 in
    (λ i. provided (in_range i) 3 (gives (converted latitude d_lat, converted longitude d_lon)))
    ∙ ap (λ (a : Answer (Family ℤ)). following a (converted_by latitude longitude)) e
