-- How near a point's values are to the exact ones: what the test of a page's bounds shows of every point of the box. The
-- theorem itself is `answer_near` of `equation`. Assumes nothing.
use mathlib.Core.Path.{◌≡◌, refl, sym, ap, ◌∙◌, subst}
use mathlib.Core.Bool.{Bool, true, false, not, ◌&&◌, ◌||◌}
use mathlib.Core.List.{List}
use Prim.Native.Nat.{ℕ, ◌+◌, ◌-◌, ◌*◌, ◌^◌, ◌<◌}
use native.Mathlib.Nat.{mul-pos}
use native.Mathlib.Omega.{arith}
use lib.Dec.{T, eqb, eqb→eq, leb, leb→le, ltb, ltb→lt, lit<, lit≤}
use lib.IntN.{ℤ, pos, nat_abs, ◌-ℤ◌, ◌*ℤ◌}
use lib.ListN.{get_or}
use mir.Facts.{and_yes}
use Rattle.whole.specs.Round.{round_div, scale}
use Rattle.whole.proofs.Bools.{three}
use Rattle.equation.specs.Equation.{Term, equation_of}
use Rattle.equation.specs.Exact.{Fraction, ◌over◌, whole, ◌times◌, ◌to_the◌, exact_of, Within}
use Rattle.equation.proofs.Fractions.{within_same, within_wider, within_both, same_scaled, exact_proper, reaches, common, over_common}
use Rattle.equation.proofs.Errors.{answer_near}
use Rattle.tables.specs.Page.{Page, Equation, Family, shift, geoid, of_each, each, Each}
use Rattle.tables.specs.Cyprus.{cyprus}
use Rattle.tables.specs.Tables.{pages}
use Rattle.tables.specs.Rule.{longitude_on, in_box, powers_u, powers_v, worked}
use Rattle.tables.proofs.Families.{each_by, each_of, paired, shift_so, geoid_so}
use Rattle.tables.proofs.Limits.{each_row, page_keeps, most_u, most_v, u_size, v_size}
use Rattle.tables.proofs.Bounds.{fine, within_h, equation_bounded, page_bounded}
use Rattle.datum.specs.Point.{is_code, page_of}
use Rattle.datum.specs.Exact.{exact_along, exact_at, exact, at_centre, AllNear, AllWithin, demanded}
use Rattle.datum.proofs.Codes.{numbered, of_each_lem, each_code}

-- ---- what holds of each equation's bound, exact value and answer
pub all_of : {A B : Type 0} (near : ℕ → Fraction → B → Type 0) (f : A → ℕ) (g : A → Fraction) (k : A → B) (family : Family A) → Each (λ a. near (f a) (g a) (k a)) family → AllNear near (of_each f family) (of_each g family) (of_each k family)
all_of near f g k (shift a b c) h = h
all_of near f g k (geoid n) h = h

-- so what the test shows of a point of the box
pub point_near : (page : Page) → T (page_keeps page) → T (page_bounded page) → (latitude longitude : ℤ) → in_box page latitude longitude ≡ true
    → AllWithin 1000 (of_each (λ e. e.bound) page.equations) (exact page latitude longitude) (worked page latitude longitude)
point_near page keeps test latitude longitude inside =
    all_of (λ h exact value. Within h 1000 exact value) (λ e. e.bound) _ _ page.equations (each_by (equation_bounded page) near page.equations test)
  where
    near : (e : Equation) → T (equation_bounded page e) → Within e.bound 1000 (exact_at (exact_along page.u latitude) (exact_along page.v (longitude_on page longitude)) e) (equation_of e.divisor e.terms (powers_u page latitude) (powers_v page longitude))
    near e t =
        answer_near scale fine page.u.divisor page.v.divisor e.divisor (most_u page) (most_v page) e.bound 1000 e.terms
        (pos page.u.factor *ℤ latitude -ℤ page.u.offset) (pos page.v.factor *ℤ longitude_on page longitude -ℤ page.v.offset)
        (u_size page keeps latitude longitude inside) (v_size page keeps latitude longitude inside)
        (and_yes (within_h page e.bound e) (not (within_h page (e.bound - 1) e)) t).0

-- ---- wider bounds
-- what is so near by one bound is so near by another, where a test says that it is no narrower
pub all_nearer : {A : Type 0} {R S : ℕ → Fraction → A → Type 0} (test : ℕ → ℕ → Bool) → ((h o : ℕ) (f : Fraction) (a : A) → T (test h o) → R h f a → S o f a)
    → (narrow wide : Family ℕ) (exacts : Family Fraction) (values : Family A) → T (paired test narrow wide) → AllNear R narrow exacts values → AllNear S wide exacts values
all_nearer test so (shift h i j) (shift o q r) exacts values passes =
    let t = three (test h o) (test i q) (test j r) passes in
    shift_so exacts (λ d_lat d_lon d_h. shift_so values (λ a b c w. (so h o d_lat a t.0 w.0, so i q d_lon b t.1 w.1, so j r d_h c t.2 w.2)))
all_nearer test so (geoid h) (geoid o) exacts values passes = geoid_so exacts (λ height. geoid_so values (λ a. so h o height a passes))
all_nearer test so (shift h i j) (geoid o) exacts values passes = absurd passes
all_nearer test so (geoid h) (shift o q r) exacts values passes = absurd passes

-- in other parts of a unit
abbrev pub no_narrower : ℕ → ℕ → Family ℕ → Family ℕ → Bool
no_narrower n m = paired (λ h o. leb (m * h) (o * n))

pub all_widened : (n m : ℕ) → 0 < n → (narrow wide : Family ℕ) (exacts : Family Fraction) (values : Family ℤ) → T (no_narrower n m narrow wide) → AllWithin n narrow exacts values → AllWithin m wide exacts values
all_widened n m p = all_nearer (λ h o. leb (m * h) (o * n)) (λ h o f x t w. within_wider o m p (leb→le (m * h) (o * n) t) w)

-- what is demanded of values that were worked out is what is demanded of the equations
pub same_demand : {A B : Type 0} (f : A → B) (family : Family A) → demanded (of_each f family) ≡ demanded family
same_demand f (shift a b c) = refl
same_demand f (geoid n) = refl

-- the bounds of a page are no wider than demand 3, nor are they with a thousandth of a unit more, which a float may take
abbrev page_demanded : (Family ℕ → Family ℕ) → Page → Bool
page_demanded made page = no_narrower 1000 1 (made (of_each (λ e. e.bound) page.equations)) (demanded page.equations)

pub row_demanded : (n : ℕ) → T (page_demanded (λ bounds. bounds) (get_or pages n cyprus))
row_demanded = each_row (page_demanded (λ bounds. bounds)) tt

pub row_float_demanded : (n : ℕ) → T (page_demanded (of_each (λ h. h + 1)) (get_or pages n cyprus))
row_float_demanded = each_row (page_demanded (of_each (λ h. h + 1))) tt

-- ---- over one power of the bottom of U and V
abbrev Over : ℕ → Fraction → Type 0
Over d f = (n : ℤ) × Within 0 1 (f times whole (pos d)) n

-- of equations with at most 18 factors in a term, that are divided by the scale alone, on axes that are divided by 3,600,000
abbrev reached : Equation → Bool
reached e = reaches 18 e.terms && eqb e.divisor scale

abbrev page_over : Page → Bool
page_over page = eqb page.u.divisor 3600000 && (eqb page.v.divisor 3600000 && each reached page.equations)

pub row_over : (n : ℕ) → T (page_over (get_or pages n cyprus))
row_over = each_row page_over tt

by_number : (ts : List Term) (a b : ℤ) {m k d : ℕ} → m ≡ 3600000 → k ≡ 3600000 → d ≡ scale → T (reaches 18 ts) → Over (360000000000000 ^ 18) (exact_of ts (a over (m * scale)) (b over (k * scale)) times (pos scale over d))
by_number ts a b hm hk hd t =
    let f = exact_of ts (a over 360000000000000) (b over 360000000000000) in (
      common 360000000000000 18 a b ts,
      rw (hm, hk, hd)
          (within_same (f times (pos scale over scale) times whole (pos (360000000000000 ^ 18))) (f times whole (pos (360000000000000 ^ 18))) (same_scaled f scale (360000000000000 ^ 18))
          (mul-pos (mul-pos (exact_proper (a over 360000000000000) (b over 360000000000000) (lit< tt) (lit< tt) ts) (lit< tt)) (lit< tt)) (over_common 360000000000000 18 a b ts (lit< tt) t)),
    )

pub over_power : (page : Page) → T (page_over page) → (latitude longitude : ℤ) → Each (Over (360000000000000 ^ 18)) (exact page latitude longitude)
over_power page test latitude longitude =
    each_of (Over (360000000000000 ^ 18)) value page.equations (each_by {P = λ e. Over (360000000000000 ^ 18) (value e)} reached one page.equations t.2)
  where
    t : T (eqb page.u.divisor 3600000) × T (eqb page.v.divisor 3600000) × T (each reached page.equations)
    t = three (eqb page.u.divisor 3600000) (eqb page.v.divisor 3600000) (each reached page.equations) test

    value : Equation → Fraction
    value = exact_at (exact_along page.u latitude) (exact_along page.v (longitude_on page longitude))

    one : (e : Equation) → T (reached e) → Over (360000000000000 ^ 18) (value e)
    one e r =
        let p = and_yes (reaches 18 e.terms) (eqb e.divisor scale) r in
        by_number e.terms (pos page.u.factor *ℤ latitude -ℤ page.u.offset) (pos page.v.factor *ℤ longitude_on page longitude -ℤ page.v.offset)
        (eqb→eq page.u.divisor 3600000 t.0) (eqb→eq page.v.divisor 3600000 t.1) (eqb→eq e.divisor scale p.1) p.0

-- ---- two points whose exact values no one answer meets
-- more than four units apart, so that nothing is within two of both
abbrev apart : Fraction → Fraction → Bool
apart f g = ltb (4 * (f.bottom * g.bottom)) (nat_abs (f.top *ℤ pos g.bottom -ℤ g.top *ℤ pos f.bottom))

-- of two shifts by dLat; a shift and a geoid height are no one answer
abbrev all_apart : Family Fraction → Family Fraction → Bool
all_apart (shift f a b) (shift g c d) = apart f g
all_apart (geoid f) (geoid g) = apart f g
all_apart (shift f a b) (geoid g) = true
all_apart (geoid f) (shift g c d) = true

not_both : (f g : Fraction) (x : ℤ) → T (apart f g) → Within 2 1 f x → Within 2 1 g x → ⊥
not_both f g x far v w =
    absurd (omega (arith, (within_both f g v w).near, ltb→lt (4 * (f.bottom * g.bottom)) (nat_abs (f.top *ℤ pos g.bottom -ℤ g.top *ℤ pos f.bottom)) far))

pub no_one_answer : (e f : Family Fraction) (values : Family ℤ) → T (all_apart e f) → AllWithin 1 (demanded values) e values → AllWithin 1 (demanded values) f values → ⊥
no_one_answer (shift e a b) (shift f c d) (shift x y z) far v w = not_both e f x far v.0 w.0
no_one_answer (geoid e) (geoid f) (geoid x) far v w = not_both e f x far (within_wider 2 1 (lit< tt) (lit≤ tt) v) (within_wider 2 1 (lit< tt) (lit≤ tt) w)
no_one_answer (geoid e) f (shift x y z) far v w = v
no_one_answer (shift e a b) (geoid f) (shift x y z) far v w = w
no_one_answer (shift e a b) f (geoid x) far v w = v
no_one_answer (geoid e) (shift f c d) (geoid x) far v w = w

-- two codes, by one test of all pairs
abbrev far : ℤ → ℤ → Bool
far c d = eqb (nat_abs c) (nat_abs d) || all_apart (at_centre (page_of c)) (at_centre (page_of d))

all_far : T (of_each_lem (λ c. of_each_lem (far c)))
unfolding round_div exact_of ◌to_the◌
all_far = tt

pub centres_apart : (c d : ℤ) → is_code c ≡ true → is_code d ≡ true → (c ≡ d → ⊥) → T (all_apart (at_centre (page_of c)) (at_centre (page_of d)))
centres_apart c d h k other = go (eqb (nat_abs c) (nat_abs d)) refl (each_code (far c) (each_code (λ c. of_each_lem (far c)) all_far c h) d k)
  where
    same : nat_abs c ≡ nat_abs d → c ≡ d
    same e =
        let m = (numbered c h).1.1 in
        let n = (numbered d k).1.1 in
        m ∙ ap pos (sym (ap nat_abs m) ∙ e ∙ ap nat_abs n) ∙ sym n

    go : (b : Bool) → eqb (nat_abs c) (nat_abs d) ≡ b → T (b || all_apart (at_centre (page_of c)) (at_centre (page_of d))) → T (all_apart (at_centre (page_of c)) (at_centre (page_of d)))
    go true e t = absurd (other (same (eqb→eq (nat_abs c) (nat_abs d) (subst T (sym e) tt))))
    go false e t = t
