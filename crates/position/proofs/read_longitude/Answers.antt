use Rattle.std.proofs.Common.{◌≡◌, ℕ, ◌+◌, ◌*◌, ◌^◌, ◌<◌, Bool, true, false, ◌&&◌, List, [], ◌∷◌, length, take, drop, take_all, ℤ, pos, sym, ap, ◌∙◌, arith, w64, eqb-true}
use Rattle.std.specs.Array.{IsWholeChunk}
use mir.Val.{hbits}
use Rattle.whole.specs.Digits.{is_digit}
use Rattle.whole.proofs.Bools.{both, joined}
use Rattle.whole.proofs.Words.{from_unsigned}
use Rattle.kinds.specs.Kinds.{is_longitude, tested}
use Rattle.kinds.proofs.Answers.{handed_on}
use Rattle.kinds.proofs.Bytes.{at}
use Rattle.position.specs.Text.{latitude, longitude, letter_e, letter, is_letter, is_angle, in_sixties, angle, read}
use Rattle.position.proofs.Bytes.{longitude_is_angle, longitude_in_sixties, longitude_angle}
use Rattle.position.proofs.Reading.{two_fail, wrong_kind, not_south, untold, told}
use Rattle.position.proofs.read_longitude.Goals as goal

-- a text, as the array that it is, by its first byte and the rest
first_rest : (t : List ℕ) → length t ≡ 12 → at t 0 ∷ take 11 (drop 1 t) ≡ t
first_rest [] h = absurd (omega arith)
first_rest (b ∷ t) h = ap (λ (l : List ℕ). b ∷ l) (take_all 11 t (omega arith))

module _ {text array rest : List ℕ} (v : IsWholeChunk text array 12) (w : IsWholeChunk (take 11 (drop 1 array)) rest 11) where
  long : length rest ≡ 11
  long = ap length w.same ∙ w.long

  whole : read longitude (at array 0 ∷ rest) ≡ read longitude text
  whole = ap (λ (l : List ℕ). read longitude (at array 0 ∷ l)) w.same ∙ ap (read longitude) (first_rest array (ap length v.same ∙ v.long) ∙ v.same)

-- its first byte and its letter
ends : (b : ℕ) (t : List ℕ) {d : Bool} → d ≡ is_digit b → (d && is_letter longitude (letter longitude (b ∷ t))) ≡ true
    → (is_digit b ≡ true) × (is_letter longitude (letter longitude (b ∷ t)) ≡ true)
ends b t {d} e h =
    let p = both d (is_letter longitude (letter longitude (b ∷ t))) h in
    (sym e ∙ p.0, p.1)

pub returns-then-not-is_digit-letter : goal.returns-then-not-is_digit-letter
returns-then-not-is_digit-letter c =
    let v = c.in-Some.ensures.cases in
    let w = rw c.unwrap-rest.ensures at c.as_array-2.ensures.cases in
    let b = at c.in-Some.text.now 0 in
    let t = c.unwrap-rest.result.now in
    let h : (is_digit b && is_letter longitude (letter longitude (b ∷ t))) ≡ false = simp (← c.is_digit.ensures) c.if-not-is_digit-letter.true in
    wrong_kind longitude (b ∷ t) (omega (arith, long v w))
    (simp (← longitude_is_angle b t) (two_fail (is_digit b) (is_angle latitude t) (is_letter longitude (letter longitude (b ∷ t))) h))
    ∙ whole v w

pub returns-in_err-ms : goal.returns-in_err-ms
returns-in_err-ms c =
    let v = c.in-Some.ensures.cases in
    let w = rw c.unwrap-rest.ensures at c.as_array-2.ensures.cases in
    let b = at c.in-Some.text.now 0 in
    let t = c.unwrap-rest.result.now in
    let e = ends b t c.is_digit.ensures c.if-not-is_digit-letter.false in
    handed_on (λ x. x.0) c.from_residual.result _ c.from_residual.ensures.1
    ∙ untold longitude (b ∷ t) (omega (arith, long v w)) e.1 (angle latitude t)
    (simp (← longitude_is_angle b t, e.0, ← longitude_in_sixties b t) c.in_err-ms.ensures.value)
    ∙ whole v w

pub returns : goal.returns
returns c =
    let v = c.in-Some.ensures.cases in
    let w = rw c.unwrap-rest.ensures at c.as_array-2.ensures.cases in
    let b = at c.in-Some.text.now 0 in
    let t = c.unwrap-rest.result.now in
    let e = ends b t c.is_digit.ensures c.if-not-is_digit-letter.false in
    let r = told (is_angle latitude t) (in_sixties latitude t) c.in_ok-ms.ensures.value in
    let n = c.digit.result * 360000000 + c.in_ok-ms.ms in
    let small : n < 2 ^ hbits w64 = omega (arith, c.digit.ensures.upper_bound, c.in_ok-ms.ensures.upper_bound) in
    let ms : n ≡ angle longitude (b ∷ t) = simp (c.digit.ensures.value, ← r.1.1) (longitude_angle b t (long v w)) in
    c.new.ensures
    ∙ ap (λ (x : ℤ). tested (is_longitude x) x) ((from_unsigned {w = w64} small).reads ∙ ap pos ms)
    ∙ not_south longitude (b ∷ t) (omega (arith, long v w)) (joined (sym (longitude_is_angle b t) ∙ joined e.0 r.0) e.1) (sym (longitude_in_sixties b t) ∙ r.1.0)
    (λ h. omega (arith, eqb-true (letter longitude (b ∷ t)) letter_e e.1, h))
    ∙ whole v w
