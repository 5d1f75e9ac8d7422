use Rattle.std.proofs.Common.{◌≡◌, ℕ, List, length, ◌^◌, ◌<◌, true, ℤ, ap, ◌∙◌, arith, w64}
use Rattle.std.specs.Array.{IsWholeChunk}
use mir.Val.{hbits}
use Rattle.whole.proofs.Bools.{joined}
use Rattle.whole.proofs.Words.{from_unsigned}
use Rattle.kinds.specs.Kinds.{is_latitude, tested}
use Rattle.kinds.proofs.Answers.{handed_on}
use Rattle.position.specs.Text.{latitude, letter, is_letter, is_angle, in_sixties, read}
use Rattle.position.proofs.Reading.{two_fail, wrong_kind, south, not_south, untold, told}
use Rattle.position.proofs.read_latitude.Goals as goal

-- the text, as the array that it is
module _ {text array : List ℕ} (w : IsWholeChunk text array 11) where
  long : length array ≡ 11
  long = ap length w.same ∙ w.long

  whole : read latitude array ≡ read latitude text
  whole = ap (read latitude) w.same

pub returns-then-not-letter : goal.returns-then-not-letter
returns-then-not-letter c =
    let w = c.in-Some.ensures.cases in
    let t = c.in-Some.text.now in
    wrong_kind latitude t (long w)
    (two_fail true (is_angle latitude t) (is_letter latitude (letter latitude t)) c.if-not-letter.true)
    ∙ whole w

pub returns-in_err-ms : goal.returns-in_err-ms
returns-in_err-ms c =
    let w = c.in-Some.ensures.cases in
    handed_on (λ x. x.0) c.from_residual.result _ c.from_residual.ensures.1
    ∙ untold latitude c.in-Some.text.now (long w) c.if-not-letter.false _ c.in_err-ms.ensures.value
    ∙ whole w

pub returns-then-letter-eq83 : goal.returns-then-letter-eq83
returns-then-letter-eq83 c =
    let w = c.in-Some.ensures.cases in
    let t = c.in-Some.text.now in
    let r = told (is_angle latitude t) (in_sixties latitude t) c.in_ok-ms.ensures.value in
    c.southern.ensures
    ∙ simp (← r.1.1) (south latitude t (long w) (joined r.0 c.if-not-letter.false) r.1.0 c.if-letter-eq83.true)
    ∙ whole w

pub returns : goal.returns
returns c =
    let w = c.in-Some.ensures.cases in
    let t = c.in-Some.text.now in
    let r = told (is_angle latitude t) (in_sixties latitude t) c.in_ok-ms.ensures.value in
    let small : c.in_ok-ms.ms < 2 ^ hbits w64 = omega (arith, c.in_ok-ms.ensures.upper_bound) in
    c.new.ensures
    ∙ ap (λ (x : ℤ). tested (is_latitude x) x) (from_unsigned {w = w64} small).reads
    ∙ simp (← r.1.1) (not_south latitude t (long w) (joined r.0 c.if-not-letter.false) r.1.0 c.if-letter-eq83.false)
    ∙ whole w
