use Rattle.std.proofs.Common.{◌≡◌, ℕ, List, take, drop, nat_abs, sym, ap, ◌∙◌, w64}
use lib.Signed.{lt_z}
use Rattle.whole.proofs.Signs.{below_zero, from_zero}
use Rattle.whole.proofs.Words.{of, zero_is, tested}
use Rattle.kinds.proofs.Answers.{handed_on}
use Rattle.position.specs.Text.{latitude, letter_of, spelled, text}
use Rattle.position.proofs.Writing.{spelled_rest, told, out_of_range, in_range}
use Rattle.position.proofs.write_latitude.Goals as goal
use Rattle.position.proofs.write_latitude.Goals.{then-ms-lt0, else-ms-lt0}

pub returns-in_err-new : goal.returns-in_err-new
returns-in_err-new c =
    let w = out_of_range latitude c.args.ms c.args.out.now (told latitude c.ranges.ms c.in_err-new.ensures) in
    record { result_value = handed_on (λ n. n) c.from_residual.result _ c.from_residual.ensures.1 ∙ w.0; out_after = w.1 }

pub returns : goal.returns
returns c =
    let x = c.args.ms in
    let held = of {w = w64} c.ranges.ms in
    let size : c.unsigned_abs.result ≡ nat_abs x = c.unsigned_abs.ensures.value ∙ ap nat_abs held.reads in
    let letter : c.if-ms-lt0.letter ≡ letter_of latitude x =
    elim c.if-ms-lt0.branch [
      | then-ms-lt0 w ↦ w.letter-is ∙ sym (ap (letter_of latitude) (below_zero x (tested lt_z held zero_is w.if-ms-lt0.true)))
      | else-ms-lt0 w ↦ w.letter-is ∙ sym (ap (letter_of latitude) (from_zero x (tested lt_z held zero_is w.if-ms-lt0.false)))
    ] in
    let line : take 11 (drop 1 c.spelled-line.result) ≡ text latitude x =
    ap (λ (l : List ℕ). take 11 (drop 1 l)) c.spelled-line.ensures
    ∙ spelled_rest _ _
    ∙ (λ i. spelled latitude (size i) (letter i)) in
    let w =
    in_range latitude x c.args.out.now (told latitude c.ranges.ms c.in_ok-new.ensures) _ line
    (c.put.ensures.result_value, c.put.ensures.out_after) in
    record { result_value = w.0; out_after = w.1 }
