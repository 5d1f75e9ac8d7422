use Rattle.std.proofs.Common.{◌≡◌, ℕ, nat_abs, ap, ◌∙◌, w64}
use Rattle.whole.proofs.Words.{of}
use Rattle.kinds.proofs.Answers.{handed_on}
use Rattle.position.specs.Text.{longitude, letter_e, spelled, text}
use Rattle.position.proofs.Writing.{told, out_of_range, in_range}
use Rattle.position.proofs.write_longitude.Goals as goal

pub returns-in_err-new : goal.returns-in_err-new
returns-in_err-new c =
    let w = out_of_range longitude c.args.ms c.args.out.now (told longitude c.ranges.ms c.in_err-new.ensures) in
    record { result_value = handed_on (λ n. n) c.from_residual.result _ c.from_residual.ensures.1 ∙ w.0; out_after = w.1 }

pub returns : goal.returns
returns c =
    let size : c.unsigned_abs.result ≡ nat_abs c.args.ms = c.unsigned_abs.ensures.value ∙ ap nat_abs (of {w = w64} c.ranges.ms).reads in
    let line : c.spelled-line.result ≡ text longitude c.args.ms =
    c.spelled-line.ensures ∙ ap (λ (m : ℕ). spelled longitude m letter_e) size in
    let w =
    in_range longitude c.args.ms c.args.out.now (told longitude c.ranges.ms c.in_ok-new.ensures) _ line
    (c.put.ensures.result_value, c.put.ensures.out_after) in
    record { result_value = w.0; out_after = w.1 }
