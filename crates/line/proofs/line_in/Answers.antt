use Rattle.std.proofs.Common.{◌≡◌, Ok, Err, ◌∙◌, sym, rules}
use lib.ListN.{replicate}
use Rattle.kinds.proofs.Answers.{handed_on}
use Rattle.kinds.proofs.Writing.{not_laid, laid_put}
use Rattle.line.specs.Inside.{place_says, place_answer, point_said, text_of}
use Rattle.line.proofs.Calls.{read_on, not_read, line_put, none_put}
use Rattle.line.proofs.line_in.Goals as goal

pub returns : goal.returns
returns c =
    let laid = c.in_ok-end.ensures in
    let put = c.put.ensures in
    let e : place_answer (Ok c.in_ok-place.place) ≡ point_said c.args.text.now = search rules in
    let w =
    line_put c.args.form c.args.text.now c.args.out.now (sym e)
    (laid_put (text_of c.args.form (place_says c.in_ok-place.place)) (replicate 48 0) _ (laid.result_value, laid.line_after) c.args.out.now (put.result_value, put.out_after)) in
    record { result_value = w.0; out_after = w.1 }

pub returns-in_err-place : goal.returns-in_err-place
returns-in_err-place c =
    let e : place_answer (Err c.in_err-place.field-0.0) ≡ point_said c.args.text.now = search rules in
    let w = none_put c.args.form c.args.text.now c.args.out.now (not_read c.args.text.now c.args.form (sym e)) in
    record { result_value = handed_on (λ n. n) c.from_residual.result _ c.from_residual.ensures.1 ∙ w.0; out_after = w.1 }

pub returns-in_err-end : goal.returns-in_err-end
returns-in_err-end c =
    let e : place_answer (Ok c.in_ok-place.place) ≡ point_said c.args.text.now = search rules in
    let refused = not_laid (text_of c.args.form (place_says c.in_ok-place.place)) c.in_err-end.ensures.result_value in
    let w = none_put c.args.form c.args.text.now c.args.out.now (sym (read_on c.args.text.now c.args.form (sym e)) ∙ refused) in
    record { result_value = handed_on (λ n. n) c.from_residual-in_err-end.result _ c.from_residual-in_err-end.ensures.1 ∙ w.0; out_after = w.1 }
