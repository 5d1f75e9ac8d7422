use Rattle.std.proofs.Common.{◌≡◌, Ok, Err, sym, ap, ◌∙◌, List, ℕ, length, rules}
use mir.Syntax.{w64}
use mir.Val.{to_z, of_z}
use Rattle.kinds.specs.Answer.{Answer, counted, lent}
use Rattle.kinds.proofs.Answers.{handed_on}
use Rattle.layout.specs.Layout.{layout_answer, read_of}
use Rattle.sheet.proofs.Calls.{read_told, laid_out_lem, read_on, not_read}
use Rattle.sheet.proofs.work.Goals as goal

pub finished-requires : goal.finished-requires
finished-requires c =
    let e : layout_answer (Ok c.in_ok-layout.layout) ≡ read_of (to_z w64 (of_z w64 c.args.unit)) c.args.sheet.now = search rules in
    laid_out_lem c.args.unit c.args.sheet.now 0 (read_told _ c.ranges.unit e)

pub returns : goal.returns
returns c =
    let e : layout_answer (Ok c.in_ok-layout.layout) ≡ read_of (to_z w64 (of_z w64 c.args.unit)) c.args.sheet.now = search rules in
    let on = read_on c.args.unit c.args.sheet.now (length c.args.res.now) (read_told _ c.ranges.unit e) in
    record {
      result_value = c.finished.ensures.result_value ∙ ap counted on;
      res_after = c.finished.ensures.res_after ∙ ap (λ (w : Answer (List ℕ)). lent w c.args.res.now) on;
    }

pub returns-in_err-layout : goal.returns-in_err-layout
returns-in_err-layout c =
    let e : layout_answer (Err c.in_err-layout.field-0.0) ≡ read_of (to_z w64 (of_z w64 c.args.unit)) c.args.sheet.now = search rules in
    let stays = sym (not_read c.args.unit c.args.sheet.now (length c.args.res.now) (read_told _ c.ranges.unit e)) in
    record {
      result_value = handed_on (λ n. n) c.from_residual.result _ c.from_residual.ensures.1 ∙ ap counted stays;
      res_after = ap (λ (w : Answer (List ℕ)). lent w c.args.res.now) stays;
    }
