use Rattle.std.proofs.Common.{sym, ap, ◌∙◌, arith}
use mir.Syntax.{w32}
use Rattle.whole.proofs.Words.{of}
use Rattle.kinds.specs.Answer.{gives}
use Rattle.datum.specs.Cases.{shift_says}
use Rattle.kinds.proofs.Answers.{handed_on}
use Rattle.kinds.proofs.Writing.{laid, none_laid}
use Rattle.line.specs.Line.{line_feed}
use Rattle.line.specs.Inside.{place_says}
use Rattle.line.proofs.Calls.{numbers_by}
use Rattle.line.proofs.Printing.{answer_line_short}
use Rattle.line.proofs.Writing.{field, field_long, geoid_field}
use Rattle.line.proofs.numbers_line.Goals as goal

pub prove-unreachable-requires : goal.prove-unreachable-requires
prove-unreachable-requires c = omega (arith, c.shift_line-end.ensures.value, answer_line_short (shift_says c.in-Shift.shifts))

pub returns-in-Shift : goal.returns-in-Shift
returns-in-Shift c =
    let p = c.shift_line-end.ensures in
    let w =
    laid _ c.args.line.now
    (numbers_by (place_says c.args.place) c.point-point.ensures.code_value c.point-point.ensures.latitude_value c.point-point.ensures.longitude_value
    (rw c.in-Shift.is at c.in_ok-given.ensures))
    p.value p.line_after in
    record { result_value = w.0; line_after = w.1 }

pub returns-in-Geoid : goal.returns-in-Geoid
returns-in-Geoid c =
    let p = c.number_and.ensures in
    let w =
    laid (field _ line_feed) c.args.line.now
    (numbers_by (place_says c.args.place) c.point-point.ensures.code_value c.point-point.ensures.latitude_value c.point-point.ensures.longitude_value
    (rw c.in-Geoid.is at c.in_ok-given.ensures)
    ∙ ap gives (sym (geoid_field ((of {w = w32} (record { sfits = c.mm.type_inv })).reads ∙ c.mm.ensures))))
    (p.value ∙ sym (field_long _ line_feed)) p.line_after in
    record { result_value = w.0; line_after = w.1 }

pub returns-in_err-given : goal.returns-in_err-given
returns-in_err-given c =
    let w =
    none_laid c.args.line.now
    (numbers_by (place_says c.args.place) c.point-point.ensures.code_value c.point-point.ensures.latitude_value c.point-point.ensures.longitude_value
    c.in_err-given.ensures) in
    record { result_value = handed_on (λ n. n) c.from_residual.result _ c.from_residual.ensures.1 ∙ w.0; line_after = w.1 }
