use Rattle.std.proofs.Common.{◌≡◌, true, false, refl, sym, ◌∙◌, arith}
use mir.Syntax.{w64}
use Rattle.whole.proofs.Words.{of}
use Rattle.kinds.proofs.Answers.{handed_on}
use Rattle.line.specs.Inside.{place_says}
use Rattle.line.proofs.Reading.{between, wrong_kind, latitude_read, latitude_refused}
use Rattle.line.proofs.read.Goals as goal

pub returns-then-not-is_digit-text : goal.returns-then-not-is_digit-text
returns-then-not-is_digit-text c =
    let wrong : between c.args.text.now ≡ false = grind arith in
    wrong_kind c.args.text.now (omega arith) wrong

pub returns-in_ok-longitude-in-Ok : goal.returns-in_ok-longitude-in-Ok
returns-in_ok-longitude-in-Ok c =
    let right : between c.args.text.now ≡ true = grind arith in
    latitude_read c.args.text.now (omega arith) right ((of {w = w64} (record { sfits = c.from.type_inv })).reads ∙ c.from.ensures) (sym c.in-Ok.ensures) c.in_ok-longitude-in-Ok.ensures

pub returns-in_err-longitude-in-Ok : goal.returns-in_err-longitude-in-Ok
returns-in_err-longitude-in-Ok c =
    let right : between c.args.text.now ≡ true = grind arith in
    handed_on place_says c.from_residual.result _ c.from_residual.ensures.1
    ∙ latitude_read c.args.text.now (omega arith) right refl (sym c.in-Ok.ensures) c.in_err-longitude-in-Ok.ensures

pub returns-in-Err : goal.returns-in-Err
returns-in-Err c =
    let right : between c.args.text.now ≡ true = grind arith in
    latitude_refused c.args.text.now (omega arith) right (sym c.in-Err.ensures) c.first_refusal.ensures
