use Rattle.stream.proofs.Printing.{answer_put, refusal_fits, refusal_put}
use Rattle.stream.proofs.printed.Goals as goal

pub refused-requires : goal.refused-requires
refused-requires c =
    refusal_fits c.args.form c.args.line.now c.args.out.now c.requires _ c.in-Err.ensures.result_value _ c.in-Err.ensures.out_after

pub returns-in-Ok : goal.returns-in-Ok
returns-in-Ok c =
    let w = answer_put c.args.form c.args.line.now c.args.out.now c.requires _ _ c.in-Ok.ensures.result_value c.in-Ok.ensures.out_after in
    record { value = w.0; out_after = w.1 }

pub returns-in-Err : goal.returns-in-Err
returns-in-Err c =
    let w =
    refusal_put c.args.form c.args.line.now c.args.out.now c.requires _ c.in-Err.ensures.result_value _ c.in-Err.ensures.out_after _ _
    (c.refused.ensures.value, c.refused.ensures.out_after) in
    record { value = w.0; out_after = w.1 }
