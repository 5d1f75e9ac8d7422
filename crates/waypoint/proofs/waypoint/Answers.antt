use Rattle.std.proofs.Common.{sym, ◌∙◌}
use Rattle.kinds.proofs.Answers.{handed_on}
use Rattle.waypoint.proofs.Positions.{printable, position_put, none_put}
use Rattle.waypoint.proofs.waypoint.Goals as goal

pub put_element-requires : goal.put_element-requires
put_element-requires c =
    let s = c.args.point in
    printable s.code s.latitude s.longitude (sym c.in_ok-position.ensures)

pub returns : goal.returns
returns c =
    let s = c.args.point in
    let p = c.put_element.ensures in
    let w = position_put s.code s.latitude s.longitude c.args.out.now c.in_ok-position.ensures (p.result_value, p.out_after) in
    record { result_value = w.0; out_after = w.1 }

pub returns-in_err-position : goal.returns-in_err-position
returns-in_err-position c =
    let s = c.args.point in
    let w = none_put s.code s.latitude s.longitude c.args.out.now c.in_err-position.ensures in
    record { result_value = handed_on (λ n. n) c.from_residual.result _ c.from_residual.ensures.1 ∙ w.0; out_after = w.1 }
