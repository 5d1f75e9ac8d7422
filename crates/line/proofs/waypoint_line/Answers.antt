use Rattle.std.proofs.Common.{sym, ◌∙◌, ◌≤◌, length, arith}
use Rattle.kinds.proofs.Answers.{handed_on}
use Rattle.kinds.proofs.Writing.{laid, none_laid}
use Rattle.waypoint.proofs.Positions.{printable}
use Rattle.waypoint.proofs.Writing.{element_short}
use Rattle.line.specs.Inside.{place_says}
use Rattle.line.proofs.Calls.{waypoint_by}
use Rattle.line.proofs.Writing.{waypoint, waypoint_long, waypoint_ended}
use Rattle.line.proofs.waypoint_line.Goals as goal

pub element-end-requires : goal.element-end-requires
element-end-requires c =
    let s = c.point-point.result in
    (printable s.code s.latitude s.longitude (sym c.in_ok-position.ensures), omega arith)

pub bounds-line-end : goal.bounds-line-end
bounds-line-end c =
    let s = c.point-point.result in
    let p = c.in_ok-position.position in
    omega (arith, c.element-end.ensures.value, element_short p.latitude.0 p.longitude.0 (printable s.code s.latitude s.longitude (sym c.in_ok-position.ensures)))

pub returns : goal.returns
returns c =
    let room : 48 ≤ length c.args.line.now = omega arith in
    let s = c.point-point.result in
    let p = c.in_ok-position.position in
    let small = printable s.code s.latitude s.longitude (sym c.in_ok-position.ensures) in
    let e = c.element-end.ensures in
    let w =
    laid (waypoint p.latitude.0 p.longitude.0) c.args.line.now
    (waypoint_by (place_says c.args.place) c.point-point.ensures.code_value c.point-point.ensures.latitude_value c.point-point.ensures.longitude_value
    c.in_ok-position.ensures)
    (waypoint_long p.latitude.0 p.longitude.0 e.value) (waypoint_ended p.latitude.0 p.longitude.0 small c.args.line.now room e.value e.line_after) in
    record { result_value = w.0; line_after = w.1 }

pub returns-in_err-position : goal.returns-in_err-position
returns-in_err-position c =
    let w =
    none_laid c.args.line.now
    (waypoint_by (place_says c.args.place) c.point-point.ensures.code_value c.point-point.ensures.latitude_value c.point-point.ensures.longitude_value
    c.in_err-position.ensures) in
    record { result_value = handed_on (λ n. n) c.from_residual.result _ c.from_residual.ensures.1 ∙ w.0; line_after = w.1 }
