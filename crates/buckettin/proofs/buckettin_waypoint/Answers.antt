use Rattle.std.proofs.Common.{sym, ap, ◌∙◌, subst, length}
use Rattle.kinds.specs.Answer.{counted, lent}
use Rattle.waypoint.specs.Waypoint.{waypoint_of}
use Rattle.buckettin.specs.Fields.{written_fields}
use Rattle.buckettin.proofs.Counts.{Small, waypoint_small}
use Rattle.buckettin.proofs.Points.{pointed}
use Rattle.buckettin.proofs.buckettin_waypoint.Goals as goal

pub in_numbers-requires : goal.in_numbers-requires
in_numbers-requires c =
    let p = c.point.result in
    subst Small (sym c.waypoint.ensures.result_value) (waypoint_small p.code p.latitude p.longitude (length c.args.out.now))

pub returns-clause-value : goal.returns-clause-value
returns-clause-value c =
    c.in_numbers.ensures
    ∙ ap written_fields
    (c.waypoint.ensures.result_value ∙ pointed c.ranges.code c.ranges.latitude_ms c.ranges.longitude_ms c.point.ensures (λ k a o. counted (waypoint_of k a o (length c.args.out.now))))

pub returns-clause-out_after : goal.returns-clause-out_after
returns-clause-out_after c =
    c.waypoint.ensures.out_after
    ∙ pointed c.ranges.code c.ranges.latitude_ms c.ranges.longitude_ms c.point.ensures (λ k a o. lent (waypoint_of k a o (length c.args.out.now)) c.args.out.now)
