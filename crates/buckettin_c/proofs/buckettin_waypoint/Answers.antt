use Rattle.std.proofs.Common.{ap, ◌∙◌, length}
use Rattle.kinds.specs.Answer.{counted, lent}
use Rattle.kinds.proofs.Calls.{came}
use Rattle.waypoint.specs.Waypoint.{waypoint_of}
use Rattle.buckettin.specs.Fields.{written_fields}
use Rattle.buckettin_c.proofs.buckettin_waypoint.Goals as goal

pub returns-clause-value : goal.returns-clause-value
returns-clause-value c =
    c.buckettin_waypoint.ensures.value
    ∙ ap written_fields (came c.ranges.code c.ranges.latitude_ms c.ranges.longitude_ms (λ k a o. counted (waypoint_of k a o (length c.args.out.now))))

pub returns-clause-out_after : goal.returns-clause-out_after
returns-clause-out_after c =
    c.buckettin_waypoint.ensures.out_after
    ∙ came c.ranges.code c.ranges.latitude_ms c.ranges.longitude_ms (λ k a o. lent (waypoint_of k a o (length c.args.out.now)) c.args.out.now)
