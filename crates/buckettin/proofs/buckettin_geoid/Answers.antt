use Rattle.std.proofs.Common.{ap, ◌∙◌}
use Rattle.datum.specs.Point.{geoid_of}
use Rattle.buckettin.specs.Fields.{geoid_fields}
use Rattle.buckettin.proofs.Points.{pointed}
use Rattle.buckettin.proofs.buckettin_geoid.Goals as goal

pub returns : goal.returns
returns c =
    c.from.ensures
    ∙ ap geoid_fields (c.geoid.ensures ∙ pointed c.ranges.code c.ranges.latitude_ms c.ranges.longitude_ms c.point.ensures geoid_of)
