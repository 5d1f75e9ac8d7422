use Rattle.std.proofs.Common.{ap, ◌∙◌}
use Rattle.datum.specs.Point.{shift_of}
use Rattle.buckettin.specs.Fields.{shift_fields}
use Rattle.buckettin.proofs.Points.{pointed}
use Rattle.buckettin.proofs.buckettin_shift.Goals as goal

pub returns : goal.returns
returns c =
    c.from.ensures
    ∙ ap shift_fields (c.shift.ensures ∙ pointed c.ranges.code c.ranges.latitude_ms c.ranges.longitude_ms c.point.ensures shift_of)
