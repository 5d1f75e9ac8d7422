use Rattle.std.proofs.Common.{ap, ◌∙◌, refl}
use Rattle.tables.specs.Inside.{shift_or_none}
use Rattle.tables.proofs.Places.{fit, given}
use Rattle.tables.proofs.Datum.shift.Goals as goal

pub shift_by_tables-requires : goal.shift_by_tables-requires
shift_by_tables-requires c = fit c.args.self c.args.position.latitude.0 c.args.position.longitude.0 c.requires c.frame-frame.ensures c.place-place.ensures.0 c.place-place.ensures.1

pub returns : goal.returns
returns c =
    c.shift_by_tables.ensures
    ∙ ap shift_or_none (given c.args.self c.args.position.latitude.0 c.args.position.longitude.0 c.requires c.frame-frame.ensures c.place-place.ensures.0 c.place-place.ensures.1 refl)
