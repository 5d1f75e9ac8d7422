use Rattle.std.proofs.Common.{ap, ◌∙◌, refl}
use mir.Syntax.{w32}
use Rattle.whole.proofs.Words.{of}
use Rattle.tables.specs.Page.{geoid}
use Rattle.tables.specs.Inside.{geoid_or_none}
use Rattle.tables.proofs.Places.{axes_close, fit, given}
use Rattle.tables.proofs.Datum.geoid.Goals as goal

pub place-place-requires : goal.place-place-requires
place-place-requires c = axes_close c.args.self c.frame-frame.ensures

pub geoid_by_tables-requires : goal.geoid_by_tables-requires
geoid_by_tables-requires c = fit c.args.self c.args.position.latitude.0 c.args.position.longitude.0 c.requires c.frame-frame.ensures c.place-place.ensures.0 c.place-place.ensures.1

pub returns : goal.returns
returns c =
    ap geoid (of {w = w32} (record { sfits = c.geoid_by_tables.type_inv })).reads
    ∙ c.geoid_by_tables.ensures
    ∙ ap geoid_or_none (given c.args.self c.args.position.latitude.0 c.args.position.longitude.0 c.requires c.frame-frame.ensures c.place-place.ensures.0 c.place-place.ensures.1 refl)
