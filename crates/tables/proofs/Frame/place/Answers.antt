use Rattle.std.proofs.Common.{ap, ◌∙◌}
use mir.Syntax.{w32, w64}
use Rattle.whole.proofs.Words.{of}
use Rattle.tables.specs.Inside.{on_axis}
use Rattle.tables.proofs.Frame.place.Goals as goal

pub returns : goal.returns
returns c =
    let m = c.ms in
    let l = c.longitude in (
      c.along.ensures ∙ ap (on_axis c.args.self.u) ((of {w = w64} (record { sfits = c.from.type_inv })).reads ∙ c.from.ensures ∙ (of {w = w32} (record { sfits = m.type_inv })).reads ∙ m.ensures),
      c.along-2.ensures ∙ ap (on_axis c.args.self.v) ((of {w = w64} {x = l.result} (record { sfits = l.type_inv })).reads ∙ l.ensures.0),
    )
