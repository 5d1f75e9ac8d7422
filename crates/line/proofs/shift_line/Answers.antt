use Rattle.std.proofs.Common.{◌∙◌}
use mir.Syntax.{w32}
use Rattle.whole.proofs.Words.{of}
use Rattle.line.proofs.Writing.{second_room, third_room, shift_written}
use Rattle.line.proofs.shift_line.Goals as goal

pub number_and-requires : goal.number_and-requires
number_and-requires c =
    let p = c.number_and-second.ensures in
    second_room _ c.args.line.now c.requires _ p.value p.line_after

pub number_and-requires-2 : goal.number_and-requires-2
number_and-requires-2 c =
    let p = c.number_and-second.ensures in
    let q = c.number_and.ensures in
    third_room _ c.args.line.now c.requires _ p.value p.line_after _ q.value q.line_after

pub returns : goal.returns
returns c =
    let p = c.number_and-second.ensures in
    let q = c.number_and.ensures in
    let r = c.number_and-2.ensures in
    let w = shift_written _ c.args.line.now c.requires _ p.value p.line_after _ q.value q.line_after _ r.value r.line_after
    ((of {w = w32} (record { sfits = c.units.type_inv })).reads ∙ c.units.ensures)
    ((of {w = w32} (record { sfits = c.units-2.type_inv })).reads ∙ c.units-2.ensures)
    ((of {w = w32} (record { sfits = c.mm.type_inv })).reads ∙ c.mm.ensures) in
    record { value = w.0; line_after = w.1 }
