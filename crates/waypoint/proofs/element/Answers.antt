use Rattle.std.proofs.Common.{◌≡◌, sym, subst, ◌<◌, ℤ, nat_abs}
use Rattle.waypoint.specs.Waypoint.{degrees}
use Rattle.waypoint.proofs.Degrees.{two_digits}
use Rattle.waypoint.proofs.Writing.{second_room, third_room, element_written}
use Rattle.waypoint.proofs.element.Goals as goal

low : (x latitude : ℤ) → x ≡ degrees latitude → nat_abs latitude < 36000000000 → nat_abs x < 100000000000
low x latitude e h = subst (λ (z : ℤ). nat_abs z < 100000000000) (sym e) (two_digits latitude h)

pub labelled-requires : goal.labelled-requires
labelled-requires c =
    let below = low _ c.args.position.latitude.0 c.north.ensures c.requires.0.0 in
    let p = c.labelled-middle.ensures in
    second_room _ below c.args.line.now c.requires.1 _ p.value p.line_after

pub copy-requires : goal.copy-requires
copy-requires c =
    let below = low _ c.args.position.latitude.0 c.north.ensures c.requires.0.0 in
    let p = c.labelled-middle.ensures in
    let q = c.labelled.ensures in
    third_room _ below c.args.line.now c.requires.1 _ p.value p.line_after _ c.east.result.few q.value q.line_after

pub returns : goal.returns
returns c =
    let below = low _ c.args.position.latitude.0 c.north.ensures c.requires.0.0 in
    let p = c.labelled-middle.ensures in
    let q = c.labelled.ensures in
    let w = element_written _ below c.args.line.now c.requires.1 _ p.value p.line_after _ c.east.result.few q.value q.line_after c.copy.ensures.value c.copy.ensures.out_after c.args.position.latitude.0 c.args.position.longitude.0 c.north.ensures c.east.ensures in
    record { value = w.0; line_after = w.1 }
