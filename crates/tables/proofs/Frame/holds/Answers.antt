use Rattle.std.proofs.Common.{◌≡◌, ◌∙◌, rules, Bool, ◌&&◌, ℤ}
use mir.Syntax.{w32, w64}
use mir.Val.{SFits, to_z, of_z}
use Rattle.whole.proofs.Words.{of}
use Rattle.kinds.specs.Kinds.{within}
use Rattle.tables.proofs.Frame.holds.Goals as goal

-- one call of `within`, on two fields and a number that is x
side : (least largest x : ℤ) {r : ℤ} {b : Bool} → SFits w64 least → SFits w64 largest → r ≡ x → b ≡ within (to_z w64 (of_z w64 least)) (to_z w64 (of_z w64 largest)) r → b ≡ within least largest x
side least largest x f g e t = t ∙ (λ i. within ((of f).reads i) ((of g).reads i) (e i))

pub returns : goal.returns
returns c =
    let frame = c.args.self in
    let south : SFits w64 frame.south = search rules in
    let north : SFits w64 frame.north = search rules in
    let west : SFits w64 frame.west = search rules in
    let east : SFits w64 frame.east = search rules in
    let m = c.ms in
    let l = c.longitude-longitude in
    let a = side frame.south frame.north c.args.position.latitude.0 south north ((of {w = w64} (record { sfits = c.from.type_inv })).reads ∙ c.from.ensures ∙ (of {w = w32} (record { sfits = m.type_inv })).reads ∙ m.ensures) c.within.ensures in
    let b = side frame.west frame.east _ west east ((of {w = w64} (record { sfits = l.type_inv })).reads ∙ l.ensures.0) c.within-2.ensures in
    λ i. a i && b i
