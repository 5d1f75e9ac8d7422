use Rattle.std.proofs.Common.{ap, ◌∙◌, ℤ, pos, ◌*ℤ◌, arith}
use mir.Syntax.{w64}
use Rattle.whole.specs.Round.{round_div}
use Rattle.whole.proofs.Sizes.{abs-*}
use Rattle.whole.proofs.Words.{of, lit, gives, small}
use Rattle.waypoint.proofs.Degrees.{by_nines}
use Rattle.waypoint.proofs.in_billionths.Goals as goal

pub returns : goal.returns
returns c =
    let n = c.args.units in
    (of {w = w64} (record { sfits = c.rounded.type_inv })).reads
    ∙ c.rounded.ensures
    ∙ ap (λ (z : ℤ). round_div z 9) (gives ◌*ℤ◌ {w = w64} (lit 25 tt) (of c.ranges.units) (small (pos 25 *ℤ n) (omega (arith, abs-* (pos 25) n, c.requires)))).reads
    ∙ by_nines n
