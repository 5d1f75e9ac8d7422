use Rattle.std.proofs.Common.{◌≡◌, ◌<◌, true, ℤ, pos, ◌-ℤ◌, nat_abs, sym, ap, ◌∙◌, subst, arith}
use lib.Signed.{le_z}
use mir.Syntax.{w64}
use mir.Val.{to_z, of_z}
use Rattle.whole.proofs.Words.{of, small}
use Rattle.waypoint.specs.Waypoint.{degrees, east_or_west}
use Rattle.waypoint.proofs.Degrees.{few_digits, few_wrapped}
use Rattle.waypoint.proofs.east.Goals as goal

-- a turn less, from 180° up
wrapped : (x : ℤ) → le_z (pos 180000000000) x ≡ true → nat_abs (east_or_west x) < 1000000000000 → nat_abs (x -ℤ pos 360000000000) < 1000000000000
wrapped x t h = simp t at h

held : (z : ℤ) → nat_abs z < 1000000000000 → nat_abs (to_z w64 (of_z w64 z)) < 1000000000000
held z h = subst (λ (z : ℤ). nat_abs z < 1000000000000) (sym (of {w = w64} (small z (omega (arith, h)))).reads) h

pub invariant_of-result : goal.invariant_of-result
invariant_of-result c =
    let is = (of {w = w64} (record { sfits = c.in_billionths-rounded.type_inv })).reads ∙ c.in_billionths-rounded.ensures ∙ ap degrees ((of {w = w64} (record { sfits = c.units.type_inv })).reads ∙ c.units.ensures) in
    let rounded = to_z w64 (of_z w64 c.in_billionths-rounded.result) in
    let below = wrapped rounded c.if-is_west.true (subst (λ (z : ℤ). nat_abs (east_or_west z) < 1000000000000) (sym is) (few_wrapped c.args.longitude.0 c.requires)) in
    record { few = held (rounded -ℤ pos 360000000000) below }

pub invariant_of-result-2 : goal.invariant_of-result-2
invariant_of-result-2 c =
    let is = (of {w = w64} (record { sfits = c.in_billionths-rounded.type_inv })).reads ∙ c.in_billionths-rounded.ensures ∙ ap degrees ((of {w = w64} (record { sfits = c.units.type_inv })).reads ∙ c.units.ensures) in
    record { few = subst (λ (z : ℤ). nat_abs z < 1000000000000) (sym is) (few_digits c.args.longitude.0 c.requires) }
