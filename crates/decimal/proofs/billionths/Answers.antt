use Rattle.std.proofs.Common.{◌/◌, arith, length-take, length-drop}
use Rattle.decimal.specs.Decimal.{billion}
use Rattle.decimal.proofs.Numbers.{put_after}
use Rattle.decimal.proofs.Nine.{three_short, places_long, with_places}
use Rattle.decimal.proofs.billionths.Goals as goal

pub copy-requires : goal.copy-requires
copy-requires c =
    let p = c.up_to_three-point in
    simp (length-take, length-drop) (omega (arith, places_long c.args.n c.in_ten-places.ensures, p.auto.line, p.ensures.value, three_short (c.args.n / billion) (omega (arith, c.requires.0)), c.requires.1))

pub returns : goal.returns
returns c =
    let p = c.up_to_three-point.ensures in
    let w = put_after c.args.line.now _ _ _ p.value p.line_after c.copy.ensures.value c.copy.ensures.out_after _ (with_places c.args.n c.in_ten-places.ensures) in
    record { value = w.0; line_after = w.1 }
