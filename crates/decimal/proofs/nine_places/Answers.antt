use Rattle.std.proofs.Common.{rules}
use mir.Syntax.{w64}
use mir.Val.{SFits}
use Rattle.whole.proofs.Words.{of}
use Rattle.decimal.specs.Decimal.{billionths, nine_places}
use Rattle.decimal.proofs.Numbers.{put_after, signed_text}
use Rattle.decimal.proofs.nine_places.Goals as goal

pub returns : goal.returns
unfolding nine_places
returns c =
    let n : SFits w64 c.args.degrees.billionths = search rules in
    let s = c.minus-sign.ensures in
    let t = c.billionths.ensures in
    let w = put_after c.args.line.now _ _ _ s.value s.line_after t.value t.line_after _ (signed_text billionths (of n) c.unsigned_abs.ensures.value) in
    record { value = w.0; line_after = w.1 }
