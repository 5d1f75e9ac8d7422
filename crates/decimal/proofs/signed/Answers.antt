use mir.Syntax.{w32}
use Rattle.whole.proofs.Words.{of}
use Rattle.decimal.specs.Decimal.{decimal, printed_number}
use Rattle.decimal.proofs.Numbers.{put_after, signed_text}
use Rattle.decimal.proofs.signed.Goals as goal

pub returns : goal.returns
unfolding printed_number
returns c =
    let s = c.minus-first.ensures in
    let t = c.digits.ensures in
    let w = put_after c.args.line.now _ _ _ s.value s.line_after t.value t.line_after _ (signed_text decimal (of {w = w32} c.ranges.n) c.unsigned_abs.ensures.value) in
    record { value = w.0; line_after = w.1 }
