use Rattle.std.proofs.Common.{refl, arith, sym}
use Rattle.stream.proofs.Feeding.{start, line_lent, next_turn, whole}
use Rattle.stream.proofs.feed.Goals as goal

pub lines-init : goal.lines-init
lines-init c = start _ _ _ _ (omega arith) refl

pub returns-in_default : goal.returns-in_default
returns-in_default c =
    let w = whole c.args.reading c.lines.invariant c.min-most.ensures c.end_for-to.ensures (sym c.in_default.ensures) _ c.extended.ensures in
    record { taken_value = w.0; reading_value = w.1.0; put_value = w.1.1.0; out_after = w.1.1.1.0; put_in_bounds = w.1.1.1.1 }

pub ended-put-requires : goal.ended-put-requires
ended-put-requires c = line_lent c.lines.invariant c.end_for-to.ensures (sym c.in-Some.ensures)

pub lines-preserved : goal.lines-preserved
lines-preserved c =
    next_turn c.lines.invariant c.end_for-to.ensures (sym c.in-Some.ensures) _ _ c.ended-put.ensures.value c.ended-put.ensures.out_after
