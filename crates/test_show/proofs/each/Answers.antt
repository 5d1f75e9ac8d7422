-- A turn shows the next of several.
use Rattle.std.proofs.Common.{arith}
use Rattle.test_show.proofs.Calls.{called, next_shown}
use Rattle.test_show.proofs.each.Goals as goal

pub loop-one-preserved : goal.loop-one-preserved
loop-one-preserved g c = next_shown _ c.args.several.now c.loop-one.one-index (omega arith) _ c.one-item.is _ _ _ c.loop-one.invariant (called _ c.show.ensures c.in_ok-show.was)
