-- What a turn read follows what was read before it.
use Rattle.std.proofs.Common.{rules}
use Rattle.test_ask.proofs.Rests.{onward}
use Rattle.test_ask.proofs.fill.Goals as goal

pub loop-done-preserved : goal.loop-done-preserved
loop-done-preserved g c =
    let i = c.loop-done.invariant in
    let n = c.in_ok-n.ensures in
    record { within = search rules; consumed = onward c.loop-done.done _ c.in_ok-n.n c.loop-done.read c.read.new.buf i.within n.bound.0 _ _ _ i.consumed n.bytes.0 }
