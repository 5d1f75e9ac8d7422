-- What was read is answered, and the answers are written. More may be taken, and less at each turn.
use Rattle.std.proofs.Common.{ℕ, List, [], ◌<◌}
use Rattle.std.specs.Io.KnownBytes.{Appends, Consumes}
use Rattle.stream.specs.Stream.{held, kept, started, answers}
use Rattle.lines.specs.Answered.{Answered}
use Rattle.lines.proofs.read_all.Given as goal

abbrev pub invariant-loop-turn : goal.invariant-loop-turn
invariant-loop-turn g l = record {
  more : 0 < l.reading.left;
  taken : List ℕ;
  answered : Answered (started l.fn.form) taken l.reading l.handed;
  consumed : Consumes (g.R.Read.remaining l.initial.reader) (g.R.Read.remaining l.reader) taken;
  written : Appends (g.W.Write.contents l.initial.writer) (g.W.Write.contents l.writer) (answers l.fn.form (held (kept [])) taken);
}

abbrev pub decreases-loop-turn : goal.decreases-loop-turn
decreases-loop-turn g l = l.reading.left
