-- As far as the loop has come, the bytes are answered, and their answers are written.
use Rattle.std.proofs.Common.{length, take, ◌-◌, ◌≤◌}
use Rattle.std.specs.Io.KnownBytes.{Appends}
use Rattle.stream.specs.Stream.{held, answers}
use Rattle.lines.specs.Answered.{Answered}
use Rattle.lines.proofs.answer.Given as goal

abbrev pub invariant-loop-from : goal.invariant-loop-from
invariant-loop-from g l = record {
  within : l.from ≤ length l.piece;
  answered : Answered l.fn.reading (take l.from l.piece) l.next l.handed;
  written : Appends (g.W.Write.contents l.initial.writer) (g.W.Write.contents l.writer) (answers l.fn.reading.form (held l.fn.reading.begun) (take l.from l.piece));
}

abbrev pub decreases-loop-from : goal.decreases-loop-from
decreases-loop-from g l = length l.initial.piece - l.from
