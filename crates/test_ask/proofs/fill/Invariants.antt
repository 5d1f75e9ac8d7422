-- Each read goes further into the buffer, and not past its end.
use Rattle.std.proofs.Common.{length, take, ◌-◌, ◌≤◌}
use Rattle.std.specs.Io.KnownBytes.{Consumes}
use Rattle.test_ask.proofs.fill.Given as goal

abbrev pub invariant-loop-done : goal.invariant-loop-done
invariant-loop-done g l = record {
  within : l.done ≤ length l.read;
  consumed : Consumes (g.R.Read.remaining l.initial.questions) (g.R.Read.remaining l.questions) (take l.done l.read);
}

abbrev pub decreases-loop-done : goal.decreases-loop-done
decreases-loop-done g l = length l.initial.read - l.done
