use Rattle.std.proofs.Common.{◌*◌, take}
use Rattle.stream.specs.Inside.{Clear}
use Rattle.stream.proofs.by_pieces.Given as goal

abbrev pub invariant-loop-i : goal.invariant-loop-i
invariant-loop-i g l = Clear (take (l.i * g.row.N) l.bytes)
