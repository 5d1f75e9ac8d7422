use Rattle.std.proofs.Common.{◌-◌}
use Rattle.stream.specs.Stream.{held}
use Rattle.stream.proofs.Feeding.{Good}
use Rattle.stream.proofs.feed.Given as goal

abbrev pub invariant-lines : goal.invariant-lines
invariant-lines l = Good l.form l.bytes (held l.initial.line) l.initial.out l.most l.out (held l.line) l.lines l.from l.put

abbrev pub decreases-lines : goal.decreases-lines
decreases-lines l = l.most - l.from
