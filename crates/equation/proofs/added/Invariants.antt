use Rattle.std.proofs.Common.{◌≡◌, drop}
use Rattle.equation.specs.Room.{RoomFrom}
use Rattle.equation.specs.Inside.{terms, class_sums}
use Rattle.equation.proofs.added.Given as goal

abbrev pub invariant-loop-term : goal.invariant-loop-term
invariant-loop-term l = record {
  goes_on : class_sums l.sums (terms (drop l.term-index l.part)) l.powers.of_u l.powers.of_v ≡ class_sums l.fn.before (terms l.part) l.powers.of_u l.powers.of_v;
  room : RoomFrom l.sums (terms (drop l.term-index l.part)) l.powers.of_u l.powers.of_v;
}
