use Rattle.std.proofs.Common.{◌≡◌}
use Rattle.std.specs.Slice.Iter.{chunks_rest, chunks_size}
use Rattle.equation.specs.Room.{RoomFrom}
use Rattle.equation.specs.Inside.{terms, class_sums}
use Rattle.equation.proofs.Classes.{no_sums}
use Rattle.equation.proofs.sum.Given as goal

abbrev pub invariant-loop-nine : goal.invariant-loop-nine
invariant-loop-nine l = record {
  nines : chunks_size l.nine-iterator ≡ 9;
  goes_on : class_sums l.sums (terms (chunks_rest l.nine-iterator)) l.powers.of_u l.powers.of_v ≡ class_sums no_sums (terms l.table) l.powers.of_u l.powers.of_v;
  room : RoomFrom l.sums (terms (chunks_rest l.nine-iterator)) l.powers.of_u l.powers.of_v;
}
