use Rattle.std.proofs.Common.{◌≡◌, ◌*◌, ◌++◌, take, drop, length}
use Rattle.sheet.specs.Inside.{records}
use Rattle.sheet.proofs.records.Given as goal

abbrev pub invariant-loop-i : goal.invariant-loop-i
invariant-loop-i l = record {
  so_far : l.out ≡ records (take l.i l.points) ++ drop (l.i * 13) l.initial.out;
  long : length l.out ≡ length l.initial.out;
}
