use Rattle.std.proofs.Common.{◌-◌, ◌≡◌, pos, length, take}
use Rattle.whole.specs.Round.{scale}
use Rattle.equation.specs.Powers.{powers_of}
use Rattle.equation.proofs.Steps.{limit}
use Rattle.equation.proofs.size_powers.Given as goal

-- the first k powers stand in the array, and the last of them is held
abbrev pub invariant-loop-k : goal.invariant-loop-k
invariant-loop-k l = record {
  last : l.power ≡ limit scale l.size (l.k - 1);
  long : length l.out ≡ 10;
  done : take l.k l.out ≡ powers_of scale (pos l.size) l.k;
}
