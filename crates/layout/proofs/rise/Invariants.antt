use Rattle.std.proofs.Common.{◌≡◌}
use Rattle.layout.specs.Sheet.{rise}
use Rattle.layout.proofs.Codes.{rises_on}
use Rattle.layout.proofs.rise.Given as goal

abbrev pub invariant-loop-code : goal.invariant-loop-code
invariant-loop-code l = rises_on l.before l.code-index l.codes ≡ rise 0 l.codes
