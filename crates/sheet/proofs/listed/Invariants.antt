use Rattle.std.proofs.Common.{◌≡◌, take}
use Rattle.sheet.specs.Inside as inside
use Rattle.sheet.proofs.listed.Given as goal

abbrev pub invariant-loop-code : goal.invariant-loop-code
invariant-loop-code l = l.flags ≡ inside.flags (take l.code-index l.codes)
