use Rattle.std.proofs.Common.{arith}
use Rattle.position.proofs.Bytes.{two_number}
use Rattle.position.proofs.OneWord.{degree_digits}
use Rattle.position.proofs.Digits.degrees.Goals as goal

pub digit-requires : goal.digit-requires
digit-requires c = let d = c.args.self in (degree_digits d.text.now d.long d.are).0

pub digit-requires-2 : goal.digit-requires-2
digit-requires-2 c = let d = c.args.self in (degree_digits d.text.now d.long d.are).1

pub returns-clause-value : goal.returns-clause-value
returns-clause-value c = let d = c.args.self in omega (arith, two_number 0 d.text.now (omega (arith, d.long)))
