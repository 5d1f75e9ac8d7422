-- What is given is shown by the call.
use Rattle.std.proofs.Common.{refl}
use Rattle.test_show.proofs.Calls.{called}
use Rattle.test_show.proofs.answer.Goals as goal

pub returns-in-Ok-clause-given : goal.returns-in-Ok-clause-given
returns-in-Ok-clause-given g c = rw c.in-Ok.is (called _ c.show.ensures refl)
