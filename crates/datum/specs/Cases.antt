-- What each case of an answer says, in document 01's numbers.
use Rattle.std.specs.Prelude.{ℤ, Result}
use Rattle.kinds.specs.Answer.{Answer}
use Rattle.kinds.specs.Cases.{answered}
use Rattle.kinds.specs.declared.Refusal.{Refusal}
use Rattle.kinds.specs.declared.Height.{Height}
use Rattle.tables.specs.Page.{Family, shift, geoid}
use Rattle.datum.specs.declared.Shifts.{Shifts}
use Rattle.datum.specs.declared.Given.{Given}

-- ---- the values
abbrev pub shift_says : Shifts → Family ℤ
shift_says s = shift s.latitude.0 s.longitude.0 s.height.0

abbrev pub geoid_says : Height → Family ℤ
geoid_says n = geoid n.0

abbrev pub given_says : Given → Family ℤ
given_says (Given.Shift s) = shift_says s
given_says (Given.Geoid n) = geoid_says n

-- ---- the answers
abbrev pub shift_answer : Result Shifts Refusal → Answer (Family ℤ)
shift_answer = answered shift_says

abbrev pub geoid_answer : Result Height Refusal → Answer (Family ℤ)
geoid_answer = answered geoid_says

abbrev pub point_answer : Result Given Refusal → Answer (Family ℤ)
point_answer = answered given_says
