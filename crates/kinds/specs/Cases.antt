-- What the result of a call says, in document 01's numbers: the value, or the number of the refusal.
use Rattle.std.specs.Prelude.{ℕ, ℤ, Result, Ok, Err}
use Rattle.kinds.specs.Answer.{Answer, gives, refused, number_of}
use Rattle.kinds.specs.declared.Refusal.{Refusal}
use Rattle.kinds.specs.declared.LocalLatitude.{LocalLatitude}
use Rattle.kinds.specs.declared.LocalLongitude.{LocalLongitude}
use Rattle.kinds.specs.declared.LocalPosition.{LocalPosition}
use Rattle.kinds.specs.declared.Wgs84Latitude.{Wgs84Latitude}
use Rattle.kinds.specs.declared.Wgs84Longitude.{Wgs84Longitude}
use Rattle.kinds.specs.declared.Wgs84Position.{Wgs84Position}
use Rattle.kinds.specs.declared.AngleShift.{AngleShift}
use Rattle.kinds.specs.declared.Height.{Height}

-- of a value that is read as `says` reads it
abbrev pub answered : {T A : Type 0} → (T → A) → Result T Refusal → Answer A
answered says (Ok x) = gives (says x)
answered says (Err r) = refused (number_of r)

abbrev pub local_latitude : Result LocalLatitude Refusal → Answer ℤ
local_latitude = answered (λ x. x.0)

abbrev pub local_longitude : Result LocalLongitude Refusal → Answer ℤ
local_longitude = answered (λ x. x.0)

abbrev pub local_position : Result LocalPosition Refusal → Answer (ℤ × ℤ)
local_position = answered (λ p. (p.latitude.0, p.longitude.0))

abbrev pub wgs84_latitude : Result Wgs84Latitude Refusal → Answer ℤ
wgs84_latitude = answered (λ x. x.0)

abbrev pub wgs84_longitude : Result Wgs84Longitude Refusal → Answer ℤ
wgs84_longitude = answered (λ x. x.0)

abbrev pub wgs84_position : Result Wgs84Position Refusal → Answer (ℤ × ℤ)
wgs84_position = answered (λ p. (p.latitude.0, p.longitude.0))

abbrev pub angle_shift : Result AngleShift Refusal → Answer ℤ
angle_shift = answered (λ x. x.0)

abbrev pub height : Result Height Refusal → Answer ℤ
height = answered (λ x. x.0)

-- of a value that says itself
abbrev pub said : {A : Type 0} → Result A Refusal → Answer A
said = answered (λ x. x)

-- how many bytes were written
abbrev pub written : Result ℕ Refusal → Answer ℕ
written = said
