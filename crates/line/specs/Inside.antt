-- What the private functions of this crate promise one another.
use Rattle.std.specs.Prelude.{cond, List, [], ◌∷◌, ◌++◌, ℕ, ltb, ℤ, Result}
use Rattle.kinds.specs.Answer.{Answer, gives, refused, in_order, following}
use Rattle.kinds.specs.Cases.{answered}
use Rattle.kinds.specs.declared.Refusal.{Refusal}
use Rattle.datum.specs.Point.{answer_of}
use Rattle.waypoint.specs.Waypoint.{element_of}
use Rattle.line.specs.Line.{line_feed, code, latitude_of, longitude_of, text_tests, answer_line}
use Rattle.line.specs.declared.Form.{Form}
use Rattle.line.specs.declared.Form.TheVariants.{Numbers, Waypoints}
use Rattle.line.specs.declared.Place.{Place}

-- ---- reading
-- a code, a latitude and a longitude
pub record Said : Type 0 where
  pub code : ℤ
  pub latitude : ℤ
  pub longitude : ℤ

abbrev pub place_says : Place → Said
place_says place = record { code = place.code; latitude = place.latitude.0; longitude = place.longitude.0 }

abbrev pub place_answer : Result Place Refusal → Answer Said
place_answer = answered place_says

unfoldable pub point_said : List ℕ → Answer Said
point_said line = in_order (text_tests line) (gives (record { code = code line; latitude = latitude_of line; longitude = longitude_of line }))

-- of a latitude that was refused: the lower number
abbrev pub first_refusal : ℕ → Answer ℤ → ℕ
first_refusal latitude (gives east) = latitude
first_refusal latitude (refused n) = cond (ltb n latitude) n latitude

-- ---- answering
-- the text for a place that was read, in a form
unfoldable pub text_of : Form → Said → Answer (List ℕ)
text_of Numbers said = following (answer_of said.code said.latitude said.longitude) (λ values. gives (answer_line values))
text_of Waypoints said = following (element_of said.code said.latitude said.longitude) (λ element. gives (element ++ line_feed ∷ []))
