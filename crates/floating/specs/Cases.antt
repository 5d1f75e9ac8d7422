-- What each case of an answer says, in document 01's numbers and values.
use Rattle.std.specs.Prelude.{Float}
use Rattle.kinds.specs.Answer as Said
use Rattle.tables.specs.Page.{Family, shift, geoid}
use Rattle.floating.specs.declared.ShiftFloats.{ShiftFloats}
use Rattle.floating.specs.declared.Answer.{Answer}
use Rattle.floating.specs.declared.Answer.TheVariants.{Shift, Geoid, Refused}

abbrev pub floats_say : ShiftFloats → Family Float
floats_say s = shift s.latitude s.longitude s.height

abbrev pub float_answer : Answer → Said.Answer (Family Float)
float_answer (Shift s) = Said.gives (floats_say s)
float_answer (Geoid n) = Said.gives (geoid n)
float_answer (Refused n) = Said.refused n
