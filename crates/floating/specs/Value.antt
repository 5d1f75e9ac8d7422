-- Demand 3 of the floats: the number that a float is, and how near it is to an exact value.
use Rattle.std.specs.Prelude.{true, false, ℕ, ◌*◌, pos, neg_ℤ, Float}
use Rattle.std.specs.Float.{nan, inf, fin}
use Rattle.std.specs.Float.Ieee.{up, down}
use Rattle.equation.specs.Exact.{Fraction, ◌over◌, whole, ◌times◌, NearTo}
use Rattle.tables.specs.Page.{Family, shift, geoid}
use Rattle.datum.specs.Exact.{AllNear}

-- `fin s m e` is m * 2 ^ e, negative where s is true; what is no number has a bottom that is zero, and is near to nothing
abbrev pub value_of : Float → Fraction
value_of (fin false m e) = pos (m * up e) over down e
value_of (fin true m e) = neg_ℤ (pos (m * up e)) over down e
value_of (inf s) = pos 0 over 0
value_of nan = pos 0 over 0

-- seconds and metres in the units of the whole answer, of which 100000 make a second and 1000 a metre
abbrev pub in_units : ℕ → Float → Fraction
in_units units x = value_of x times whole (pos units)

abbrev pub all_in_units : Family Float → Family Fraction
all_in_units (shift d_lat d_lon d_h) = shift (in_units 100000 d_lat) (in_units 100000 d_lon) (in_units 1000 d_h)
all_in_units (geoid n) = geoid (in_units 1000 n)

-- each float, in units, is within its bound of its exact value; bounds are in nths of a unit
abbrev pub FloatsWithin : ℕ → Family ℕ → Family Fraction → Family Float → Type 0
FloatsWithin n bounds exacts floats = AllNear (λ h exact value. NearTo h n exact value) bounds exacts (all_in_units floats)
