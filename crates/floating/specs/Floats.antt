-- Document 01, 'Floating numbers for the map program'.
use Rattle.std.specs.Prelude.{ℕ, ℤ, pos, Float}
use Rattle.std.specs.Float.{binary64}
use Rattle.std.specs.Float.Ieee.{div, of_int}
use Rattle.kinds.specs.Answer.{Answer, gives, refused}
use Rattle.tables.specs.Page.{Family, shift, geoid}
use Rattle.datum.specs.Point.{answer_of}

-- the whole answer made a 64-bit float, then divided once, rounded by IEEE 754
infix 20 ◌divided_by◌
abbrev pub ◌divided_by◌ : ℤ → ℕ → Float
n divided_by units = div binary64 (of_int binary64 n) (of_int binary64 (pos units))

-- units of the answer in a second, and in a metre
abbrev pub per_second : ℕ
per_second = 100000

abbrev pub per_metre : ℕ
per_metre = 1000

abbrev pub seconds : ℤ → Float
seconds n = n divided_by per_second

abbrev pub metres : ℤ → Float
metres n = n divided_by per_metre

-- dLat and dLon in seconds and dH in metres, or a geoid height in metres
abbrev pub in_floats : Family ℤ → Family Float
in_floats (shift d_lat d_lon d_h) = shift (seconds d_lat) (seconds d_lon) (metres d_h)
in_floats (geoid n) = geoid (metres n)

-- or a refusal number
abbrev pub answer_in_floats : Answer (Family ℤ) → Answer (Family Float)
answer_in_floats (gives values) = gives (in_floats values)
answer_in_floats (refused n) = refused n

abbrev pub floating_of : ℤ → ℤ → ℤ → Answer (Family Float)
floating_of code latitude longitude = answer_in_floats (answer_of code latitude longitude)

-- what stands for a value that there is not
abbrev pub float_zero : Float
float_zero = of_int binary64 (pos 0)
