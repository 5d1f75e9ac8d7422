-- What the drawing office finds in an element: the position in 0.00001" again. The theorems speak of it, and no promise does.
use Rattle.std.specs.Prelude.{cond, ℤ, pos, ◌-ℤ◌, ◌*ℤ◌}
use Rattle.std.specs.Int.Signed.{le_z}
use Rattle.whole.specs.Round.{round_div}
use Rattle.decimal.specs.Decimal.{billion}

-- so many billionths of a degree in 0.00001", to the nearest
unfoldable pub units_of : ℤ → ℤ
units_of billionths = round_div (billionths *ℤ pos 360000000) billion

-- a longitude in 0.00001", a turn less from 180° up
abbrev pub west_as_negative : ℤ → ℤ
west_as_negative longitude = cond (le_z (pos 64800000000) longitude) (longitude -ℤ pos 129600000000) longitude
