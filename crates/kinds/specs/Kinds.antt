-- Document 01, 'Positions': the kinds of quantity, their units and limits, and the conversion of a local position.
use Rattle.std.specs.Prelude.{Bool, ◌&&◌, ◌*◌, ◌-◌, ℤ, pos, neg_ℤ, ◌+ℤ◌, ◌*ℤ◌}
use Rattle.std.specs.Int.Signed.{le_z}
use Rattle.kinds.specs.Answer.{Answer, gives, provided}

-- from the least to the largest, both in
abbrev pub within : ℤ → ℤ → ℤ → Bool
within least largest x = le_z least x && le_z x largest

-- latitude: 90° south to 90° north, in ms
abbrev pub is_latitude : ℤ → Bool
is_latitude x = within (neg_ℤ (pos 324000000)) (pos 324000000) x

-- longitude: from 0° up to 360°, which is written 0, in ms
abbrev pub is_longitude : ℤ → Bool
is_longitude x = within (pos 0) (pos 1295999999) x

-- a position: both
abbrev pub is_position : ℤ → ℤ → Bool
is_position latitude longitude = is_latitude latitude && is_longitude longitude

-- the same in 0.00001", of which 100 are a ms
abbrev pub is_wgs84_latitude : ℤ → Bool
is_wgs84_latitude x = within (neg_ℤ (pos (100 * 324000000))) (pos (100 * 324000000)) x

abbrev pub is_wgs84_longitude : ℤ → Bool
is_wgs84_longitude x = within (pos 0) (pos (100 * 1296000000 - 1)) x

-- a shift in 0.00001", a height in mm: signed 4-byte numbers
abbrev pub is_four_bytes : ℤ → Bool
is_four_bytes x = within (neg_ℤ (pos 2147483648)) (pos 2147483647) x

-- a raw number, tested: itself, or 3
abbrev pub tested : Bool → ℤ → Answer ℤ
tested inside x = provided inside 3 (gives x)

-- the WGS 84 position, in 0.00001", of a local one in ms by its shift
abbrev pub converted : ℤ → ℤ → ℤ
converted ms shift = pos 100 *ℤ ms +ℤ shift
