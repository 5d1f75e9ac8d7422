-- What the private functions of this crate promise one another.
use Rattle.std.specs.Prelude.{◌<◌, ℤ, nat_abs}

-- a position in 0.00001" whose degrees have two digits before the point, or three: below 100° and 1,000°
abbrev pub Printable : ℤ → ℤ → Type 0
Printable latitude longitude = (nat_abs latitude < 36000000000) × (nat_abs longitude < 360000000000)
