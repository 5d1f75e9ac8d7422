-- Digits as bytes: 0 to 9 are the bytes 48 to 57.
use Rattle.std.specs.Prelude.{Bool, ◌&&◌, List, map, ℕ, ◌+◌, ◌-◌, leb}
use Rattle.whole.specs.Every.{every}
use Rattle.whole.specs.Places.{from_places, in_places}

abbrev pub is_digit : ℕ → Bool
is_digit b = leb 48 b && leb b 57

unfoldable pub digit_of : ℕ → ℕ
digit_of b = b - 48

abbrev pub byte_of : ℕ → ℕ
byte_of d = 48 + d

unfoldable pub all_digits : List ℕ → Bool
all_digits t = every is_digit t

-- the number that digits say, the first counting most
unfoldable pub from_digits : List ℕ → ℕ
from_digits t = from_places 10 (map digit_of t)

-- n in so many digits
unfoldable pub digits : ℕ → ℕ → List ℕ
digits w n = map byte_of (in_places 10 w n)
