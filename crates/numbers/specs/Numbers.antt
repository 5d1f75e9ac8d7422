-- Document 01, 'The unit sheet and its result': 'Numbers are big-endian.'
use Rattle.std.specs.Prelude.{Bool, cond, List, ℕ, suc, ◌-◌, ltb, ℤ, pos, negsuc, ◌-ℤ◌}
use Rattle.whole.specs.Every.{every}
use Rattle.whole.specs.Places.{from_places, in_places}

-- a list of bytes
abbrev pub are_bytes : List ℕ → Bool
are_bytes bytes = every (λ byte. ltb byte 256) bytes

-- the number that bytes say, the first counting most
unfoldable pub number : List ℕ → ℕ
number bytes = from_places 256 bytes

-- n in so many bytes
unfoldable pub in_bytes : ℕ → ℕ → List ℕ
in_bytes w n = in_places 256 w n

-- ---- two's complement, in 4 bytes
-- a number below zero is written as 4,294,967,296 more
unfoldable pub complement : ℤ → ℕ
complement (pos n) = n
complement (negsuc n) = 4294967296 - suc n

-- and what is written from 2,147,483,648 up is read as so much less
unfoldable pub signed : ℕ → ℤ
signed n = cond (ltb n 2147483648) (pos n) (pos n -ℤ pos 4294967296)
