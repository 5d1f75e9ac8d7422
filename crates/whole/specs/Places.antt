-- Numbers in places of a base, the first counting most.
use Rattle.std.specs.Prelude.{List, [], ◌∷◌, ℕ, zero, suc, ◌+◌, ◌*◌, ◌/◌, ◌%◌, ◌^◌, length}

-- the number that places say
unfoldable pub from_places : ℕ → List ℕ → ℕ
from_places base [] = 0
from_places base (place ∷ rest) = place * base ^ length rest + from_places base rest

-- a number in so many places
unfoldable pub in_places : ℕ → ℕ → ℕ → List ℕ
in_places base zero n = []
in_places base (suc w) n = (n / base ^ w % base) ∷ in_places base w n
