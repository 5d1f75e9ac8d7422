-- What the private functions of this crate promise one another.
use Rattle.std.specs.Prelude.{Bool, false, ℕ, zero, suc, ℤ, get_or}
use mathlib.Core.List.{List, [], ◌∷◌, map, flat_map}
use Rattle.whole.specs.Every.{every}
use Rattle.kinds.specs.Answer.{Answer, in_order, placed}
use Rattle.numbers.specs.Numbers.{in_bytes, complement}
use Rattle.layout.specs.Sheet.{point, is_listed, listed_tests, said}
use Rattle.sheet.specs.Result.{in_record, answer_at, result_of}

-- ---- the points' codes
-- of n codes, from a code on, whether each is listed
abbrev pub flags_from : ℕ → ℕ → List ℕ → List Bool
flags_from zero code codes = []
flags_from (suc n) code codes = is_listed codes code ∷ flags_from n (suc code) codes

-- and of every byte
unfoldable pub flags : List ℕ → List Bool
flags codes = flags_from 256 0 codes

unfoldable pub all_flagged : List Bool → List (List ℕ) → Bool
all_flagged flags points = every (λ p. get_or flags p.code false) (map point points)

-- ---- working
-- three values beside a refusal number or 0
unfoldable pub record_of : ℕ → ℤ → ℤ → ℤ → List ℕ
record_of refusal first second third = refusal ∷ flat_map (λ value. in_bytes 4 (complement value)) (first ∷ second ∷ third ∷ [])

-- the record of a point's bytes
unfoldable pub point_record : List ℕ → List ℕ
point_record bytes = in_record (answer_at (point bytes))

-- and of points
unfoldable pub records : List (List ℕ) → List ℕ
records points = flat_map point_record points

-- after the tests of crate `layout`
unfoldable pub finished : List ℕ → ℕ → Answer (List ℕ)
finished bytes room = in_order (listed_tests bytes) (placed (result_of (said bytes)) room)
