-- Document 01, 'The unit sheet and its result' and 'Refusal numbers': a sheet, read; or the first refusal, in the order of its
-- bytes.
use Rattle.std.specs.Prelude.{Bool, true, false, not, ◌&&◌, ◌||◌, List, [], ◌∷◌, ◌++◌, map, ℕ, zero, suc, ◌+◌, ◌*◌, eqb, leb, ltb, ℤ, pos, negsuc, length, take, drop}
use Rattle.whole.specs.Every.{every}
use Rattle.kinds.specs.Answer.{Answer, gives, Test, ◌else◌, in_order}
use Rattle.kinds.specs.Bytes.{part}
use Rattle.numbers.specs.Numbers.{number, signed}

pub record Point : Type 0 where
  pub code : ℕ
  pub latitude : ℤ
  pub longitude : ℕ

pub record Sheet : Type 0 where
  pub serial : ℕ
  pub codes : List ℕ
  pub points : List Point

-- ---- the parts of a sheet, in the order of its bytes
-- 'serial, 4 bytes'
unfoldable pub serial : List ℕ → ℕ
serial bytes = number (part 0 4 bytes)

-- 'a count of datums, 1 byte'
unfoldable pub datums : List ℕ → ℕ
datums bytes = number (part 4 1 bytes)

-- 'then that many codes'
unfoldable pub codes : List ℕ → List ℕ
codes bytes = part 5 (datums bytes) bytes

-- 'a count of points, 2 bytes'
unfoldable pub count : List ℕ → ℕ
count bytes = number (part (5 + datums bytes) 2 bytes)

-- 'then that many points'
unfoldable pub body : List ℕ → List ℕ
body bytes = drop (7 + datums bytes) bytes

-- 'of 9 bytes'
abbrev pub point_length : ℕ
point_length = 9

-- 'code, latitude (4, two's complement), longitude (4, unsigned)'
unfoldable pub point : List ℕ → Point
point bytes = record { code = number (part 0 1 bytes); latitude = signed (number (part 1 4 bytes)); longitude = number (part 5 4 bytes) }

-- so many pieces of so many bytes
unfoldable pub pieces : ℕ → ℕ → List ℕ → List (List ℕ)
pieces zero width bytes = []
pieces (suc n) width bytes = take width bytes ∷ pieces n width (drop width bytes)

unfoldable pub points : List ℕ → List Point
points bytes = map point (pieces (count bytes) point_length (body bytes))

-- ---- what is asked of them
-- the unit's own number: one that is no serial is no sheet's
unfoldable pub is_unit : ℤ → ℕ → Bool
is_unit (pos n) serial = eqb serial n
is_unit (negsuc n) serial = false

-- 'strictly rising', each above the one before, and 1 to 6
unfoldable pub rise : ℕ → List ℕ → Bool
rise before [] = true
rise before (code ∷ rest) = (ltb before code && leb code 6) && rise code rest

unfoldable pub is_listed : List ℕ → ℕ → Bool
is_listed [] code = false
is_listed (listed ∷ rest) code = eqb listed code || is_listed rest code

-- ---- the tests, and the refusal numbers
-- of the serial: cut 1, zero 9, foreign 8
abbrev pub serial_tests : ℤ → List ℕ → List Test
serial_tests unit bytes =
    (leb 4 (length bytes) else 1)
    ∷ (not (eqb (serial bytes) 0) else 9)
    ∷ (is_unit unit (serial bytes) else 8)
    ∷ []

-- datum count cut 1, over 9, codes cut 1, codes wrong 9, point count cut 1, over 9, total length 1
abbrev pub count_tests : List ℕ → List Test
count_tests bytes =
    (leb 5 (length bytes) else 1)
    ∷ (leb (datums bytes) 6 else 9)
    ∷ (leb (5 + datums bytes) (length bytes) else 1)
    ∷ (rise 0 (codes bytes) else 9)
    ∷ (leb (7 + datums bytes) (length bytes) else 1)
    ∷ (leb (count bytes) 500 else 9)
    ∷ (eqb (length bytes) (7 + datums bytes + count bytes * point_length) else 1)
    ∷ []

-- unlisted code 9
abbrev pub listed_tests : List ℕ → List Test
listed_tests bytes = (every (λ point. is_listed (codes bytes) point.code) (points bytes) else 9) ∷ []

abbrev pub tests : ℤ → List ℕ → List Test
tests unit bytes = serial_tests unit bytes ++ count_tests bytes ++ listed_tests bytes

-- what it says
abbrev pub said : List ℕ → Sheet
said bytes = record { serial = serial bytes; codes = codes bytes; points = points bytes }

abbrev pub sheet_of : ℤ → List ℕ → Answer Sheet
sheet_of unit bytes = in_order (tests unit bytes) (gives (said bytes))
