-- Places in a sheet and in its result, counted from 0: a result read back.
use Rattle.std.specs.Prelude.{List, [], ◌∷◌, ℕ, ◌+◌, ◌*◌, ℤ}
use Rattle.kinds.specs.Bytes.{part}
use Rattle.numbers.specs.Numbers.{number, signed}
use Rattle.layout.specs.Sheet.{Point, datums, point, point_length}
use Rattle.sheet.specs.Result.{record_length}

-- the point at a place of a sheet
abbrev pub point_at : ℕ → List ℕ → Point
point_at k bytes = point (part (7 + datums bytes + k * point_length) point_length bytes)

-- the record at a place of a result
abbrev pub record_at : ℕ → List ℕ → List ℕ
record_at k result = part (6 + k * record_length) record_length result

-- what a record says: the refusal number or 0, and three numbers
abbrev pub record_refusal : List ℕ → ℕ
record_refusal bytes = number (part 0 1 bytes)

abbrev pub record_numbers : List ℕ → List ℤ
record_numbers bytes = signed (number (part 1 4 bytes)) ∷ signed (number (part 5 4 bytes)) ∷ signed (number (part 9 4 bytes)) ∷ []
