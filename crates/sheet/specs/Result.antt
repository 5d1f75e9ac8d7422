-- Document 01, 'The unit sheet and its result': the result.
use mathlib.Core.List.{List, ◌∷◌, ◌++◌, flat_map}
use Rattle.std.specs.Prelude.{ℕ, ℤ, pos, length}
use Rattle.kinds.specs.Answer.{Answer, refusal_of, placed, following}
use Rattle.tables.specs.Page.{Family}
use Rattle.datum.specs.Point.{answer_of, values_of}
use Rattle.numbers.specs.Numbers.{in_bytes, complement}
use Rattle.layout.specs.Sheet.{Point, Sheet, sheet_of}

-- '13 bytes a point'
abbrev pub record_length : ℕ
record_length = 13

-- '0 and three signed 4-byte numbers (dLat, dLon, dH, or N and two zeros), or the point's refusal number and twelve zero bytes'
unfoldable pub in_record : Answer (Family ℤ) → List ℕ
in_record answer = refusal_of answer ∷ flat_map (λ value. in_bytes 4 (complement value)) (values_of (pos 0) answer)

-- the answer of crate `datum`
abbrev pub answer_at : Point → Answer (Family ℤ)
answer_at point = answer_of (pos point.code) point.latitude (pos point.longitude)

-- 'serial, 4; the same count of points, 2; then 13 bytes a point'
unfoldable pub result_of : Sheet → List ℕ
result_of sheet =
    in_bytes 4 sheet.serial
    ++ in_bytes 2 (length sheet.points)
    ++ flat_map (λ point. in_record (answer_at point)) sheet.points

-- the unit's work on a sheet, for a lent buffer with room for so many bytes: the sheet's refusal, then 7
abbrev pub work_of : ℤ → List ℕ → ℕ → Answer (List ℕ)
work_of unit bytes room = following (sheet_of unit bytes) (λ sheet. placed (result_of sheet) room)
