-- Document 01, 'The unit sheet and its result': a sheet as it is made, from its parts. The work does not use this: it is what
-- the reading of `Sheet` is held to.
use Rattle.std.specs.Prelude.{Bool, ◌&&◌, ℕ, leb, ltb, length}
use mathlib.Core.List.{List, ◌++◌, flat_map}
use Rattle.whole.specs.Every.{every}
use Rattle.kinds.specs.Kinds.{is_four_bytes}
use Rattle.numbers.specs.Numbers.{in_bytes, complement}
use Rattle.layout.specs.Sheet.{Point, Sheet, rise, is_listed}

-- 'code, latitude (4, two's complement), longitude (4, unsigned)'
unfoldable pub point_bytes : Point → List ℕ
point_bytes point = in_bytes 1 point.code ++ in_bytes 4 (complement point.latitude) ++ in_bytes 4 point.longitude

-- 'serial, 4 bytes; a count of datums, 1 byte, then that many codes; a count of points, 2 bytes, then that many points'
unfoldable pub sheet_bytes : Sheet → List ℕ
sheet_bytes sheet =
    in_bytes 4 sheet.serial
    ++ in_bytes 1 (length sheet.codes) ++ sheet.codes
    ++ in_bytes 2 (length sheet.points) ++ flat_map point_bytes sheet.points

-- a point with a listed code, and numbers that have 4 bytes
abbrev pub is_point : List ℕ → Point → Bool
is_point codes point = is_listed codes point.code && is_four_bytes point.latitude && ltb point.longitude 4294967296

-- 'not zero', '0 to 6', 'strictly rising', '0 to 500'
abbrev pub is_sheet : Sheet → Bool
is_sheet sheet =
    ltb 0 sheet.serial && ltb sheet.serial 4294967296
    && leb (length sheet.codes) 6 && rise 0 sheet.codes
    && leb (length sheet.points) 500 && every (λ point. is_point sheet.codes point) sheet.points
