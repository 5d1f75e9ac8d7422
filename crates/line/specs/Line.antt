-- Document 01, 'The line program': the point that a line says, and the line that is printed for it.
use Rattle.std.specs.Prelude.{Bool, not, ◌&&◌, List, [], ◌∷◌, ◌++◌, ℕ, eqb, ℤ, pos, length, get_or}
use Rattle.whole.specs.Every.{every}
use Rattle.whole.specs.Digits.{is_digit, digit_of}
use Rattle.kinds.specs.Answer.{Answer, gives, Test, ◌else◌, in_order, placed, following}
use Rattle.kinds.specs.Bytes.{part}
use Rattle.position.specs.Text.{latitude, longitude, right_kinds, right_ranges, value}
use Rattle.tables.specs.Page.{Family, shift, geoid}
use Rattle.tables.specs.Rule.{in_area, worked}
use Rattle.datum.specs.Point.{is_code, page_of}
use Rattle.decimal.specs.Decimal.{printed_number}
use Rattle.waypoint.specs.Waypoint.{element_of}
use Rattle.line.specs.declared.Form.{Form}
use Rattle.line.specs.declared.Form.TheVariants.{Numbers, Waypoints}

abbrev pub space : ℕ
space = 32

abbrev pub line_feed : ℕ
line_feed = 10

-- no byte of a line is a line feed
abbrev pub unbroken : List ℕ → Bool
unbroken line = every (λ byte. not (eqb byte line_feed)) line

-- ---- a line in: 'code digit, space, latitude text, space, longitude text; 26 bytes before the line feed'
abbrev pub line_length : ℕ
line_length = 26

abbrev pub code_byte : List ℕ → ℕ
code_byte line = get_or line 0 0

abbrev pub latitude_text : List ℕ → List ℕ
latitude_text line = part 2 11 line

abbrev pub longitude_text : List ℕ → List ℕ
longitude_text line = part 14 12 line

-- what they say
abbrev pub code : List ℕ → ℤ
code line = pos (digit_of (code_byte line))

abbrev pub latitude_of : List ℕ → ℤ
latitude_of line = value latitude (latitude_text line)

abbrev pub longitude_of : List ℕ → ℤ
longitude_of line = value longitude (longitude_text line)

-- every byte of the line is of its kind
abbrev pub line_kinds : List ℕ → Bool
line_kinds line =
    is_digit (code_byte line) && eqb (get_or line 1 0) space && right_kinds latitude (latitude_text line)
    && eqb (get_or line 13 0) space && right_kinds longitude (longitude_text line)

abbrev pub line_ranges : List ℕ → Bool
line_ranges line = right_ranges latitude (latitude_text line) && right_ranges longitude (longitude_text line)

-- 'Per line: 1, then 2 over the whole line, then 3, 4, 6'
abbrev pub text_tests : List ℕ → List Test
text_tests line =
    (eqb (length line) line_length else 1)
    ∷ (line_kinds line else 2)
    ∷ (line_ranges line else 3)
    ∷ []

abbrev pub place_tests : List ℕ → List Test
place_tests line =
    (is_code (code line) else 4)
    ∷ (in_area (page_of (code line)) (latitude_of line) (longitude_of line) else 6)
    ∷ []

abbrev pub tests : List ℕ → List Test
tests line = text_tests line ++ place_tests line

-- the shift or the geoid height of its point
abbrev pub answer_to : List ℕ → Answer (Family ℤ)
answer_to line = in_order (tests line) (gives (worked (page_of (code line)) (latitude_of line) (longitude_of line)))

-- ---- a line out, with its line feed
-- 'dLat, dLon and dH in answer units with one space between, or N alone'
unfoldable pub answer_line : Family ℤ → List ℕ
answer_line (shift d_lat d_lon d_h) = printed_number d_lat ++ space ∷ printed_number d_lon ++ space ∷ printed_number d_h ++ line_feed ∷ []
answer_line (geoid n) = printed_number n ++ line_feed ∷ []

-- 'then 7 if the lent output line is shorter than the answer's text with its line feed'
abbrev pub line_of : List ℕ → ℕ → Answer (List ℕ)
line_of line room = following (answer_to line) (λ values. placed (answer_line values) room)

-- ---- document 02, wish 1: a line in a form, numbers or waypoints
-- the waypoint of its point: 'as for a shift', after the tests of the text
abbrev pub element_to : List ℕ → Answer (List ℕ)
element_to line = in_order (text_tests line) (element_of (code line) (latitude_of line) (longitude_of line))

-- a line out in the form
abbrev pub text_to : Form → List ℕ → Answer (List ℕ)
text_to Numbers line = following (answer_to line) (λ values. gives (answer_line values))
text_to Waypoints line = following (element_to line) (λ element. gives (element ++ line_feed ∷ []))

abbrev pub line_in : Form → List ℕ → ℕ → Answer (List ℕ)
line_in form line room = following (text_to form line) (λ text. placed text room)
