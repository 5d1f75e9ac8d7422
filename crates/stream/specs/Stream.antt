-- Document 01, 'The line program': the lines of an input, and what is printed for them; and document 02, wish 1: a GPX file.
use Rattle.std.specs.Prelude.{cond, ℕ, zero, suc, ◌-◌, ◌/◌, min, eqb, length, take, replicate}
use mathlib.Core.List.{List, [], ◌∷◌, ◌++◌, flat_map}
use Rattle.whole.specs.Digits.{byte_of}
use Rattle.kinds.specs.Answer.{Answer, gives, refused}
use Rattle.kinds.specs.Bytes.{ascii}
use Rattle.line.specs.Line.{line_feed, text_to}
use Rattle.line.specs.declared.Form.{Form}
use Rattle.line.specs.declared.Form.TheVariants.{Numbers, Waypoints}
use Rattle.stream.specs.declared.Begun.{Begun}
use Rattle.stream.specs.declared.Reading.{Reading}

-- ---- a line out, in each form
-- '`refused` and the number', and in a GPX file a comment with the number
unfoldable pub refused_line : Form → ℕ → List ℕ
refused_line Numbers number = ascii "refused " ++ byte_of number ∷ line_feed ∷ []
refused_line Waypoints number = ascii "<!-- refused " ++ byte_of number ∷ ascii " -->" ++ line_feed ∷ []

-- 'dLat, dLon and dH .., or N alone, or `refused` and the number'; or the element, or the comment
abbrev pub line_out : Form → Answer (List ℕ) → List ℕ
line_out form (gives text) = text
line_out form (refused number) = refused_line form number

unfoldable pub printed : Form → List ℕ → List ℕ
printed form line = line_out form (text_to form line)

-- what stands before the first line and after the last
abbrev pub head : Form → List ℕ
head Numbers = []
head Waypoints =
    ascii "<?xml version=\"1.0\" encoding=\"UTF-8\"?>" ++ line_feed
    ∷ ascii "<gpx version=\"1.1\" creator=\"Buckettin\" xmlns=\"http://www.topografix.com/GPX/1/1\">" ++ line_feed
    ∷ []

abbrev pub foot : Form → List ℕ
foot Numbers = []
foot Waypoints = ascii "</gpx>" ++ line_feed ∷ []

-- ---- lines in
-- lines, each with its line feed
abbrev pub terminated : List (List ℕ) → List ℕ
terminated ls = flat_map (λ line. line ++ line_feed ∷ []) ls

-- the lines that end in some bytes, where the first is begun before them
unfoldable pub ended : List ℕ → List ℕ → List (List ℕ)
ended begun [] = []
ended begun (byte ∷ rest) = cond (eqb byte line_feed) (begun ∷ ended [] rest) (ended (begun ++ byte ∷ []) rest)

-- the line that is begun after them
unfoldable pub begun_after : List ℕ → List ℕ → List ℕ
begun_after begun [] = begun
begun_after begun (byte ∷ rest) = cond (eqb byte line_feed) (begun_after [] rest) (begun_after (begun ++ byte ∷ []) rest)

-- 'A last line with bytes but no line feed counts'
abbrev pub last : List ℕ → List (List ℕ)
last [] = []
last (byte ∷ rest) = (byte ∷ rest) ∷ []

abbrev pub lines : List ℕ → List (List ℕ)
lines input = ended [] input ++ last (begun_after [] input)

-- 'It prints one line each'; 'It reads at most 100,000,000 bytes and then goes on as if the input ended there'
abbrev pub limit : ℕ
limit = 100000000

abbrev pub output : Form → List ℕ → List ℕ
output form input = head form ++ flat_map (printed form) (lines (take limit input)) ++ foot form

-- ---- an input in pieces
-- what is held of a line between two pieces, and how it is kept: 27 bytes, which are enough to refuse a longer line
abbrev pub held : Begun → List ℕ
held begun = take begun.count begun.bytes

unfoldable pub kept : List ℕ → Begun
kept line = record { bytes = take 27 (line ++ replicate 27 0); count = min 27 (length line) }

-- an input of which nothing is taken yet
abbrev pub started : Form → Reading
started form = record { form = form; begun = kept []; left = limit }

-- one of which some more bytes are taken
unfoldable pub after : Reading → List ℕ → Reading
after reading bytes = record { form = reading.form; begun = kept (begun_after (held reading.begun) bytes); left = reading.left - length bytes }

-- one of which no more may be taken
abbrev pub at_end : Reading → Reading
at_end reading = record { form = reading.form; begun = reading.begun; left = 0 }

-- how many bytes the first so many lines that end have, or all bytes where fewer end
unfoldable pub of_lines : ℕ → List ℕ → ℕ
of_lines zero bytes = 0
of_lines (suc k) [] = 0
of_lines (suc k) (byte ∷ rest) = suc (cond (eqb byte line_feed) (of_lines k rest) (of_lines (suc k) rest))

-- how many bytes are taken of those that may be: of as many lines as there is room for, at 48 bytes each
unfoldable pub taken_of : List ℕ → ℕ → ℕ
taken_of bytes room = of_lines (room / 48) bytes

-- what is printed for the lines that end in some bytes
unfoldable pub answers : Form → List ℕ → List ℕ → List ℕ
answers form begun bytes = flat_map (printed form) (ended begun bytes)

-- the line feed by which a line that is begun ends at the end of an input
unfoldable pub closing : List ℕ → List ℕ
closing [] = []
closing (byte ∷ rest) = line_feed ∷ []

-- what is printed in all for pieces that are fed one after the other, each of which is taken as far as it may be, and for the end
abbrev pub fed : Reading → List (List ℕ) → List ℕ
fed reading [] = answers reading.form (held reading.begun) (closing (held reading.begun))
fed reading (piece ∷ pieces) =
    answers reading.form (held reading.begun) (take reading.left piece) ++ fed (after reading (take reading.left piece)) pieces
