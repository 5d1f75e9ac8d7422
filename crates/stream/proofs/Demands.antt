-- What document 01 asks of the line program, of its input and its output as a whole: 'The line program'; and document 02, wish 1,
-- of a GPX file. Stated over specs/ alone, and over the form wherever both are alike. Assumes nothing.
use mathlib.Core.Path.{◌≡◌, refl, sym, ap, ◌∙◌}
use mathlib.Core.Bool.{true}
use mathlib.Core.List.{List, [], ◌∷◌, ◌++◌, flat_map, flatten, append-nil, append_assoc}
use Prim.Native.Nat.{ℕ, zero, suc, ◌+◌, ◌-◌, ◌*◌, ◌/◌, ◌<◌, ◌≤◌}
use native.Mathlib.Omega.{arith}
use lib.Dec.{eqb}
use lib.ListN.{length, take, length-append, length-take}
use lib.Seq.{take-take, take_all, take-nil, append_snoc}
use Rattle.whole.specs.Every.{every}
use Rattle.whole.specs.Places.{from_places, in_places}
use Rattle.whole.specs.Round.{round_div}
use Rattle.whole.proofs.Bools.{by_test}
use Rattle.whole.specs.Digits.{digit_of, all_digits, from_digits, digits}
use Rattle.kinds.specs.Answer.{gives, refused}
use Rattle.kinds.specs.Bytes.{ascii}
use Rattle.position.specs.Text.{is_angle, in_sixties, angle}
use Rattle.equation.specs.Powers.{power, powers_of}
use Rattle.equation.specs.Equation.{sum}
use Rattle.decimal.specs.Decimal.{unpadded, decimal, printed_number, billionths, nine_places}
use Rattle.waypoint.specs.Waypoint.{degrees, element}
use Rattle.line.specs.Line.{line_feed, answer_line, line_in, unbroken}
use Rattle.line.specs.declared.Form.{Form}
use Rattle.line.specs.declared.Form.TheVariants.{Numbers, Waypoints}
use Rattle.stream.specs.Stream.{refused_line, printed, head, foot, terminated, ended, begun_after, last, lines, limit, output, held, kept, started, after, of_lines, taken_of, answers, closing, fed}
use Rattle.stream.specs.declared.Reading.{Reading}
use Rattle.stream.specs.declared.Fed.{Fed}
use Rattle.stream.proofs.Lines as law
use Rattle.stream.proofs.Keeping.{held_kept}
use Rattle.stream.proofs.Printing as print
use Rattle.stream.proofs.Feeding as feeding

-- ---- 'It reads standard input, one point a line'
-- the lines that end, each with its line feed, and then what is begun are the input again
pub input_again : (input : List ℕ) → terminated (ended [] input) ++ begun_after [] input ≡ input
input_again input = law.input_again [] input

-- no line feed is in any of them
pub all_unbroken : (input : List ℕ) → (every unbroken (ended [] input) ≡ true) × (unbroken (begun_after [] input) ≡ true)
all_unbroken input = (law.ended_unbroken [] input refl, law.begun_unbroken [] input refl)

-- and no other lines are so: whatever lines the input is made of, it is read as these
pub no_others : (ls : List (List ℕ)) (begun : List ℕ) → every unbroken ls ≡ true → unbroken begun ≡ true
    → (ended [] (terminated ls ++ begun) ≡ ls) × (begun_after [] (terminated ls ++ begun) ≡ begun)
no_others ls begun h k = (law.ended_of begun k ls h, law.begun_of begun k ls h)

-- so after any line, refused or not, the next is read right
pub next_line : (line rest : List ℕ) → unbroken line ≡ true → lines (line ++ line_feed ∷ rest) ≡ line ∷ lines rest
next_line line rest h = λ i. law.line_ends [] line rest h i ++ last (law.begins_anew [] line rest h i)

-- ---- 'A last line with bytes but no line feed counts'
-- as it does with one
pub last_counts : (input : List ℕ) → (begun_after [] input ≡ [] → ⊥) → lines (input ++ line_feed ∷ []) ≡ lines input
unfolding ended begun_after
last_counts input h =
    (λ i. law.ended_pieces [] input (line_feed ∷ []) i ++ last (law.begun_pieces [] input (line_feed ∷ []) i))
    ∙ append-nil (ended [] input ++ begun_after [] input ∷ [])
    ∙ ap (λ (ls : List (List ℕ)). ended [] input ++ ls) (sym (some (begun_after [] input) h))
  where
    some : (begun : List ℕ) → (begun ≡ [] → ⊥) → last begun ≡ begun ∷ []
    some [] h = absurd (h refl)
    some (byte ∷ rest) h = refl

-- and a line feed at the very end begins no further line
pub none_follows : (input : List ℕ) → begun_after [] (input ++ line_feed ∷ []) ≡ []
unfolding begun_after
none_follows input = law.begun_pieces [] input (line_feed ∷ [])

-- ---- 'It reads at most 100,000,000 bytes and then goes on as if the input ended there'
-- an input no longer than that is answered as a whole
pub whole_input : (form : Form) (input : List ℕ) → length input ≤ 100000000 → output form input ≡ head form ++ flat_map (printed form) (lines input) ++ foot form
whole_input form input h = ap (λ (l : List ℕ). head form ++ flat_map (printed form) (lines l) ++ foot form) (take_all 100000000 input h)

-- and of a longer one the bytes past it make no difference
pub bytes_past : (form : Form) (input : List ℕ) → output form (take 100000000 input) ≡ output form input
bytes_past form input = ap (λ (l : List ℕ). head form ++ flat_map (printed form) (lines l) ++ foot form) (take-take 100000000 100000000 input (omega arith))

-- ---- what stands before the first line and after the last
-- with numbers nothing does
pub numbers_alone : (input : List ℕ) → output Numbers input ≡ flat_map (printed Numbers) (lines (take limit input))
numbers_alone input = append-nil (flat_map (printed Numbers) (lines (take limit input)))

-- with waypoints two lines before and one after
pub two_lines_before : (first : List ℕ) × ((second : List ℕ) × ((head Waypoints ≡ first ++ line_feed ∷ second ++ line_feed ∷ []) × ((unbroken first ≡ true) × (unbroken second ≡ true))))
two_lines_before = (
  ascii "<?xml version=\"1.0\" encoding=\"UTF-8\"?>",
  (ascii "<gpx version=\"1.1\" creator=\"Buckettin\" xmlns=\"http://www.topografix.com/GPX/1/1\">", (refl, (refl, refl))),
)

pub one_line_after : (last : List ℕ) × ((foot Waypoints ≡ last ++ line_feed ∷ []) × (unbroken last ≡ true))
one_line_after = (ascii "</gpx>", (refl, refl))

-- ---- 'dLat, dLon and dH .., or N alone, or `refused` and the number'
-- what is printed is what a call for one line gives, or the line of its refusal
module _ (form : Form) (line : List ℕ) (room : ℕ) where
  pub answer_printed : {text : List ℕ} → line_in form line room ≡ gives text → printed form line ≡ text
  answer_printed h = print.answer_printed form line room h

  pub refusal_printed : length (printed form line) ≤ room → {n : ℕ} → line_in form line room ≡ refused n → printed form line ≡ refused_line form n
  refusal_printed enough h = print.refusal_printed form line room enough h

-- which has at most 48 bytes
pub line_short : (form : Form) (line : List ℕ) → length (printed form line) ≤ 48
line_short form line = print.printed_short form line

-- and these are the lines of the refusals that a line can get where there is room
pub record Refused : Type 0 where
  pub one : refused_line Numbers 1 ≡ 114 ∷ 101 ∷ 102 ∷ 117 ∷ 115 ∷ 101 ∷ 100 ∷ 32 ∷ 49 ∷ 10 ∷ []
  pub two : refused_line Numbers 2 ≡ 114 ∷ 101 ∷ 102 ∷ 117 ∷ 115 ∷ 101 ∷ 100 ∷ 32 ∷ 50 ∷ 10 ∷ []
  pub three : refused_line Numbers 3 ≡ 114 ∷ 101 ∷ 102 ∷ 117 ∷ 115 ∷ 101 ∷ 100 ∷ 32 ∷ 51 ∷ 10 ∷ []
  pub four : refused_line Numbers 4 ≡ 114 ∷ 101 ∷ 102 ∷ 117 ∷ 115 ∷ 101 ∷ 100 ∷ 32 ∷ 52 ∷ 10 ∷ []
  pub six : refused_line Numbers 6 ≡ 114 ∷ 101 ∷ 102 ∷ 117 ∷ 115 ∷ 101 ∷ 100 ∷ 32 ∷ 54 ∷ 10 ∷ []

pub refused_lines : Refused
unfolding refused_line
refused_lines = record { one = refl; two = refl; three = refl; four = refl; six = refl }

-- in a GPX file a comment each, and 5 for a geoid datum besides
pub record Comments : Type 0 where
  pub one : refused_line Waypoints 1 ≡ ascii "<!-- refused 1 -->" ++ line_feed ∷ []
  pub two : refused_line Waypoints 2 ≡ ascii "<!-- refused 2 -->" ++ line_feed ∷ []
  pub three : refused_line Waypoints 3 ≡ ascii "<!-- refused 3 -->" ++ line_feed ∷ []
  pub four : refused_line Waypoints 4 ≡ ascii "<!-- refused 4 -->" ++ line_feed ∷ []
  pub five : refused_line Waypoints 5 ≡ ascii "<!-- refused 5 -->" ++ line_feed ∷ []
  pub six : refused_line Waypoints 6 ≡ ascii "<!-- refused 6 -->" ++ line_feed ∷ []

pub comments : Comments
unfolding refused_line
comments = record { one = refl; two = refl; three = refl; four = refl; five = refl; six = refl }

-- ---- 'An empty or overlong line is refused with 1'
-- however long it is, as is any line of another length than 26 bytes
pub wrong_length : (form : Form) (line : List ℕ) → (length line ≡ 26 → ⊥) → printed form line ≡ refused_line form 1
wrong_length form line h = print.printed_refused form line h

-- ---- 'It prints one line each'
-- a text with no line feed in it, and a line feed
pub one_line : (form : Form) (line : List ℕ) → (text : List ℕ) × ((printed form line ≡ text ++ line_feed ∷ []) × (unbroken text ≡ true))
one_line form line = print.printed_ends form line

-- so of any lines in there are as many out
pub as_many : (form : Form) (ls : List (List ℕ)) → length (lines (flat_map (printed form) ls)) ≡ length ls
unfolding ended begun_after flat_map
as_many form [] = refl
as_many form (l ∷ ls) =
    let t = one_line form l in
    ap (λ (p : List ℕ). length (lines (p ++ flat_map (printed form) ls))) t.1.0
    ∙ ap (λ (p : List ℕ). length (lines p)) (append_snoc t.0 line_feed (flat_map (printed form) ls))
    ∙ ap length (next_line t.0 (flat_map (printed form) ls) t.1.1)
    ∙ ap suc (as_many form ls)

-- ---- an input that comes in pieces: where it is cut makes no difference
-- what two calls of `feed` promise together of what they take is what one promises that takes both
pub in_two : (reading : Reading) (xs ys : List ℕ)
    → (answers reading.form (held reading.begun) xs ++ answers reading.form (held (after reading xs).begun) ys ≡ answers reading.form (held reading.begun) (xs ++ ys))
    × (after (after reading xs) ys ≡ after reading (xs ++ ys))
unfolding after
in_two reading xs ys =
    let form : Form = reading.form in
    let begun : List ℕ = held reading.begun in
    let line = print.begun_kept (begun_after begun xs) ys ∙ ap kept (sym (law.begun_pieces begun xs ys)) in
    let left : reading.left - length xs - length ys ≡ reading.left - length (xs ++ ys) = omega (arith, length-append xs ys) in
    (ap (λ (l : List ℕ). answers form begun xs ++ l) (print.answers_kept form (begun_after begun xs) ys) ∙ sym (print.answers_pieces form begun xs ys), λ i. record { form = form; begun = line i; left = left i })

-- what is printed for a line that is begun, and for the bytes that may be taken after it
module _ (form : Form) where
  fed_from : (line : List ℕ) (left : ℕ) (pieces : List (List ℕ)) → fed (record { form = form; begun = kept line; left = left }) pieces
      ≡ answers form line (take left (flatten pieces)) ++ flat_map (printed form) (last (begun_after line (take left (flatten pieces))))
  unfolding flatten answers ended begun_after flat_map closing after
  fed_from line left [] =
      print.answers_kept form line (closing (held (kept line)))
      ∙ ap (λ (l : List ℕ). answers form line (closing l)) (held_kept line)
      ∙ ends line
      ∙ ap (λ (l : List ℕ). answers form line l ++ flat_map (printed form) (last (begun_after line l))) (sym (take-nil left))
    where
      ends : (line : List ℕ) → answers form line (closing (take 27 line)) ≡ flat_map (printed form) (last line)
      ends [] = refl
      ends (byte ∷ rest) = refl
  fed_from line left (piece ∷ pieces) =
      let p : List ℕ = take left piece in
      let q : List ℕ = take (left - length p) (flatten pieces) in
      (λ i. print.answers_kept form line p i ++ fed (record { form = form; begun = print.begun_kept line p i; left = left - length p }) pieces)
      ∙ ap (λ (l : List ℕ). answers form line p ++ l) (fed_from (begun_after line p) (left - length p) pieces)
      ∙ sym (append_assoc (answers form line p) (answers form (begun_after line p) q) _)
      ∙ (λ i. sym (print.answers_pieces form line p q) i ++ flat_map (printed form) (last (sym (law.begun_pieces line p q) i)))
      ∙ ap (λ (l : List ℕ). answers form line l ++ flat_map (printed form) (last (begun_after line l))) (law.first_pieces left piece (flatten pieces))

  -- so any pieces, between the head and the foot, are answered as the input that they are together, up to the limit
  pub in_pieces : (pieces : List (List ℕ)) → head form ++ fed (started form) pieces ++ foot form ≡ output form (flatten pieces)
  unfolding answers
  in_pieces pieces =
      let input : List ℕ = take limit (flatten pieces) in
      ap (λ (l : List ℕ). head form ++ l ++ foot form) (fed_from [] limit pieces ∙ sym (print.flat_pieces form (ended [] input) (last (begun_after [] input))))

  -- and pieces of an input up to the limit as the input is
  pub of_input : (input : List ℕ) (pieces : List (List ℕ)) → flatten pieces ≡ take limit input → head form ++ fed (started form) pieces ++ foot form ≡ output form input
  of_input input pieces e = in_pieces pieces ∙ ap (output form) e ∙ bytes_past form input

-- ---- a call takes what may be taken and there is room for
module _ (left : ℕ) (bytes : List ℕ) (room : ℕ) where
  -- at least a byte, where there is one, and room for the longest line
  pub takes_some : 0 < left → 0 < length bytes → 48 ≤ room → 0 < taken_of (take left bytes) room
  unfolding taken_of of_lines
  takes_some some h k = one (room / 48) (take left bytes) (omega arith) (omega (arith, length-take left bytes))
    where
      one : (k : ℕ) (xs : List ℕ) → 0 < k → 0 < length xs → 0 < of_lines k xs
      one zero xs h j = absurd (omega arith)
      one (suc k) [] h j = absurd (omega arith)
      one (suc k) (x ∷ xs) h j = omega arith

  -- never more than may be
  pub takes_within : taken_of (take left bytes) room ≤ left
  takes_within = feeding.no_more left bytes room

  -- what it puts fits
  pub puts_within : (form : Form) (begun : List ℕ) → length (answers form begun (take (taken_of (take left bytes) room) bytes)) ≤ room
  unfolding taken_of
  puts_within form begun =
      let may : List ℕ = take left bytes in
      let e : take (taken_of may room) may ≡ take (taken_of may room) bytes = take-take _ left bytes (feeding.no_more left bytes room) in
      omega (arith, feeding.fits form begun (room / 48) may, ap (λ (l : List ℕ). length (answers form begun l)) e)

  -- a piece with room for one line more than end in it is taken whole, as far as it may be
  pub takes_all : 48 + 48 * length (ended [] bytes) ≤ room → take (taken_of (take left bytes) room) bytes ≡ take left bytes
  unfolding taken_of of_lines ended
  takes_all h = whole (room / 48) left bytes [] (omega arith)
    where
      whole : (k left : ℕ) (xs begun : List ℕ) → length (ended begun xs) < k → take (of_lines k (take left xs)) xs ≡ take left xs
      whole zero left xs begun h = absurd (omega arith)
      whole (suc k) zero xs begun h = refl
      whole (suc k) (suc left) [] begun h = refl
      whole (suc k) (suc left) (x ∷ xs) begun h =
          by_test (eqb x line_feed)
          (λ t. let j : suc (length (ended [] xs)) < suc k = simp t at h in simp t (ap (λ (l : List ℕ). x ∷ l) (whole k left xs [] (omega arith))))
          (λ t. let j : length (ended (begun ++ x ∷ []) xs) < suc k = simp t at h in simp t (ap (λ (l : List ℕ). x ∷ l) (whole (suc k) left xs (begun ++ x ∷ []) j)))

-- ---- 'that two permitted answers coincide is proved'
-- two answers that say the same are the same
pub fed_determined : (a b : Fed) → a.reading ≡ b.reading → a.taken ≡ b.taken → a.put ≡ b.put → a ≡ b
fed_determined a b same-reading same_taken same-put = λ i. record { reading = same-reading i; taken = same_taken i; put = same-put i }

-- ---- document 01's example
abbrev pub three_lines : List ℕ
three_lines = ascii "1 350000.000N 0330000.000E\n" ++ ascii "6 230000.000N 0570000.000E\n" ++ ascii "4 350000.000N 0330000.000E\n"

pub example : output Numbers three_lines ≡ ascii "-384288 -110294 24430\n" ++ ascii "7464\n" ++ ascii "refused 6\n"
unfolding refused_line printed ended begun_after flat_map answer_line printed_number decimal unpadded digits in_places digit_of all_digits from_digits from_places is_angle in_sixties angle round_div power powers_of sum
example = refl

-- the same lines as a GPX file
pub gpx_example : output Waypoints three_lines
    ≡ ascii "<?xml version=\"1.0\" encoding=\"UTF-8\"?>\n"
    ++ ascii "<gpx version=\"1.1\" creator=\"Buckettin\" xmlns=\"http://www.topografix.com/GPX/1/1\">\n"
    ++ ascii "<wpt lat=\"34.998932533\" lon=\"32.999693628\"/>\n"
    ++ ascii "<!-- refused 5 -->\n"
    ++ ascii "<!-- refused 6 -->\n"
    ++ ascii "</gpx>\n"
unfolding refused_line printed ended begun_after flat_map element degrees nine_places billionths decimal unpadded digits in_places digit_of all_digits from_digits from_places is_angle in_sixties angle round_div power powers_of sum
gpx_example = refl
