-- What documents 01 and 02 ask of the line program, of one line. Stated over specs/ alone. Assumes nothing.
use mathlib.Core.Path.{◌≡◌, refl, sym, ◌∙◌}
use mathlib.Core.Bool.{true, not, ◌||◌, false≢true}
use mathlib.Core.List.{List, [], ◌∷◌, ◌++◌}
use mathlib.Core.Logic.{◌↔◌, ◌⊎◌, inl, inr, ⊎_elim}
use Prim.Native.Nat.{ℕ, ◌<◌, ◌≤◌}
use lib.Dec.{eqb}
use lib.IntN.{ℤ, pos, neg_ℤ}
use lib.ListN.{length}
use borrow.Author.Tests.{eqb-true}
use Rattle.whole.specs.Places.{from_places, in_places}
use Rattle.whole.specs.Digits.{all_digits, from_digits, digit_of, digits}
use Rattle.whole.proofs.Bools.{either}
use Rattle.kinds.specs.Answer.{gives, refused, AllHold, FirstFails, in_order, placed}
use Rattle.kinds.specs.Bytes.{ascii}
use Rattle.kinds.proofs.Answers.{held, first_or_behind, fails, first_number, in_two, following_tests}
use Rattle.kinds.proofs.Demands as kinds
use Rattle.position.specs.Text.{latitude, longitude, has_text, is_angle, in_sixties, angle}
use Rattle.tables.specs.Page.{Family, shift, geoid, is_either}
use Rattle.tables.specs.Rule as rule
use Rattle.datum.specs.Point.{answer_of, shift_of, page_of}
use Rattle.datum.specs.Exact.{exact, AllWithin, demanded}
use Rattle.datum.proofs.Demands as datum
use Rattle.decimal.specs.Decimal.{unpadded, decimal, printed_number}
use Rattle.waypoint.specs.Waypoint.{element_of}
use Rattle.waypoint.proofs.Positions.{as_refused}
use Rattle.line.specs.Line.{line_feed, unbroken, code_byte, code, latitude_of, longitude_of, text_tests, place_tests, tests, answer_to, answer_line, line_of, element_to, text_to, line_in}
use Rattle.line.specs.Form.{line_bytes}
use Rattle.line.specs.declared.Form.{Form}
use Rattle.line.specs.declared.Form.TheVariants.{Numbers, Waypoints}
use Rattle.line.proofs.Calls.{in_range, numbers_are}
use Rattle.line.proofs.Printing.{text_short, text_ends}
use Rattle.line.proofs.Made as form
use Rattle.line.proofs.Lines as lines

-- ---- 'code digit, space, latitude text, space, longitude text; 26 bytes before the line feed'
-- a line that was read is answered as the point that it says, by the call that takes both families
pub answered_as : (line : List ℕ) → AllHold (text_tests line) → answer_to line ≡ answer_of (code line) (latitude_of line) (longitude_of line)
answered_as line all =
    in_two (text_tests line) (place_tests line) (gives (rule.worked (page_of (code line)) (latitude_of line) (longitude_of line)))
    ∙ held (text_tests line) _ all
    ∙ sym (in_range line all.1.1.0)

-- a line that is made of a digit and a position in range is read as them, and so answered
pub made_reads : (digit : ℕ) (north east : ℤ) → digit < 10 → has_text latitude north ≡ true → has_text longitude east ≡ true
    → AllHold (text_tests (line_bytes digit north east)) × (answer_to (line_bytes digit north east) ≡ answer_of (pos digit) north east)
made_reads digit north east d n e =
    let Says = form.made_says digit north east d n e in
    let all = form.made_holds digit north east d n e in
    (all, answered_as (line_bytes digit north east) all ∙ (λ i. answer_of (Says.0 i) (Says.1.0 i) (Says.1.1 i)))

-- and a line that is read was so made: no other bytes are
pub reads_made : (line : List ℕ) → AllHold (text_tests line)
    → (digit_of (code_byte line) < 10) × ((has_text latitude (latitude_of line) ≡ true) × ((has_text longitude (longitude_of line) ≡ true) × (line ≡ line_bytes (digit_of (code_byte line)) (latitude_of line) (longitude_of line))))
reads_made line all = form.read_made line all

-- ---- 'Per line: 1, then 2 over the whole line, then 3, 4, 6, then 7'
module _ (line : List ℕ) (room : ℕ) where
  abbrev values : Family ℤ
  values = rule.worked (page_of (code line)) (latitude_of line) (longitude_of line)

  line_tests : line_of line room ≡ in_order (tests line) (placed (answer_line values) room)
  line_tests = following_tests (tests line) (gives values) (λ values. placed (answer_line values) room)

  -- a line is answered exactly where every test holds and there is room
  pub answered_where : (text : List ℕ) → (line_of line room ≡ gives text) ↔ (AllHold (tests line) × ((length (answer_line values) ≤ room) × (answer_line values ≡ text)))
  answered_where text = kinds.written_where (tests line) (answer_line values) room line_tests text

  -- and refused exactly with the number of the first test that does not hold, or with 7 where there is no room
  pub refused_where : (n : ℕ) → (line_of line room ≡ refused n) ↔ (FirstFails (tests line) n ⊎ (AllHold (tests line) × ((room < length (answer_line values)) × (n ≡ 7))))
  refused_where n = kinds.unwritten_where (tests line) (answer_line values) room line_tests n

  pub given_7 : (line_of line room ≡ refused 7) ↔ (AllHold (tests line) × (room < length (answer_line values)))
  given_7 = (
    (λ h. ⊎_elim (λ f. absurd (false≢true (first_number (λ m. not (eqb m 7)) (tests line) 7 refl f))) (λ p. (p.0, p.1.0)) ((refused_where 7).0 h)),
    (λ h. (refused_where 7).1 (inr (h.0, (h.1, refl)))),
  )

  -- no other numbers are given: never 5, and never a sheet's
  pub given_one_of : (n : ℕ) → line_of line room ≡ refused n → (n ≡ 1) ⊎ ((n ≡ 2) ⊎ ((n ≡ 3) ⊎ ((n ≡ 4) ⊎ ((n ≡ 6) ⊎ (n ≡ 7)))))
  given_one_of n h =
      ⊎_elim
      (λ f.
      either (eqb n 1) (eqb n 2 || (eqb n 3 || (eqb n 4 || eqb n 6))) (first_number (λ m. eqb m 1 || (eqb m 2 || (eqb m 3 || (eqb m 4 || eqb m 6)))) (tests line) n refl f) (λ e. inl (eqb-true n 1 e))
      (λ e. inr (either (eqb n 2) (eqb n 3 || (eqb n 4 || eqb n 6)) e (λ e. inl (eqb-true n 2 e))
      (λ e. inr (either (eqb n 3) (eqb n 4 || eqb n 6) e (λ e. inl (eqb-true n 3 e))
      (λ e. inr (either (eqb n 4) (eqb n 6) e (λ e. inl (eqb-true n 4 e)) (λ e. inr (inl (eqb-true n 6 e))))))))))
      (λ p. inr (inr (inr (inr (inr p.1.1)))))
      ((refused_where n).0 h)

-- 1 350000.000N 0330000.000E, the centre of code 1
abbrev pub centre : List ℕ
centre = 49 ∷ 32 ∷ 51 ∷ 53 ∷ 48 ∷ 48 ∷ 48 ∷ 48 ∷ 46 ∷ 48 ∷ 48 ∷ 48 ∷ 78 ∷ 32 ∷ 48 ∷ 51 ∷ 51 ∷ 48 ∷ 48 ∷ 48 ∷ 48 ∷ 46 ∷ 48 ∷ 48 ∷ 48 ∷ 69 ∷ []

-- where two are due, the first in that order; on the way an empty line, and one that is a byte too long
pub record Orders : Type 0 where
  pub empty : line_of [] 0 ≡ refused 1
  pub too_long : line_of (centre ++ (13 ∷ [])) 36 ≡ refused 1
  -- a byte too short, and `W` for `E`
  pub length_and_kind : line_of (49 ∷ 32 ∷ 51 ∷ 53 ∷ 48 ∷ 48 ∷ 48 ∷ 48 ∷ 46 ∷ 48 ∷ 48 ∷ 48 ∷ 78 ∷ 32 ∷ 48 ∷ 51 ∷ 51 ∷ 48 ∷ 48 ∷ 48 ∷ 48 ∷ 46 ∷ 48 ∷ 48 ∷ 87 ∷ []) 36 ≡ refused 1
  -- 99° north, and a wrong byte elsewhere: the code, either space, or `W` for `E`
  pub code_and_range : line_of (120 ∷ 32 ∷ 57 ∷ 57 ∷ 48 ∷ 48 ∷ 48 ∷ 48 ∷ 46 ∷ 48 ∷ 48 ∷ 48 ∷ 78 ∷ 32 ∷ 48 ∷ 51 ∷ 51 ∷ 48 ∷ 48 ∷ 48 ∷ 48 ∷ 46 ∷ 48 ∷ 48 ∷ 48 ∷ 69 ∷ []) 36 ≡ refused 2
  pub space_and_range : line_of (49 ∷ 95 ∷ 57 ∷ 57 ∷ 48 ∷ 48 ∷ 48 ∷ 48 ∷ 46 ∷ 48 ∷ 48 ∷ 48 ∷ 78 ∷ 32 ∷ 48 ∷ 51 ∷ 51 ∷ 48 ∷ 48 ∷ 48 ∷ 48 ∷ 46 ∷ 48 ∷ 48 ∷ 48 ∷ 69 ∷ []) 36 ≡ refused 2
  pub second_and_range : line_of (49 ∷ 32 ∷ 57 ∷ 57 ∷ 48 ∷ 48 ∷ 48 ∷ 48 ∷ 46 ∷ 48 ∷ 48 ∷ 48 ∷ 78 ∷ 95 ∷ 48 ∷ 51 ∷ 51 ∷ 48 ∷ 48 ∷ 48 ∷ 48 ∷ 46 ∷ 48 ∷ 48 ∷ 48 ∷ 69 ∷ []) 36 ≡ refused 2
  pub kind_and_range : line_of (49 ∷ 32 ∷ 57 ∷ 57 ∷ 48 ∷ 48 ∷ 48 ∷ 48 ∷ 46 ∷ 48 ∷ 48 ∷ 48 ∷ 78 ∷ 32 ∷ 48 ∷ 51 ∷ 51 ∷ 48 ∷ 48 ∷ 48 ∷ 48 ∷ 46 ∷ 48 ∷ 48 ∷ 48 ∷ 87 ∷ []) 36 ≡ refused 2
  -- code 9, 99° north
  pub range_and_code : line_of (57 ∷ 32 ∷ 57 ∷ 57 ∷ 48 ∷ 48 ∷ 48 ∷ 48 ∷ 46 ∷ 48 ∷ 48 ∷ 48 ∷ 78 ∷ 32 ∷ 48 ∷ 51 ∷ 51 ∷ 48 ∷ 48 ∷ 48 ∷ 48 ∷ 46 ∷ 48 ∷ 48 ∷ 48 ∷ 69 ∷ []) 36 ≡ refused 3
  -- code 9, which has no area
  pub code_and_area : line_of (57 ∷ 32 ∷ 51 ∷ 53 ∷ 48 ∷ 48 ∷ 48 ∷ 48 ∷ 46 ∷ 48 ∷ 48 ∷ 48 ∷ 78 ∷ 32 ∷ 48 ∷ 51 ∷ 51 ∷ 48 ∷ 48 ∷ 48 ∷ 48 ∷ 46 ∷ 48 ∷ 48 ∷ 48 ∷ 69 ∷ []) 36 ≡ refused 4
  -- outside the area of code 4, and no room
  pub area_and_room : line_of (52 ∷ 32 ∷ 51 ∷ 53 ∷ 48 ∷ 48 ∷ 48 ∷ 48 ∷ 46 ∷ 48 ∷ 48 ∷ 48 ∷ 78 ∷ 32 ∷ 48 ∷ 51 ∷ 51 ∷ 48 ∷ 48 ∷ 48 ∷ 48 ∷ 46 ∷ 48 ∷ 48 ∷ 48 ∷ 69 ∷ []) 0 ≡ refused 6

pub orders : Orders
unfolding is_angle in_sixties angle all_digits from_digits from_places digit_of
orders = record { empty = refl; too_long = refl; length_and_kind = refl; code_and_range = refl; space_and_range = refl; second_and_range = refl; kind_and_range = refl; range_and_code = refl; code_and_area = refl; area_and_room = refl }

-- the answer of a line is that of its point
of_point : (line : List ℕ) {values : Family ℤ} → answer_to line ≡ gives values → answer_of (code line) (latitude_of line) (longitude_of line) ≡ gives values
of_point line {values} h =
    let (a, (b, (c, _))) = ((kinds.given_where (tests line) _ values).0 h).0 in
    sym (answered_as line (a, (b, (c, tt)))) ∙ h

-- ---- demand 3: each number of an answer is within 2, 2 and 1 units of the exact value
pub near : (line : List ℕ) {values : Family ℤ} → answer_to line ≡ gives values → AllWithin 1 (demanded values) (exact (page_of (code line)) (latitude_of line) (longitude_of line)) values
near line h = datum.as_demanded is_either (code line) (latitude_of line) (longitude_of line) (of_point line h)

-- ---- the line tells its numbers, and which family they are of
-- two answers that are printed alike are the same
pub answers_apart : (line other : List ℕ) {v w : Family ℤ} → answer_to line ≡ gives v → answer_to other ≡ gives w → answer_line v ≡ answer_line w → v ≡ w
answers_apart line other {v} {w} h k same =
    lines.lines_apart v w
    (datum.four_bytes is_either (code line) (latitude_of line) (longitude_of line) (of_point line h))
    (datum.four_bytes is_either (code other) (latitude_of other) (longitude_of other) (of_point other k))
    same

-- 'dLat, dLon and dH in answer units with one space between, or N alone': the centres of codes 1 and 6
pub record Printed : Type 0 where
  pub shifts : answer_line (shift (neg_ℤ (pos 384288)) (neg_ℤ (pos 110294)) (pos 24430)) ≡ 45 ∷ 51 ∷ 56 ∷ 52 ∷ 50 ∷ 56 ∷ 56 ∷ 32 ∷ 45 ∷ 49 ∷ 49 ∷ 48 ∷ 50 ∷ 57 ∷ 52 ∷ 32 ∷ 50 ∷ 52 ∷ 52 ∷ 51 ∷ 48 ∷ 10 ∷ []
  pub height : answer_line (geoid (pos 7464)) ≡ 55 ∷ 52 ∷ 54 ∷ 52 ∷ 10 ∷ []

pub printed : Printed
unfolding printed_number decimal unpadded digits in_places answer_line
printed = record { shifts = refl; height = refl }

-- ---- document 02, wish 1: a line in a form
-- in numbers it is the line above
pub in_numbers : (line : List ℕ) (room : ℕ) → line_in Numbers line room ≡ line_of line room
in_numbers line room = numbers_are line room

-- a line that was read gets the waypoint of the point that it says
pub waypoint_as : (line : List ℕ) → AllHold (text_tests line) → element_to line ≡ element_of (code line) (latitude_of line) (longitude_of line)
waypoint_as line all = held (text_tests line) (element_of (code line) (latitude_of line) (longitude_of line)) all

pub made_waypoint : (digit : ℕ) (north east : ℤ) → digit < 10 → has_text latitude north ≡ true → has_text longitude east ≡ true
    → element_to (line_bytes digit north east) ≡ element_of (pos digit) north east
made_waypoint digit north east d n e =
    let Says = form.made_says digit north east d n e in
    waypoint_as (line_bytes digit north east) (form.made_holds digit north east d n e) ∙ (λ i. element_of (Says.0 i) (Says.1.0 i) (Says.1.1 i))

-- and is refused exactly with the number of the first of its text's tests that does not hold, or as its point's shift is
pub waypoint_refused_where : (line : List ℕ) (n : ℕ) → (element_to line ≡ refused n)
    ↔ (FirstFails (text_tests line) n ⊎ (AllHold (text_tests line) × (shift_of (code line) (latitude_of line) (longitude_of line) ≡ refused n)))
waypoint_refused_where line n =
    let same = as_refused (code line) (latitude_of line) (longitude_of line) n in (
      (λ h. ⊎_elim inl (λ p. inr (p.0, same.0 p.1)) (first_or_behind (text_tests line) (element_of (code line) (latitude_of line) (longitude_of line)) n h)),
      ⊎_elim
          (λ f. fails (text_tests line) (element_of (code line) (latitude_of line) (longitude_of line)) n f)
          (λ p. waypoint_as line p.0 ∙ same.1 p.1),
    )

-- the line out has at most 48 bytes, and its line feed is the last of them
pub text_at_most : (form : Form) (line : List ℕ) {text : List ℕ} → text_to form line ≡ gives text → length text ≤ 48
text_at_most form line h = text_short form line h

pub line_feed_last : (form : Form) (line : List ℕ) {text : List ℕ} → text_to form line ≡ gives text → (t : List ℕ) × ((text ≡ t ++ line_feed ∷ []) × (unbroken t ≡ true))
line_feed_last form line h = text_ends form line h

-- 5 of a geoid datum, before 6, and before 7; a text out of range before it
pub record WaypointOrders : Type 0 where
  -- the centre of code 6, and code 6 at the centre of code 1, which is outside its area
  pub geoid : line_in Waypoints (ascii "6 230000.000N 0570000.000E") 48 ≡ refused 5
  pub geoid_and_area : line_in Waypoints (ascii "6 350000.000N 0330000.000E") 0 ≡ refused 5
  -- code 9 at 99° north, and code 5 there
  pub range_and_code : line_in Waypoints (ascii "9 990000.000N 0330000.000E") 48 ≡ refused 3
  pub range_and_geoid : line_in Waypoints (ascii "5 990000.000N 0330000.000E") 48 ≡ refused 3
  -- code 9, which has no area; code 4 at the centre of code 1, and no room
  pub code_and_area : line_in Waypoints (ascii "9 350000.000N 0330000.000E") 48 ≡ refused 4
  pub area_and_room : line_in Waypoints (ascii "4 350000.000N 0330000.000E") 0 ≡ refused 6

pub waypoint_orders : WaypointOrders
unfolding is_angle in_sixties angle all_digits from_digits from_places digit_of
waypoint_orders = record { geoid = refl; geoid_and_area = refl; range_and_code = refl; range_and_geoid = refl; code_and_area = refl; area_and_room = refl }
