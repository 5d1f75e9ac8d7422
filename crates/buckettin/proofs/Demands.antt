-- What document 01 asks of what C calls. Stated over specs/ alone. Assumes nothing.
use mathlib.Core.Path.{◌≡◌, refl, sym, ap, ◌∙◌}
use mathlib.Core.Bool.{Bool, true, not}
use mathlib.Core.List.{List, [], ◌∷◌, ◌++◌, flat_map}
use Prim.Native.Nat.{ℕ, ◌≤◌}
use lib.Dec.{lit<}
use lib.IntN.{ℤ, pos, neg_ℤ}
use lib.Ieee.{Float}
use lib.ListN.{length, take, drop}
use borrow.Author.Tests.{not-false}
use Rattle.whole.specs.Round.{round_div}
use Rattle.whole.specs.Places.{from_places, in_places}
use Rattle.whole.specs.Digits.{all_digits, from_digits, digit_of, digits}
use Rattle.kinds.specs.Answer.{Answer, gives, refused, refusal_of, counted, lent}
use Rattle.kinds.specs.Bytes.{ascii}
use Rattle.kinds.specs.Kinds.{within}
use Rattle.kinds.proofs.Answers.{told, is, is_or}
use Rattle.position.specs.Text.{Coordinate, latitude, longitude, text_length, is_angle, in_sixties, angle, spelled, read, write}
use Rattle.position.proofs.Demands as position
use Rattle.equation.specs.Powers.{power, powers_of}
use Rattle.equation.specs.Equation.{sum, equation_of}
use Rattle.equation.specs.Exact.{Within}
use Rattle.tables.specs.Page.{Equation, Family, shift, geoid, is_shift, is_geoid, is_either, OfShift, OfGeoid}
use Rattle.tables.specs.Rule.{in_area, powers_u, powers_v}
use Rattle.datum.specs.Point.{page_of, asked, shift_of, geoid_of, answer_of, first_of, second_of, third_of}
use Rattle.datum.specs.Exact.{exact}
use Rattle.datum.proofs.Codes.{not_shift, not_geoid}
use Rattle.datum.proofs.Demands as datum
use Rattle.floating.specs.Floats.{seconds, metres, floating_of, float_zero, answer_in_floats}
use Rattle.floating.proofs.Demands as floating
use Rattle.numbers.specs.Numbers.{number, in_bytes}
use Rattle.layout.specs.Sheet.{serial, datums, codes, count, body, points, pieces, is_unit, rise, is_listed}
use Rattle.sheet.specs.Result.{result_of, work_of}
use Rattle.sheet.proofs.Demands as sheet
use Rattle.decimal.specs.Decimal.{printed_number, decimal, unpadded, billionths, nine_places}
use Rattle.line.specs.Line.{answer_line, line_of}
use Rattle.line.proofs.Demands as line
use Rattle.waypoint.specs.Waypoint.{degrees, element, waypoint_of}
use Rattle.waypoint.proofs.Demands as waypoint
use Rattle.buckettin.specs.Fields.{value_or, shift_fields, geoid_fields, read_fields, written_fields}
use Rattle.buckettin.specs.declared.Shift.{Shift}
use Rattle.buckettin.specs.declared.Geoid.{Geoid}
use Rattle.buckettin.proofs.Answers.{told_written, as_shift, as_geoid}

-- ---- 'Refusals return zeros beside the number, zero bytes written, and lent memory as it came'
pub refused_shift : (a : Answer (Family ℤ)) → (refusal_of a ≡ 0 → ⊥) → shift_fields a ≡ record { refusal = refusal_of a; dlat = pos 0; dlon = pos 0; dh = pos 0 }
refused_shift (gives v) some = absurd (some refl)
refused_shift (refused n) some = refl

pub refused_geoid : (a : Answer (Family ℤ)) → (refusal_of a ≡ 0 → ⊥) → geoid_fields a ≡ record { refusal = refusal_of a; n = pos 0 }
refused_geoid (gives v) some = absurd (some refl)
refused_geoid (refused n) some = refl

pub refused_read : (a : Answer ℤ) → (refusal_of a ≡ 0 → ⊥) → read_fields a ≡ record { refusal = refusal_of a; ms = pos 0 }
refused_read (gives v) some = absurd (some refl)
refused_read (refused n) some = refl

pub refused_written : (a : Answer (List ℕ)) (out : List ℕ) → (refusal_of a ≡ 0 → ⊥) → (written_fields (counted a) ≡ record { refusal = refusal_of a; written = 0 }) × (lent a out ≡ out)
refused_written (gives v) out some = absurd (some refl)
refused_written (refused n) out some = (refl, refl)

-- ---- 0 is the number of no refusal: beside it stand the answer's own numbers
module _ (code latitude longitude : ℤ) where
  abbrev in_c : Shift
  in_c = shift_fields (shift_of code latitude longitude)

  abbrev height_in_c : Geoid
  height_in_c = geoid_fields (geoid_of code latitude longitude)

  work : Equation → ℤ
  work e = equation_of e.divisor e.terms (powers_u (page_of code) latitude) (powers_v (page_of code) longitude)

  family_answer : (family : Family Equation → Bool) (v : Family ℤ) → asked family code latitude longitude ≡ gives v → answer_of code latitude longitude ≡ gives v
  family_answer family v h =
      let p = (datum.answered family code latitude longitude v).0 h in
      (datum.answered is_either code latitude longitude v).1 ((p.0.0, refl), p.1)

  pub shift_told : in_c.refusal ≡ 0 → shift_of code latitude longitude ≡ gives (shift in_c.dlat in_c.dlon in_c.dh)
  unfolding work
  shift_told h =
      let t = told (shift_of code latitude longitude) (datum.above_0 is_shift code latitude longitude) h in
      let p = (datum.answered is_shift code latitude longitude t.0).0 t.1 in
      as_shift work (page_of code).equations t.0 t.1 p.1.1 p.0.1

  pub geoid_told : height_in_c.refusal ≡ 0 → geoid_of code latitude longitude ≡ gives (geoid height_in_c.n)
  unfolding work
  geoid_told h =
      let t = told (geoid_of code latitude longitude) (datum.above_0 is_geoid code latitude longitude) h in
      let p = (datum.answered is_geoid code latitude longitude t.0).0 t.1 in
      as_geoid work (page_of code).equations t.0 t.1 p.1.1 p.0.1

  -- demand 3, of these numbers
  pub shift_near : in_c.refusal ≡ 0 → OfShift (exact (page_of code) latitude longitude) (λ d_lat d_lon d_h. Within 2 1 d_lat in_c.dlat × Within 2 1 d_lon in_c.dlon × Within 1 1 d_h in_c.dh)
  shift_near h = datum.shift_near is_shift code latitude longitude in_c.dlat in_c.dlon in_c.dh (shift_told h)

  pub geoid_near : height_in_c.refusal ≡ 0 → OfGeoid (exact (page_of code) latitude longitude) (λ n. Within 1 1 n height_in_c.n)
  geoid_near h = datum.geoid_near is_geoid code latitude longitude height_in_c.n (geoid_told h)

  -- of each point in its area
  pub shift_in_area : within (pos 1) (pos 4) code ≡ true → in_area (page_of code) latitude longitude ≡ true
      → (in_c.refusal ≡ 0) × OfShift (exact (page_of code) latitude longitude) (λ d_lat d_lon d_h. Within 2 1 d_lat in_c.dlat × Within 2 1 d_lon in_c.dlon × Within 1 1 d_h in_c.dh)
  shift_in_area h inside =
      let p = (not_geoid code).1 h in
      let none = ap refusal_of (datum.in_its_area is_shift code latitude longitude p.0 (not-false _ p.1) inside).0 in
      (none, shift_near none)

  pub geoid_in_area : within (pos 5) (pos 6) code ≡ true → in_area (page_of code) latitude longitude ≡ true
      → (height_in_c.refusal ≡ 0) × OfGeoid (exact (page_of code) latitude longitude) (λ n. Within 1 1 n height_in_c.n)
  geoid_in_area h inside =
      let p = (not_shift code).1 h in
      let none = ap refusal_of (datum.in_its_area is_geoid code latitude longitude p.0 (ap not p.1) inside).0 in
      (none, geoid_near none)

  -- the floats are these numbers divided, and the fourth call gives 0 beside them
  abbrev Floats : Float → Float → Float → Type 0
  Floats x y z =
      (first_of float_zero (floating_of code latitude longitude) ≡ x) × (second_of float_zero (floating_of code latitude longitude) ≡ y)
      × (third_of float_zero (floating_of code latitude longitude) ≡ z) × (refusal_of (floating_of code latitude longitude) ≡ 0)

  pub shift_floats : in_c.refusal ≡ 0 → Floats (seconds in_c.dlat) (seconds in_c.dlon) (metres in_c.dh)
  shift_floats h = floating.of_shift code latitude longitude _ _ _ (ap answer_in_floats (family_answer is_shift _ (shift_told h)))

  pub geoid_floats : height_in_c.refusal ≡ 0 → Floats (metres height_in_c.n) float_zero float_zero
  geoid_floats h = floating.of_geoid code latitude longitude _ (ap answer_in_floats (family_answer is_geoid _ (geoid_told h)))

-- bytes were written, and are counted
abbrev Told : Answer (List ℕ) → Type 0
Told a = (written_fields (counted a)).refusal ≡ 0 → (bytes : List ℕ) × ((a ≡ gives bytes) × ((written_fields (counted a)).written ≡ length bytes))

pub sheet_told : (unit : ℤ) (bytes : List ℕ) (room : ℕ) → Told (work_of unit bytes room)
sheet_told unit bytes room h =
    told_written (work_of unit bytes room) (λ n e. is_or 1 (lit< tt) (is_or 9 (lit< tt) (is_or 8 (lit< tt) (is 7 (lit< tt)))) (sheet.given_one_of unit bytes room n e)) h

pub line_told : (bytes : List ℕ) (room : ℕ) → Told (line_of bytes room)
line_told bytes room h =
    told_written (line_of bytes room)
    (λ n e. is_or 1 (lit< tt) (is_or 2 (lit< tt) (is_or 3 (lit< tt) (is_or 4 (lit< tt) (is_or 6 (lit< tt) (is 7 (lit< tt)))))) (line.given_one_of bytes room n e))
    h

pub waypoint_told : (code north east : ℤ) (room : ℕ) → Told (waypoint_of code north east room)
waypoint_told code north east room h =
    told_written (waypoint_of code north east room)
    (λ n e. is_or 4 (lit< tt) (is_or 5 (lit< tt) (is_or 3 (lit< tt) (is_or 6 (lit< tt) (is 7 (lit< tt))))) (waypoint.given_one_of code north east room n e))
    h

-- ---- texts
module _ (k : Coordinate) where
  pub read_told : (text : List ℕ) → (read_fields (read k text)).refusal ≡ 0 → read k text ≡ gives (read_fields (read k text)).ms
  read_told text h =
      let t = told (read k text) (λ n e. is_or 1 (lit< tt) (is_or 2 (lit< tt) (is 3 (lit< tt))) (position.given_one_of k text n e)) h in
      t.1 ∙ ap gives (ap (value_or (pos 0)) (sym t.1))

  pub written_told : (x : ℤ) (room : ℕ) → Told (write k x room)
  written_told x room h = told_written (write k x room) (λ n e. is_or 3 (lit< tt) (is 7 (lit< tt)) (position.written_one_of k x room n e)) h

  -- what was written is read as the number
  pub written_reads : (x : ℤ) (out : List ℕ) → (written_fields (counted (write k x (length out)))).refusal ≡ 0
      → read_fields (read k (take (written_fields (counted (write k x (length out)))).written (lent (write k x (length out)) out))) ≡ record { refusal = 0; ms = x }
  written_reads x out h =
      let t = written_told x (length out) h in
      let long : value_or 0 (counted (write k x (length out))) ≡ text_length k = t.1.1 ∙ ap length (position.written_is k x (length out) t.1.0).1 ∙ position.text_length_lem k x in
      ap (λ (n : ℕ). read_fields (read k (take n (lent (write k x (length out)) out)))) long ∙ ap read_fields (position.written_reads k x out t.1.0)

  -- and what was read is written as the same bytes
  pub read_writes : (text out : List ℕ) → (read_fields (read k text)).refusal ≡ 0 → text_length k ≤ length out
      → (written_fields (counted (write k (read_fields (read k text)).ms (length out))) ≡ record { refusal = 0; written = length text })
      × (lent (write k (read_fields (read k text)).ms (length out)) out ≡ text ++ drop (length text) out)
  read_writes text out h room =
      let w = position.read_writes k text (read_told text h) (length out) room in
      (ap (λ (a : Answer (List ℕ)). written_fields (counted a)) w, ap (λ (a : Answer (List ℕ)). lent a out) w)

-- ---- 'A sheet with another unit's serial is refused as such'
pub foreign : (unit : ℤ) (bytes out : List ℕ) → 4 ≤ length bytes → (serial bytes ≡ 0 → ⊥) → (unit ≡ pos (serial bytes) → ⊥)
    → (written_fields (counted (work_of unit bytes (length out))) ≡ record { refusal = 8; written = 0 }) × (lent (work_of unit bytes (length out)) out ≡ out)
foreign unit bytes out long some other =
    let f = sheet.foreign unit bytes out long some other in
    (ap written_fields f.0, f.1)

-- ---- the examples of include/buckettin.h
pub record Examples : Type 0 where
  pub shift_example : shift_fields (shift_of (pos 1) (pos 126000000) (pos 118800000)) ≡ record { refusal = 0; dlat = neg_ℤ (pos 384288); dlon = neg_ℤ (pos 110294); dh = pos 24430 }
  pub geoid_example : geoid_fields (geoid_of (pos 6) (pos 82800000) (pos 205200000)) ≡ record { refusal = 0; n = pos 7464 }
  pub refusal_example : refusal_of (floating_of (pos 4) (pos 126000000) (pos 118800000)) ≡ 6
  pub read_latitude : read_fields (read latitude (51 ∷ 53 ∷ 48 ∷ 48 ∷ 48 ∷ 48 ∷ 46 ∷ 48 ∷ 48 ∷ 48 ∷ 78 ∷ [])) ≡ record { refusal = 0; ms = pos 126000000 }
  pub read_longitude : read_fields (read longitude (48 ∷ 51 ∷ 51 ∷ 48 ∷ 48 ∷ 48 ∷ 48 ∷ 46 ∷ 48 ∷ 48 ∷ 48 ∷ 69 ∷ [])) ≡ record { refusal = 0; ms = pos 118800000 }
  pub write_latitude : write latitude (pos 126000000) 11 ≡ gives (51 ∷ 53 ∷ 48 ∷ 48 ∷ 48 ∷ 48 ∷ 46 ∷ 48 ∷ 48 ∷ 48 ∷ 78 ∷ [])
  pub write_longitude : write longitude (pos 118800000) 12 ≡ gives (48 ∷ 51 ∷ 51 ∷ 48 ∷ 48 ∷ 48 ∷ 48 ∷ 46 ∷ 48 ∷ 48 ∷ 48 ∷ 69 ∷ [])
  pub sheet_worked : work_of (pos 7) (0 ∷ 0 ∷ 0 ∷ 7 ∷ 0 ∷ 0 ∷ 0 ∷ []) 6 ≡ gives (0 ∷ 0 ∷ 0 ∷ 7 ∷ 0 ∷ 0 ∷ [])
  pub sheet_refused : written_fields (counted (work_of (pos 8) (0 ∷ 0 ∷ 0 ∷ 7 ∷ 0 ∷ 0 ∷ 0 ∷ []) 6)) ≡ record { refusal = 8; written = 0 }
  pub line_answered : line_of (49 ∷ 32 ∷ 51 ∷ 53 ∷ 48 ∷ 48 ∷ 48 ∷ 48 ∷ 46 ∷ 48 ∷ 48 ∷ 48 ∷ 78 ∷ 32 ∷ 48 ∷ 51 ∷ 51 ∷ 48 ∷ 48 ∷ 48 ∷ 48 ∷ 46 ∷ 48 ∷ 48 ∷ 48 ∷ 69 ∷ []) 36 ≡ gives (45 ∷ 51 ∷ 56 ∷ 52 ∷ 50 ∷ 56 ∷ 56 ∷ 32 ∷ 45 ∷ 49 ∷ 49 ∷ 48 ∷ 50 ∷ 57 ∷ 52 ∷ 32 ∷ 50 ∷ 52 ∷ 52 ∷ 51 ∷ 48 ∷ 10 ∷ [])
  pub waypoint_written : waypoint_of (pos 1) (pos 126000000) (pos 118800000) 47 ≡ gives (ascii "<wpt lat=\"34.998932533\" lon=\"32.999693628\"/>")

pub examples : Examples
unfolding round_div power powers_of sum read write is_angle in_sixties angle all_digits from_digits from_places digit_of spelled digits in_places number in_bytes serial datums codes count body points pieces is_unit rise is_listed result_of flat_map printed_number decimal unpadded answer_line element degrees nine_places billionths
examples = record { shift_example = refl; geoid_example = refl; refusal_example = refl; read_latitude = refl; read_longitude = refl; write_latitude = refl; write_longitude = refl; sheet_worked = refl; sheet_refused = refl; line_answered = refl; waypoint_written = refl }
