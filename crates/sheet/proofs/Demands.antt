-- What document 01 asks of the unit sheet and its result. Stated over specs/ alone. Assumes nothing.
use mathlib.Core.Path.{◌≡◌, refl, sym, ap, ◌∙◌}
use mathlib.Core.Bool.{true, false, false≢true}
use mathlib.Core.List.{List, [], ◌∷◌, flat_map}
use mathlib.Core.Logic.{◌↔◌, ◌⊎◌, inl, inr, ⊎_elim}
use Prim.Native.Nat.{ℕ, ◌+◌, ◌*◌, ◌<◌, ◌≤◌}
use native.Mathlib.Omega.{arith}
use lib.IntN.{ℤ, pos, neg_ℤ}
use lib.ListN.{length, replicate}
use borrow.Author.Tests.{leb-true, le-leb}
use Rattle.whole.specs.Places.{from_places, in_places}
use Rattle.kinds.specs.Answer.{Answer, gives, refused, AllHold, FirstFails, following, refusal_of, placed, counted, lent}
use Rattle.kinds.specs.Kinds.{within, is_position}
use Rattle.kinds.specs.Bytes.{part}
use Rattle.kinds.proofs.Demands.{by_number}
use Rattle.kinds.proofs.Answers.{told}
use Rattle.tables.specs.Page.{Family, shift, geoid, is_either}
use Rattle.tables.specs.Rule.{in_area}
use Rattle.tables.specs.Rule as rule
use Rattle.datum.specs.Point.{is_code, page_of, values_of}
use Rattle.datum.specs.Exact.{exact, AllWithin, demanded}
use Rattle.datum.proofs.Demands as datum
use Rattle.numbers.specs.Numbers.{are_bytes, number, in_bytes, complement}
use Rattle.numbers.proofs.Demands as numbers
use Rattle.layout.specs.Sheet.{Sheet, serial, datums, codes, count, body, point, points, pieces, is_unit, rise, is_listed, tests, said}
use Rattle.layout.specs.Form.{sheet_bytes, is_sheet}
use Rattle.layout.proofs.Demands as reading
use Rattle.layout.proofs.Reading.{serial_bytes}
use Rattle.sheet.specs.Result.{in_record, answer_at, result_of, work_of}
use Rattle.sheet.specs.Places.{point_at, record_at, record_refusal, record_numbers}
use Rattle.sheet.proofs.Calls.{result_long, not_read, work_read}
use Rattle.sheet.proofs.Works as works
use Rattle.sheet.proofs.Places as places
-- ---- of numbers and of the form of a sheet, in the crates below
pub use Rattle.numbers.proofs.Demands.{number_back, bytes_back, signed_back, complement_back}
pub use Rattle.layout.proofs.Demands.{made_reads, reads_made, codes_rise, listed_where}

-- ---- '13 bytes a point': the records of code 1's centre, of code 6's, and of a point outside its area
pub record Examples : Type 0 where
  pub shifts : in_record (gives (shift (neg_ℤ (pos 384288)) (neg_ℤ (pos 110294)) (pos 24430))) ≡ 0 ∷ 255 ∷ 250 ∷ 34 ∷ 224 ∷ 255 ∷ 254 ∷ 81 ∷ 42 ∷ 0 ∷ 0 ∷ 95 ∷ 110 ∷ []
  pub height : in_record (gives (geoid (pos 7464))) ≡ 0 ∷ 0 ∷ 0 ∷ 29 ∷ 40 ∷ 0 ∷ 0 ∷ 0 ∷ 0 ∷ 0 ∷ 0 ∷ 0 ∷ 0 ∷ []
  pub refusal : in_record (refused 6) ≡ 6 ∷ replicate 12 0

pub examples : Examples
unfolding in_bytes in_places complement in_record flat_map
examples = record { shifts = refl; height = refl; refusal = refl }

-- ---- 'A sheet is: serial, 4 bytes, not zero; a count of datums ..': a sheet as it is made, from its parts
-- by its own unit it is worked where there is room, and its points' answers are the result
pub made_works : (sheet : Sheet) (room : ℕ) → is_sheet sheet ≡ true → length (result_of sheet) ≤ room → work_of (pos sheet.serial) (sheet_bytes sheet) room ≡ gives (result_of sheet)
made_works sheet room h enough =
    ap (λ (answer : Answer Sheet). following answer (λ said. placed (result_of said) room)) (reading.made_reads sheet h)
    ∙ simp (le-leb (length (result_of sheet)) room enough)

-- ---- 'For a sheet, in the order of its bytes: .. then buffer 7'
module _ (unit : ℤ) (bytes : List ℕ) (room : ℕ) where
  -- a sheet is worked exactly where every test holds and there is room, and the result is that of what it says
  pub worked_where : (result : List ℕ) → (work_of unit bytes room ≡ gives result) ↔ (AllHold (tests unit bytes) × ((6 + count bytes * 13 ≤ room) × (result_of (said bytes) ≡ result)))
  worked_where result = works.worked_where unit bytes room result

  -- and is refused exactly with the number of the first test that does not hold, or with 7 where there is no room
  pub refused_where : (n : ℕ) → (work_of unit bytes room ≡ refused n) ↔ (FirstFails (tests unit bytes) n ⊎ (AllHold (tests unit bytes) × ((room < 6 + count bytes * 13) × (n ≡ 7))))
  refused_where n = works.refused_where unit bytes room n

  -- 'the sheet's serial is not zero and not the unit's'
  pub given_8 : (work_of unit bytes room ≡ refused 8) ↔ ((4 ≤ length bytes) × ((serial bytes ≡ 0 → ⊥) × (unit ≡ pos (serial bytes) → ⊥)))
  given_8 = works.given_8 unit bytes room

  -- 'the lent buffer is too short'
  pub given_7 : (work_of unit bytes room ≡ refused 7) ↔ (AllHold (tests unit bytes) × (room < 6 + count bytes * 13))
  given_7 = works.given_7 unit bytes room

  -- no other numbers are given
  pub given_one_of : (n : ℕ) → work_of unit bytes room ≡ refused n → (n ≡ 1) ⊎ ((n ≡ 9) ⊎ ((n ≡ 8) ⊎ (n ≡ 7)))
  given_one_of n h = works.given_one_of unit bytes room n h

-- a sheet whose serial is zero gives 9 to every unit, to one whose number is zero too
pub zero_serial : (unit : ℤ) (bytes : List ℕ) (room : ℕ) → 4 ≤ length bytes → serial bytes ≡ 0 → work_of unit bytes room ≡ refused 9
zero_serial unit bytes room long none = not_read unit bytes room (reading.zero_serial unit bytes long none)

-- where two are due, the first in the order of the bytes; with them units 0 and -1, and then a code listed twice, a byte that
-- follows, a lent buffer too short; and accepted, with no points, a sheet of all six codes and one of 7 bytes, with no datums
pub record Orders : Type 0 where
  pub cut_and_zero : work_of (pos 1) (0 ∷ 0 ∷ 0 ∷ []) 0 ≡ refused 1
  pub zero_and_foreign : work_of (pos 1) (0 ∷ 0 ∷ 0 ∷ 0 ∷ []) 0 ≡ refused 9
  pub zero_for_unit_zero : work_of (pos 0) (0 ∷ 0 ∷ 0 ∷ 0 ∷ 0 ∷ 0 ∷ 0 ∷ []) 6 ≡ refused 9
  pub unit_below_zero : work_of (neg_ℤ (pos 1)) (255 ∷ 255 ∷ 255 ∷ 255 ∷ 0 ∷ 0 ∷ 0 ∷ []) 6 ≡ refused 8
  pub foreign_and_cut : work_of (pos 1) (0 ∷ 0 ∷ 0 ∷ 2 ∷ []) 0 ≡ refused 8
  pub over_and_cut : work_of (pos 1) (0 ∷ 0 ∷ 0 ∷ 1 ∷ 7 ∷ []) 0 ≡ refused 9
  pub cut_and_wrong : work_of (pos 1) (0 ∷ 0 ∷ 0 ∷ 1 ∷ 2 ∷ 7 ∷ []) 0 ≡ refused 1
  pub wrong_and_cut : work_of (pos 1) (0 ∷ 0 ∷ 0 ∷ 1 ∷ 1 ∷ 7 ∷ 1 ∷ []) 0 ≡ refused 9
  pub over_and_length : work_of (pos 1) (0 ∷ 0 ∷ 0 ∷ 1 ∷ 0 ∷ 1 ∷ 245 ∷ []) 0 ≡ refused 9
  pub length_and_unlisted : work_of (pos 1) (0 ∷ 0 ∷ 0 ∷ 1 ∷ 0 ∷ 0 ∷ 1 ∷ 1 ∷ []) 0 ≡ refused 1
  pub unlisted_and_room : work_of (pos 1) (0 ∷ 0 ∷ 0 ∷ 1 ∷ 0 ∷ 0 ∷ 1 ∷ 1 ∷ 0 ∷ 0 ∷ 0 ∷ 0 ∷ 0 ∷ 0 ∷ 0 ∷ 0 ∷ []) 0 ≡ refused 9
  pub repeated : work_of (pos 1) (0 ∷ 0 ∷ 0 ∷ 1 ∷ 2 ∷ 3 ∷ 3 ∷ 0 ∷ 0 ∷ []) 6 ≡ refused 9
  pub followed : work_of (pos 1) (0 ∷ 0 ∷ 0 ∷ 1 ∷ 0 ∷ 0 ∷ 0 ∷ 0 ∷ []) 6 ≡ refused 1
  pub room : work_of (pos 1) (0 ∷ 0 ∷ 0 ∷ 1 ∷ 0 ∷ 0 ∷ 0 ∷ []) 5 ≡ refused 7
  pub six_listed : work_of (pos 1) (0 ∷ 0 ∷ 0 ∷ 1 ∷ 6 ∷ 1 ∷ 2 ∷ 3 ∷ 4 ∷ 5 ∷ 6 ∷ 0 ∷ 0 ∷ []) 6 ≡ gives (0 ∷ 0 ∷ 0 ∷ 1 ∷ 0 ∷ 0 ∷ [])
  pub accepted : work_of (pos 1) (0 ∷ 0 ∷ 0 ∷ 1 ∷ 0 ∷ 0 ∷ 0 ∷ []) 6 ≡ gives (0 ∷ 0 ∷ 0 ∷ 1 ∷ 0 ∷ 0 ∷ [])

pub orders : Orders
unfolding number in_bytes from_places in_places serial datums codes count body point points pieces is_unit rise is_listed result_of flat_map
orders = record {
  cut_and_zero = not_read _ _ 0 (reading.orders).cut_and_zero;
  zero_and_foreign = not_read _ _ 0 (reading.orders).zero_and_foreign;
  zero_for_unit_zero = not_read _ _ 6 (reading.orders).zero_for_unit_zero;
  unit_below_zero = not_read _ _ 6 (reading.orders).unit_below_zero;
  foreign_and_cut = not_read _ _ 0 (reading.orders).foreign_and_cut;
  over_and_cut = not_read _ _ 0 (reading.orders).over_and_cut;
  cut_and_wrong = not_read _ _ 0 (reading.orders).cut_and_wrong;
  wrong_and_cut = not_read _ _ 0 (reading.orders).wrong_and_cut;
  over_and_length = not_read _ _ 0 (reading.orders).over_and_length;
  length_and_unlisted = not_read _ _ 0 (reading.orders).length_and_unlisted;
  unlisted_and_room = refl;
  repeated = not_read _ _ 6 (reading.orders).repeated;
  followed = not_read _ _ 6 (reading.orders).followed;
  room = refl;
  six_listed = refl;
  accepted = refl;
}

-- ---- 'a sheet with another unit's serial is refused as such'
-- it gives 8, and no byte of the lent buffer has changed
pub foreign : (unit : ℤ) (bytes out : List ℕ) → 4 ≤ length bytes → (serial bytes ≡ 0 → ⊥) → (unit ≡ pos (serial bytes) → ⊥)
    → (counted (work_of unit bytes (length out)) ≡ refused 8) × (lent (work_of unit bytes (length out)) out ≡ out)
foreign unit bytes out long some other =
    let h : work_of unit bytes (length out) ≡ refused 8 = (given_8 unit bytes (length out)).1 (long, (some, other)) in
    (ap counted h, ap (λ (w : Answer (List ℕ)). lent w out) h)

-- what is worked is the unit's own, and has a serial
pub own : (unit : ℤ) (bytes : List ℕ) (room : ℕ) {result : List ℕ} → work_of unit bytes room ≡ gives result → (unit ≡ pos (serial bytes)) × (serial bytes ≡ 0 → ⊥)
own unit bytes room h = reading.own unit bytes (work_read unit bytes room h)

-- a unit whose number is no serial has no sheet: one with a serial gives it 8
pub no_serial : (unit : ℤ) (bytes : List ℕ) (room : ℕ) → within (pos 1) (pos 4294967295) unit ≡ false → are_bytes bytes ≡ true
    → 4 ≤ length bytes → (serial bytes ≡ 0 → ⊥) → work_of unit bytes room ≡ refused 8
no_serial unit bytes room other bytes-are long some = not_read unit bytes room (reading.no_serial unit bytes other bytes-are long some)

-- ---- 'The call says how many bytes it wrote: 6 + 13 times the count'
module _ (unit : ℤ) (bytes : List ℕ) (room : ℕ) {result : List ℕ} (h : work_of unit bytes room ≡ gives result) where
  is_result : result_of (said bytes) ≡ result
  is_result = ((worked_where unit bytes room result).0 h).1.1

  pub bytes_written : length result ≡ 6 + count bytes * 13
  bytes_written = sym (ap length is_result) ∙ result_long bytes

  -- ---- 'serial, 4; the same count of points, 2'
  pub same_serial : are_bytes bytes ≡ true → part 0 4 result ≡ part 0 4 bytes
  same_serial bytes-are =
      let long : 4 ≤ length bytes = leb-true 4 (length bytes) ((worked_where unit bytes room result).0 h).0.0 in
      sym (ap (part 0 4) is_result) ∙ places.serial_at bytes ∙ serial_bytes bytes bytes-are long

  pub same_count : number (part 4 2 result) ≡ count bytes
  same_count =
      let (_, (_, (_, (_, (_, (_, (_, (_, (most, _))))))))) = ((worked_where unit bytes room result).0 h).0 in
      let few : count bytes ≤ 500 = leb-true (count bytes) 500 most in
      sym (ap (λ (r : List ℕ). number (part 4 2 r)) is_result) ∙ ap number (places.count_at bytes) ∙ numbers.number_back 2 (count bytes) (omega arith)

  -- ---- 'then 13 bytes a point': at each place, the answer for the point at that place of the sheet
  module _ (k : ℕ) (place : k < count bytes) where
    abbrev code : ℕ
    code = (point_at k bytes).code

    abbrev latitude : ℤ
    latitude = (point_at k bytes).latitude

    abbrev longitude : ℤ
    longitude = pos (point_at k bytes).longitude

    pub record_at_lem : record_at k result ≡ in_record (answer_at (point_at k bytes))
    record_at_lem = sym (ap (record_at k) is_result) ∙ places.record_at_lem bytes k place

    pub refusal_at : record_refusal (record_at k result) ≡ refusal_of (answer_at (point_at k bytes))
    refusal_at = ap record_refusal record_at_lem ∙ (places.point_says (point_at k bytes)).0

    pub numbers_at : record_numbers (record_at k result) ≡ values_of (pos 0) (answer_at (point_at k bytes))
    numbers_at = ap record_numbers record_at_lem ∙ (places.point_says (point_at k bytes)).1

    code_is : is_code (pos code) ≡ true
    code_is =
        let (_, (_, (_, (_, (_, (_, (right, (_, (_, (_, (all, _))))))))))) = ((worked_where unit bytes room result).0 h).0 in
        places.code_at bytes right all k place

    -- demand 2: the first byte is 3 exactly where the point is out of range, 6 exactly where it is in range and outside its
    -- area, and otherwise 0, and the numbers are those that the printed coefficients give under the working rule
    pub given_3_at : (record_refusal (record_at k result) ≡ 3) ↔ (is_position latitude longitude ≡ false)
    given_3_at = (
      (λ e. ((datum.given_3 is_either (pos code) latitude longitude).0 ((by_number (answer_at (point_at k bytes)) 3 (omega arith)).1 (sym refusal_at ∙ e))).1.1),
      (λ e. refusal_at ∙ ap refusal_of ((datum.given_3 is_either (pos code) latitude longitude).1 (code_is, (refl, e)))),
    )

    pub given_6_at : (record_refusal (record_at k result) ≡ 6) ↔ ((is_position latitude longitude ≡ true) × (in_area (page_of (pos code)) latitude longitude ≡ false))
    given_6_at = (
      (λ e. ((datum.given_6 is_either (pos code) latitude longitude).0 ((by_number (answer_at (point_at k bytes)) 6 (omega arith)).1 (sym refusal_at ∙ e))).1.1),
      (λ e. refusal_at ∙ ap refusal_of ((datum.given_6 is_either (pos code) latitude longitude).1 (code_is, (refl, e)))),
    )

    pub worked_at : is_position latitude longitude ≡ true → in_area (page_of (pos code)) latitude longitude ≡ true
        → (record_refusal (record_at k result) ≡ 0) × (record_numbers (record_at k result) ≡ values_of (pos 0) (gives (rule.worked (page_of (pos code)) latitude longitude)))
    worked_at ranged inside =
        let e = (datum.answered is_either (pos code) latitude longitude (rule.worked (page_of (pos code)) latitude longitude)).1 ((code_is, refl), ((ranged, inside), refl)) in
        (refusal_at ∙ ap refusal_of e, numbers_at ∙ ap (values_of (pos 0)) e)

    -- a point refused has its number and twelve zero bytes
    pub refused_at : (n : ℕ) → answer_at (point_at k bytes) ≡ refused n → record_at k result ≡ n ∷ replicate 12 0
    unfolding in_record in_bytes in_places complement flat_map
    refused_at n e = record_at_lem ∙ ap in_record e

    -- 'A point refused with 3 or 6 doesn't refuse the sheet': `made_works` asks nothing of where the points are; and no point
    -- of a sheet that is worked has another number
    pub points_refused : (record_refusal (record_at k result) ≡ 0) ⊎ ((record_refusal (record_at k result) ≡ 3) ⊎ (record_refusal (record_at k result) ≡ 6))
    points_refused = go (answer_at (point_at k bytes)) refl
      where
        go : (a : Answer (Family ℤ)) → answer_at (point_at k bytes) ≡ a → (record_refusal (record_at k result) ≡ 0) ⊎ ((record_refusal (record_at k result) ≡ 3) ⊎ (record_refusal (record_at k result) ≡ 6))
        go (gives values) e = inl (refusal_at ∙ ap refusal_of e)
        go (refused n) e =
            let is-n : record_refusal (record_at k result) ≡ n = refusal_at ∙ ap refusal_of e in
            ⊎_elim (λ four. absurd (false≢true (sym ((datum.given_4 is_either (pos code) latitude longitude).0 (e ∙ ap refused four)) ∙ code_is)))
            (⊎_elim (λ five. absurd (datum.answer_never_5 (pos code) latitude longitude (e ∙ ap refused five)))
            (⊎_elim (λ three. inr (inl (is-n ∙ three))) (λ six. inr (inr (is-n ∙ six)))))
            (datum.given_one_of is_either (pos code) latitude longitude n e)

    -- ---- demand 3: where the record's first byte is 0, its numbers are a shift, within 2, 2 and 1 units of the exact values, or
    -- a geoid height, within 1, and two zeros
    pub near_at : record_refusal (record_at k result) ≡ 0
        → (values : Family ℤ) × ((record_numbers (record_at k result) ≡ values_of (pos 0) (gives values))
        × AllWithin 1 (demanded values) (exact (page_of (pos code)) latitude longitude) values)
    near_at first =
        let (values, e) = told (answer_at (point_at k bytes)) (datum.above_0 is_either (pos code) latitude longitude) (sym refusal_at ∙ first) in
        (values, (numbers_at ∙ ap (values_of (pos 0)) e, datum.as_demanded is_either (pos code) latitude longitude e))
