-- The places of a result: what stands at each, and what is read there. Assumes nothing.
use mathlib.Core.Path.{◌≡◌, refl, sym, ap, ◌∙◌, subst}
use mathlib.Core.Bool.{Bool, true, ◌&&◌}
use mathlib.Core.List.{List, [], ◌∷◌, ◌++◌, map, flat_map}
use Prim.Native.Nat.{ℕ, zero, suc, ◌+◌, ◌*◌, ◌<◌}
use native.Mathlib.Omega.{arith}
use lib.IntN.{ℤ, pos}
use lib.ListN.{length, take, drop}
use lib.Seq.{take_at, drop-drop, drop-append-add}
use borrow.Author.Tests.{le-leb}
use Rattle.whole.specs.Every.{every}
use Rattle.whole.specs.Places.{in_places}
use Rattle.whole.proofs.Bools.{both, joined}
use Rattle.kinds.specs.Answer.{Answer, gives, refused, refusal_of}
use Rattle.kinds.specs.Kinds.{is_four_bytes}
use Rattle.kinds.specs.Bytes.{part}
use Rattle.kinds.proofs.Tested.{of_four_bytes}
use Rattle.tables.specs.Page.{Family, shift, geoid, is_either, each}
use Rattle.datum.specs.Point.{is_code, values_of}
use Rattle.datum.proofs.Demands.{four_bytes}
use Rattle.numbers.specs.Numbers.{in_bytes}
use Rattle.layout.specs.Sheet.{Point, serial, datums, codes, count, body, point, points, pieces, rise, is_listed, said}
use Rattle.sheet.specs.Result.{in_record, answer_at, result_of}
use Rattle.sheet.specs.Places.{point_at, record_at, record_refusal, record_numbers}
use Rattle.sheet.specs.Inside.{record_of, point_record, records}
use Rattle.numbers.proofs.Numbers.{one_read, value_back}
use Rattle.layout.proofs.Codes.{listed_six}
use Rattle.sheet.proofs.Results.{point_record_long}
use Rattle.sheet.proofs.Calls.{result_is}

-- ---- the record at a place
records_at : (n k : ℕ) (body : List ℕ) → k < n → part (k * 13) 13 (records (pieces n 9 body)) ≡ point_record (part (k * 9) 9 body)
unfolding records pieces flat_map
records_at zero k body h = absurd (omega arith)
records_at (suc n) zero body h = take_at (point_record (take 9 body)) (records (pieces n 9 (drop 9 body))) 13 (point_record_long (take 9 body))
records_at (suc n) (suc k) body h =
    let far : suc k * 13 ≡ length (point_record (take 9 body)) + k * 13 = omega (arith, point_record_long (take 9 body)) in
    let near : 9 + k * 9 ≡ suc k * 9 = omega arith in
    ap (λ (m : ℕ). part m 13 (records (pieces (suc n) 9 body))) far
    ∙ ap (take 13) (drop-append-add (point_record (take 9 body)) (records (pieces n 9 (drop 9 body))) (k * 13))
    ∙ records_at n k (drop 9 body) (omega arith)
    ∙ ap (λ (l : List ℕ). point_record (take 9 l)) (drop-drop (k * 9) 9 body ∙ ap (λ (m : ℕ). drop m body) near)

module _ (t : List ℕ) where
  abbrev start : List ℕ
  start = in_bytes 4 (serial t) ++ in_bytes 2 (count t)

  pub record_at_lem : (k : ℕ) → k < count t → record_at k (result_of (said t)) ≡ in_record (answer_at (point_at k t))
  unfolding in_bytes in_places point_record body
  record_at_lem k h =
      ap (record_at k) (sym (result_is t))
      ∙ ap (take 13) (drop-append-add start (records (pieces (count t) 9 (body t))) (k * 13))
      ∙ records_at (count t) k (body t) h
      ∙ ap (λ (l : List ℕ). point_record (take 9 l)) (drop-drop (k * 9) (7 + datums t) t)

  -- and before them the serial and the count
  pub serial_at : part 0 4 (result_of (said t)) ≡ in_bytes 4 (serial t)
  unfolding in_bytes in_places
  serial_at = ap (part 0 4) (sym (result_is t))

  pub count_at : part 4 2 (result_of (said t)) ≡ in_bytes 2 (count t)
  unfolding in_bytes in_places
  count_at = ap (part 4 2) (sym (result_is t))

-- ---- the code of the point at a place
every_at : (test : Point → Bool) (n k : ℕ) (body : List ℕ) → every test (map point (pieces n 9 body)) ≡ true → k < n → test (point (part (k * 9) 9 body)) ≡ true
unfolding pieces
every_at test zero k body h more = absurd (omega arith)
every_at test (suc n) zero body h more = (both (test (point (take 9 body))) (every test (map point (pieces n 9 (drop 9 body)))) h).0
every_at test (suc n) (suc k) body h more =
    let near : 9 + k * 9 ≡ suc k * 9 = omega arith in
    let rest = (both (test (point (take 9 body))) (every test (map point (pieces n 9 (drop 9 body)))) h).1 in
    subst (λ (l : List ℕ). test (point (take 9 l)) ≡ true) (drop-drop (k * 9) 9 body ∙ ap (λ (m : ℕ). drop m body) near) (every_at test n k (drop 9 body) rest (omega arith))

-- in a sheet whose codes rise and are its points' codes, it is a code
pub code_at : (t : List ℕ) → rise 0 (codes t) ≡ true → every (λ p. is_listed (codes t) p.code) (points t) ≡ true → (k : ℕ) → k < count t → is_code (pos (point_at k t).code) ≡ true
unfolding points body
code_at t right all k more =
    let listed = every_at (λ p. is_listed (codes t) p.code) (count t) k (body t) all more in
    let there = ap (λ (l : List ℕ). is_listed (codes t) (point (take 9 l)).code) (drop-drop (k * 9) (7 + datums t) t) in
    let six = listed_six 0 (codes t) right (point_at k t).code (sym there ∙ listed) in
    joined (le-leb 1 (point_at k t).code six.0) (le-leb (point_at k t).code 6 six.1)

-- ---- what is read there
-- of three values that have 4 bytes, beside a number
Says : (n : ℕ) (x y z : ℤ) → is_four_bytes x ≡ true → is_four_bytes y ≡ true → is_four_bytes z ≡ true
    → (record_refusal (record_of n x y z) ≡ n) × (record_numbers (record_of n x y z) ≡ x ∷ y ∷ z ∷ [])
unfolding record_of in_bytes in_places flat_map
Says n x y z f g h = (sym (one_read 0 (record_of n x y z) (omega arith)), (λ i. value_back x (of_four_bytes x f) i ∷ value_back y (of_four_bytes y g) i ∷ value_back z (of_four_bytes z h) i ∷ []))

-- of an answer whose values have 4 bytes
record_says : (answer : Answer (Family ℤ)) → ((values : Family ℤ) → answer ≡ gives values → each is_four_bytes values ≡ true)
    → (record_refusal (in_record answer) ≡ refusal_of answer) × (record_numbers (in_record answer) ≡ values_of (pos 0) answer)
unfolding in_record record_of
record_says (gives (shift a b c)) fits =
    let f = both (is_four_bytes a) (is_four_bytes b && is_four_bytes c) (fits (shift a b c) refl) in
    let g = both (is_four_bytes b) (is_four_bytes c) f.1 in
    Says 0 a b c f.0 g.0 g.1
record_says (gives (geoid n)) fits = Says 0 n (pos 0) (pos 0) (fits (geoid n) refl) refl refl
record_says (refused n) fits = Says n (pos 0) (pos 0) (pos 0) refl refl refl

pub point_says : (p : Point) → (record_refusal (in_record (answer_at p)) ≡ refusal_of (answer_at p)) × (record_numbers (in_record (answer_at p)) ≡ values_of (pos 0) (answer_at p))
point_says p = record_says (answer_at p) (λ values h. four_bytes is_either (pos p.code) p.latitude (pos p.longitude) h)
