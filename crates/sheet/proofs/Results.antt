-- A result that grows by a record at its end. Assumes nothing.
use mathlib.Core.Path.{◌≡◌, refl, sym, ap, ◌∙◌}
use mathlib.Core.List.{List, [], ◌∷◌, ◌++◌, flat_map, append-nil, append_assoc}
use Prim.Native.Nat.{ℕ, ◌+◌, ◌-◌, ◌*◌, ◌<◌, ◌≤◌}
use native.Mathlib.Numerals.{add-one}
use native.Mathlib.Omega.{arith}
use lib.ListN.{length, get_or, take, drop, length-append, length-drop}
use lib.Seq.{take-suc, length-take-le}
use borrow.Rule.Slice.PartMut.{put_mid}
use Rattle.whole.specs.Places.{in_places}
use Rattle.kinds.proofs.Writing.{grown, grown_by}
use Rattle.numbers.specs.Numbers.{in_bytes}
use Rattle.sheet.specs.Result.{in_record}
use Rattle.sheet.specs.Inside.{point_record, records}

-- ---- how long
pub point_record_long : (t : List ℕ) → length (point_record t) ≡ 13
unfolding point_record in_record in_bytes flat_map in_places
point_record_long t = refl

pub records_long : (points : List (List ℕ)) → length (records points) ≡ length points * 13
unfolding records flat_map
records_long [] = refl
records_long (p ∷ points) = omega (arith, length-append (point_record p) (records points), point_record_long p, records_long points)

-- ---- one more
records_more : (points more : List (List ℕ)) → records (points ++ more) ≡ records points ++ records more
unfolding records flat_map
records_more [] more = refl
records_more (p ∷ points) more = ap (λ (l : List ℕ). point_record p ++ l) (records_more points more) ∙ sym (append_assoc (point_record p) (records points) (records more))

records_one : (p : List ℕ) → records (p ∷ []) ≡ point_record p
unfolding records flat_map
records_one p = append-nil (point_record p)

records_last : (points : List (List ℕ)) (i : ℕ) → i < length points → records (take (i + 1) points) ≡ records (take i points) ++ point_record (get_or points i [])
records_last points i h =
    ap records (ap (λ (n : ℕ). take n points) (add-one i) ∙ take-suc points i [] h) ∙ records_more (take i points) (get_or points i [] ∷ [])
    ∙ ap (λ (l : List ℕ). records (take i points) ++ l) (records_one (get_or points i []))

-- what a copy of a text leaves, by how many bytes it says
pub copied : (text old : List ℕ) {new : List ℕ} {r : ℕ} → r ≡ length text → new ≡ text ++ drop r old → new ≡ text ++ drop (length text) old
copied text old long e = e ∙ ap (λ (n : ℕ). text ++ drop n old) long

-- a turn: d is the buffer at its start, d0 as it came; line is the record of the point at i
module _ (points : List (List ℕ)) (d0 : List ℕ) (i : ℕ) (more : i < length points) where
  first_long : length (records (take i points)) ≡ i * 13
  first_long = records_long (take i points) ∙ ap (λ (n : ℕ). n * 13) (length-take-le i points (omega (arith, more)))

  pub turn : (d line new : List ℕ) → d ≡ records (take i points) ++ drop (i * 13) d0 → line ≡ point_record (get_or points i [])
      → new ≡ line ++ drop (length line) (take (length d - i * 13) (drop (i * 13) d))
      → put_mid (i * 13) (length d - i * 13) d new ≡ records (take (i + 1) points) ++ drop ((i + 1) * 13) d0
  turn d line new is-d is-line is-new =
      let k : i * 13 + length line ≡ (i + 1) * 13 = omega (arith, ap length is-line, point_record_long (get_or points i [])) in
      grown_by (records (take i points)) d0 is-d (sym first_long) line new (length line) is-new
      ∙ (λ j. (ap (λ (l : List ℕ). records (take i points) ++ l) is-line ∙ sym (records_last points i more)) j ++ drop (k j) d0)

  pub turn_long : length points * 13 ≤ length d0 → length (records (take (i + 1) points) ++ drop ((i + 1) * 13) d0) ≡ length d0
  turn_long room =
      omega (
        arith,
        more,
        room,
        length-append (records (take (i + 1) points)) (drop ((i + 1) * 13) d0),
        records_long (take (i + 1) points),
        length-take-le (i + 1) points (omega (arith, more)),
        length-drop ((i + 1) * 13) d0,
      )

pub no_records : records [] ≡ []
unfolding records flat_map
no_records = refl

-- ---- the start of a result, and its records
module _ (serial count : List ℕ) (four : length serial ≡ 4) (two : length count ≡ 2) where
  start_long : length (serial ++ count) ≡ 6
  start_long = omega (arith, length-append serial count, four, two)

  -- d0 is the buffer as it came, d and e with the serial and with the count in it
  pub put_is : (points : List (List ℕ)) (d0 : List ℕ) {d counted e new : List ℕ} → d ≡ serial ++ drop (length serial) d0
      → counted ≡ count ++ drop (length count) (take (length d - 4) (drop 4 d)) → e ≡ put_mid 4 (length d - 4) d counted
      → new ≡ records points ++ drop (length points * 13) (take (length e - 6) (drop 6 e))
      → put_mid 6 (length e - 6) e new ≡ serial ++ count ++ records points ++ drop (6 + length points * 13) d0
  put_is points d0 {d} {counted} {e} {new} is-d is-counted is-e is-new =
      let first : d ≡ serial ++ drop 4 d0 = is-d ∙ (λ i. serial ++ drop (four i) d0) in
      let second : e ≡ serial ++ count ++ drop 6 d0 = is-e ∙ rw (is-counted, two, first) (grown serial d0 count 4 2 four) in
      rw (is-new, second) (grown (serial ++ count) d0 (records points) 6 (length points * 13) start_long)
