-- There and back: a sheet as it is made is read as what it was made of, and what is read was so made. Assumes nothing.
use mathlib.Core.Path.{◌≡◌, refl, sym, ap, ◌∙◌, subst}
use mathlib.Core.Bool.{Bool, true, not, ◌&&◌}
use mathlib.Core.List.{List, [], ◌∷◌, ◌++◌, map, flat_map, append_assoc}
use Prim.Native.Nat.{ℕ, zero, suc, ◌+◌, ◌*◌, ◌<◌, ◌≤◌}
use native.Mathlib.Omega.{arith}
use lib.Dec.{eqb, leb, ltb}
use lib.IntN.{ℤ, pos}
use lib.ListN.{length, take, drop, length-append, length-drop, length-map, take-append-drop}
use lib.Seq.{length-take-le, take-append_seam, drop-append_seam, take_at, drop_at, take_all, take-add, drop-drop}
use borrow.Author.Tests.{ltb-true, leb-true, eqb-true, eqb-false, not-true, lt-ltb, le-leb, eq-eqb, ne_eqb}
use mir.Syntax.{w32}
use mir.Val.{SFits}
use Rattle.whole.proofs.Bools.{both, joined}
use Rattle.whole.proofs.Every.{every_cut, every_weaker}
use Rattle.whole.specs.Every.{every}
use Rattle.whole.specs.Places.{in_places}
use Rattle.kinds.specs.Answer.{gives, AllHold}
use Rattle.kinds.specs.Bytes.{part}
use Rattle.kinds.specs.Kinds.{is_four_bytes}
use Rattle.kinds.proofs.Answers.{all_held, held, same_value}
use Rattle.kinds.proofs.Bytes.{length_part}
use Rattle.kinds.proofs.Tested.{of_four_bytes, in_four_bytes}
use Rattle.numbers.specs.Numbers.{are_bytes, number, in_bytes, signed}
use Rattle.layout.specs.Sheet.{Point, Sheet, serial, datums, codes, count, body, point, pieces, points, is_unit, rise, is_listed, tests, said, sheet_of}
use Rattle.layout.specs.Form.{point_bytes, sheet_bytes, is_point, is_sheet}
use Rattle.numbers.proofs.Numbers.{number_back, part_back, part_below, value_back, complement_back, signed_fits}
use Rattle.layout.proofs.Codes.{listed_six}
use Rattle.layout.proofs.Reading.{is_unit_lem}

-- ---- lists
flat_long : {A B : Type 0} (f : A → List B) (w : ℕ) → ((x : A) → length (f x) ≡ w) → (l : List A) → length (flat_map f l) ≡ length l * w
unfolding flat_map
flat_long f w h [] = omega arith
flat_long f w h (x ∷ l) = omega (arith, length-append (f x) (flat_map f l), h x, flat_long f w h l)

-- ---- so many points as the sheet counts
pub pieces_counted : (n width : ℕ) (bytes : List ℕ) → length (pieces n width bytes) ≡ n
unfolding pieces
pieces_counted zero width bytes = refl
pieces_counted (suc n) width bytes = ap suc (pieces_counted n width (drop width bytes))

pub points_counted : (t : List ℕ) → length (points t) ≡ count t
unfolding points
points_counted t = length-map (pieces (count t) 9 (body t)) point ∙ pieces_counted (count t) 9 (body t)

-- ---- points as they are made
point_long : (p : Point) → length (point_bytes p) ≡ 9
unfolding point_bytes in_bytes in_places
point_long p = refl

point_has : (listed : List ℕ) (p : Point) → is_point listed p ≡ true → (is_listed listed p.code ≡ true) × SFits w32 p.latitude × (p.longitude < 4294967296)
point_has listed p h =
    let a = both (is_listed listed p.code && is_four_bytes p.latitude) (ltb p.longitude 4294967296) h in
    let b = both (is_listed listed p.code) (is_four_bytes p.latitude) a.0 in
    (b.0, of_four_bytes p.latitude b.1, ltb-true p.longitude 4294967296 a.1)

module _ (listed : List ℕ) (risen : rise 0 listed ≡ true) where
  point_made : (p : Point) → is_point listed p ≡ true → point (point_bytes p) ≡ p
  unfolding point point_bytes in_bytes in_places
  point_made p h =
      let (is, fits, below) = point_has listed p h in
      let code_is = number_back 1 p.code (omega (arith, (listed_six 0 listed risen p.code is).1)) in
      λ i. record { code = code_is i; latitude = value_back p.latitude fits i; longitude = number_back 4 p.longitude below i }

  points_made : (ps : List Point) → every (λ p. is_point listed p) ps ≡ true → map point (pieces (length ps) 9 (flat_map point_bytes ps)) ≡ ps
  unfolding pieces flat_map
  points_made [] h = refl
  points_made (p ∷ ps) h =
      let a = both (is_point listed p) (every (λ p. is_point listed p) ps) h in
      let rest = flat_map point_bytes ps in
      simp (take_at (point_bytes p) rest 9 (point_long p), drop_at (point_bytes p) rest 9 (point_long p), point_made p a.0, points_made ps a.1)

-- ---- a sheet as it is made
record Right (sheet : Sheet) : Type 0 where
  some : 0 < sheet.serial
  fits : sheet.serial < 4294967296
  few : length sheet.codes ≤ 6
  risen : rise 0 sheet.codes ≡ true
  most : length sheet.points ≤ 500
  all : every (λ p. is_point sheet.codes p) sheet.points ≡ true

right : (sheet : Sheet) → is_sheet sheet ≡ true → Right sheet
right sheet h =
    let two : Bool = ltb 0 sheet.serial && ltb sheet.serial 4294967296 in
    let three : Bool = two && leb (length sheet.codes) 6 in
    let four : Bool = three && rise 0 sheet.codes in
    let a = both (four && leb (length sheet.points) 500) (every (λ p. is_point sheet.codes p) sheet.points) h in
    let b = both four (leb (length sheet.points) 500) a.0 in
    let c = both three (rise 0 sheet.codes) b.0 in
    let d = both two (leb (length sheet.codes) 6) c.0 in
    let e = both (ltb 0 sheet.serial) (ltb sheet.serial 4294967296) d.0 in
    record { some = ltb-true 0 sheet.serial e.0; fits = ltb-true sheet.serial 4294967296 e.1; few = leb-true (length sheet.codes) 6 d.1; risen = c.1; most = leb-true (length sheet.points) 500 b.1; all = a.1 }

module _ (sheet : Sheet) (r : Right sheet) where
  abbrev t : List ℕ
  t = sheet_bytes sheet

  abbrev d : ℕ
  d = length sheet.codes

  abbrev n : ℕ
  n = length sheet.points

  abbrev ps : List ℕ
  ps = flat_map point_bytes sheet.points

  made_long : length t ≡ 7 + d + n * 9
  unfolding sheet_bytes in_bytes in_places
  made_long = omega (arith, length-append (sheet.codes ++ in_bytes 2 n) ps, length-append sheet.codes (in_bytes 2 n), flat_long point_bytes 9 point_long sheet.points)

  from_codes : drop 5 t ≡ sheet.codes ++ (in_bytes 2 n ++ ps)
  unfolding sheet_bytes in_bytes in_places
  from_codes = append_assoc sheet.codes (in_bytes 2 n) ps

  from_count : drop (5 + d) t ≡ in_bytes 2 n ++ ps
  from_count = sym (drop-drop d 5 t) ∙ ap (drop d) from_codes ∙ drop-append_seam sheet.codes (in_bytes 2 n ++ ps)

  from_points : drop (7 + d) t ≡ ps
  unfolding in_bytes in_places
  from_points =
      let e : 7 + d ≡ 5 + d + 2 = omega arith in
      rw (e, ← drop-drop 2 (5 + d) t, from_count)

  serial_is : serial t ≡ sheet.serial
  unfolding serial sheet_bytes in_bytes in_places
  serial_is = number_back 4 sheet.serial r.fits

  datums_is : datums t ≡ d
  unfolding datums sheet_bytes in_bytes in_places
  datums_is = number_back 1 d (omega arith)

  codes_are : codes t ≡ sheet.codes
  unfolding codes
  codes_are = (λ i. take (datums_is i) (from_codes i)) ∙ take-append_seam sheet.codes (in_bytes 2 n ++ ps)

  count_is : count t ≡ n
  unfolding count in_bytes in_places
  count_is = simp (datums_is, from_count) (number_back 2 n (omega arith))

  points_are : points t ≡ sheet.points
  unfolding points body
  points_are = simp (count_is, datums_is, from_points) (points_made sheet.codes r.risen sheet.points r.all)

  all_hold : AllHold (tests (pos sheet.serial) t)
  unfolding is_unit
  all_hold =
      let long = made_long in
      let has : (k : ℕ) → k ≤ length t → leb k (length t) ≡ true = λ k. le-leb k (length t) in
      let some = ap not (ne_eqb sheet.serial 0 (λ e. omega arith)) in
      let own = eq-eqb sheet.serial sheet.serial refl in
      let all = eq-eqb (length t) (7 + d + n * 9) long in
      let listed = every_weaker (λ p. is_point sheet.codes p) (λ p. is_listed sheet.codes p.code) (λ p h. (point_has sheet.codes p h).0) sheet.points r.all in
      simp (serial_is, datums_is, codes_are, count_is, points_are)
      (has 4 (omega arith), (some, (own, (has 5 (omega arith), (le-leb d 6 r.few, (has (5 + d) (omega arith), (r.risen, (has (7 + d) (omega arith), (le-leb n 500 r.most, (all, (listed, tt)))))))))))

-- a sheet as it is made is read as what it was made of, by its own unit
pub made_reads : (sheet : Sheet) → is_sheet sheet ≡ true → sheet_of (pos sheet.serial) (sheet_bytes sheet) ≡ gives sheet
made_reads sheet h =
    let r = right sheet h in
    held (tests (pos sheet.serial) (sheet_bytes sheet)) (gives (said (sheet_bytes sheet))) (all_hold sheet r)
    ∙ (λ i. gives (record { serial = serial_is sheet r i; codes = codes_are sheet r i; points = points_are sheet r i }))

-- ---- points that are read
module _ (t : List ℕ) (long : length t ≡ 9) (bytes : are_bytes t ≡ true) where
  latitude_below : number (part 1 4 t) < 4294967296
  latitude_below = part_below 1 4 t (omega arith) bytes

  point_back : point_bytes (point t) ≡ t
  unfolding point point_bytes
  point_back =
      simp (complement_back (number (part 1 4 t)) latitude_below, part_back 0 1 t (omega arith) bytes, part_back 1 4 t (omega arith) bytes, part_back 5 4 t (omega arith) bytes)
      (rw (← take-add 1 4 t, ← take-add 5 4 t) (take_all 9 t (omega arith)))

  point_right : (listed : List ℕ) → is_listed listed (point t).code ≡ true → is_point listed (point t) ≡ true
  unfolding point
  point_right listed h =
      joined (joined h (in_four_bytes (signed (number (part 1 4 t))) (signed_fits (number (part 1 4 t)) latitude_below)))
      (lt-ltb (number (part 5 4 t)) 4294967296 (part_below 5 4 t (omega arith) bytes))

points_back : (listed : List ℕ) (n : ℕ) (t : List ℕ) → length t ≡ n * 9 → are_bytes t ≡ true → every (λ p. is_listed listed p.code) (map point (pieces n 9 t)) ≡ true
    → (every (λ p. is_point listed p) (map point (pieces n 9 t)) ≡ true) × (flat_map point_bytes (map point (pieces n 9 t)) ≡ t)
unfolding pieces flat_map
points_back listed zero [] long bytes h = (refl, refl)
points_back listed zero (b ∷ t) long bytes h = absurd (omega arith)
points_back listed (suc n) t long bytes h =
    let first = take 9 t in
    let nine = length-take-le 9 t (omega arith) in
    let are = every_cut (λ byte. ltb byte 256) 9 t bytes in
    let a = both (is_listed listed (point first).code) (every (λ p. is_listed listed p.code) (map point (pieces n 9 (drop 9 t)))) h in
    let rest = points_back listed n (drop 9 t) (omega (arith, length-drop 9 t)) are.1 a.1 in
    (joined (point_right first nine are.0 listed a.0) rest.0, (λ i. point_back first nine are.0 i ++ rest.1 i) ∙ take-append-drop 9 t)

-- ---- a sheet that is read
-- its parts, joined
rejoined : (d : ℕ) (t : List ℕ) → part 0 4 t ++ part 4 1 t ++ part 5 d t ++ part (5 + d) 2 t ++ drop (7 + d) t ≡ t
rejoined d t =
    let e : 5 + d + 2 ≡ 7 + d = omega arith in
    rw (← take-add 4 1 t, ← take-add 5 d t, ← take-add (5 + d) 2 t, e) (take-append-drop (7 + d) t)

-- what passed the tests
said_made : (unit : ℤ) (t : List ℕ) → are_bytes t ≡ true → AllHold (tests unit t) → (unit ≡ pos (serial t)) × ((is_sheet (said t) ≡ true) × (sheet_bytes (said t) ≡ t))
unfolding serial datums codes count body points sheet_bytes
said_made unit t bytes h =
    let (_, (some, (own, (_, (few, (_, (risen, (_, (most, (all, (listed, _))))))))))) = h in
    let long = eqb-true (length t) (7 + datums t + count t * 9) all in
    let above = eqb-false (serial t) 0 (not-true (eqb (serial t) 0) some) in
    let below = part_below 0 4 t (omega arith) bytes in
    let d : length (codes t) ≡ datums t = length_part 5 (datums t) t (omega arith) in
    let ps = points_back (codes t) (count t) (body t) (omega (arith, length-drop (7 + datums t) t)) (every_cut (λ byte. ltb byte 256) (7 + datums t) t bytes).1 listed in
    let is-sheet : is_sheet (said t) ≡ true = joined (joined (joined (joined (joined (lt-ltb 0 (serial t) (omega arith)) (lt-ltb (serial t) 4294967296 below)) (rw d few)) risen) (rw points_counted most)) ps.0 in
    let serial-back = part_back 0 4 t (omega arith) bytes in
    let datums-back = ap (in_bytes 1) d ∙ part_back 4 1 t (omega arith) bytes in
    let count-back = ap (in_bytes 2) (points_counted t) ∙ part_back (5 + datums t) 2 t (omega arith) bytes in
    (is_unit_lem unit (serial t) own, (is-sheet, (λ i. serial-back i ++ datums-back i ++ codes t ++ count-back i ++ ps.1 i) ∙ rejoined (datums t) t))

-- and what is read was so made, of what a sheet may have, for the unit that reads it
pub reads_made : (unit : ℤ) (bytes : List ℕ) (sheet : Sheet) → are_bytes bytes ≡ true → sheet_of unit bytes ≡ gives sheet
    → (unit ≡ pos sheet.serial) × ((is_sheet sheet ≡ true) × (sheet_bytes sheet ≡ bytes))
reads_made unit bytes sheet are h =
    let a = all_held (tests unit bytes) (gives (said bytes)) h in
    subst (λ (s : Sheet). (unit ≡ pos s.serial) × ((is_sheet s ≡ true) × (sheet_bytes s ≡ bytes))) (same_value a.1) (said_made unit bytes are a.0)
