-- A line that is made of a digit and a position is read as them, and a line that is read was so made. Assumes nothing.
use mathlib.Core.Path.{◌≡◌, refl, sym, ap, ◌∙◌}
use mathlib.Core.Bool.{true, ◌&&◌}
use mathlib.Core.List.{List, ◌∷◌, ◌++◌}
use Prim.Native.Nat.{ℕ, ◌<◌}
use native.Mathlib.Omega.{arith}
use lib.Dec.{eqb, leb}
use lib.IntN.{ℤ, pos}
use lib.ListN.{length, take, drop, get_or, length-append, length-drop, take-append-drop}
use lib.Seq.{take_at, drop_at, take_all, drop-cons, drop-drop}
use borrow.Author.Tests.{leb-true, le-leb, eqb-true, eq-eqb}
use Rattle.whole.specs.Digits.{is_digit, digit_of, byte_of}
use Rattle.whole.proofs.Bools.{both, joined}
use Rattle.kinds.specs.Answer.{gives, provided, AllHold}
use Rattle.kinds.proofs.Answers.{passed, same_value}
use Rattle.kinds.proofs.Bytes.{length_part}
use Rattle.position.specs.Text.{Coordinate, latitude, longitude, text_length, has_text, right_kinds, right_ranges, value, read, text}
use Rattle.position.proofs.Reading.{right_length}
use Rattle.position.proofs.Demands as position
use Rattle.line.specs.Line.{space, code_byte, latitude_text, longitude_text, code, latitude_of, longitude_of, text_tests}
use Rattle.line.specs.Form.{line_bytes}

-- ---- a coordinate that is read keeps its tests
tests_kept : (k : Coordinate) (t : List ℕ) {x : ℤ} → read k t ≡ gives x → (right_kinds k t ≡ true) × ((right_ranges k t ≡ true) × (value k t ≡ x))
unfolding read
tests_kept k t h =
    let l = passed (eqb (length t) (text_length k)) 1 (provided (right_kinds k t) 2 (provided (right_ranges k t) 3 (gives (value k t)))) h in
    let r = passed (right_kinds k t) 2 (provided (right_ranges k t) 3 (gives (value k t))) l.1 in
    let v = passed (right_ranges k t) 3 (gives (value k t)) r.1 in
    (r.0, (v.0, same_value v.1))

kept_tests : (k : Coordinate) (t : List ℕ) → length t ≡ text_length k → right_kinds k t ≡ true → right_ranges k t ≡ true → read k t ≡ gives (value k t)
kept_tests k t long kinds ranges = right_length k t long ∙ simp (kinds, ranges)

-- ---- made, and read
module _ (digit : ℕ) (north east : ℤ) where
  abbrev made : List ℕ
  made = line_bytes digit north east

  made_long : length made ≡ 26
  unfolding line_bytes
  made_long = omega (arith, length-append (text latitude north) (space ∷ text longitude east), position.text_length_lem latitude north, position.text_length_lem longitude east)

  north_text : latitude_text made ≡ text latitude north
  unfolding line_bytes
  north_text = take_at (text latitude north) (space ∷ text longitude east) 11 (position.text_length_lem latitude north)

  after_north : drop 13 made ≡ space ∷ text longitude east
  unfolding line_bytes
  after_north = drop_at (text latitude north) (space ∷ text longitude east) 11 (position.text_length_lem latitude north)

  east_text : longitude_text made ≡ text longitude east
  east_text =
      ap (take 12) (sym (drop-drop 1 13 made) ∙ ap (drop 1) after_north)
      ∙ take_all 12 (text longitude east) (omega (arith, position.text_length_lem longitude east))

  second_space : get_or made 13 0 ≡ space
  second_space =
      let e = sym (drop-cons made 13 0 (omega (arith, made_long))) ∙ after_north in
      cc

  digit_read : code made ≡ pos digit
  unfolding line_bytes digit_of
  digit_read = ap pos (omega arith)

  module _ (d : digit < 10) (n : has_text latitude north ≡ true) (e : has_text longitude east ≡ true) where
    north_kept : (right_kinds latitude (latitude_text made) ≡ true) × ((right_ranges latitude (latitude_text made) ≡ true) × (latitude_of made ≡ north))
    north_kept = tests_kept latitude (latitude_text made) (ap (read latitude) north_text ∙ position.text_reads latitude north n)

    east_kept : (right_kinds longitude (longitude_text made) ≡ true) × ((right_ranges longitude (longitude_text made) ≡ true) × (longitude_of made ≡ east))
    east_kept = tests_kept longitude (longitude_text made) (ap (read longitude) east_text ∙ position.text_reads longitude east e)

    digit_kept : is_digit (code_byte made) ≡ true
    unfolding line_bytes
    digit_kept = joined (le-leb 48 (byte_of digit) (omega arith)) (le-leb (byte_of digit) 57 (omega (arith, d)))

    first_kept : eqb (get_or made 1 0) space ≡ true
    unfolding line_bytes
    first_kept = refl

    pub made_holds : AllHold (text_tests made)
    made_holds = (
      eq-eqb (length made) 26 made_long,
      (
        joined (joined (joined (joined digit_kept first_kept) north_kept.0) (eq-eqb (get_or made 13 0) space second_space)) east_kept.0,
        (
          joined north_kept.1.0 east_kept.1.0,
          tt,
        ),
      ),
    )

    pub made_says : (code made ≡ pos digit) × ((latitude_of made ≡ north) × (longitude_of made ≡ east))
    made_says = (digit_read, (north_kept.1.1, east_kept.1.1))

-- ---- read, and made
module _ (t : List ℕ) (all : AllHold (text_tests t)) where
  long : length t ≡ 26
  long = eqb-true (length t) 26 all.0

  in_parts : t ≡ get_or t 0 0 ∷ get_or t 1 0 ∷ (latitude_text t ++ (get_or t 13 0 ∷ longitude_text t))
  in_parts =
      drop-cons t 0 0 (omega (arith, long))
      ∙ ap (λ (l : List ℕ). get_or t 0 0 ∷ l) (drop-cons t 1 0 (omega (arith, long))
      ∙ ap (λ (l : List ℕ). get_or t 1 0 ∷ l) (sym (take-append-drop 11 (drop 2 t))
      ∙ ap (λ (l : List ℕ). latitude_text t ++ l) (drop-drop 11 2 t ∙ drop-cons t 13 0 (omega (arith, long))
      ∙ ap (λ (l : List ℕ). get_or t 13 0 ∷ l) (sym (take_all 12 (drop 14 t) (omega (arith, long, length-drop 14 t)))))))

  kinds : (is_digit (code_byte t) ≡ true) × ((get_or t 1 0 ≡ space) × ((right_kinds latitude (latitude_text t) ≡ true) × ((get_or t 13 0 ≡ space) × (right_kinds longitude (longitude_text t) ≡ true))))
  kinds =
      let a = both (is_digit (code_byte t) && eqb (get_or t 1 0) space && right_kinds latitude (latitude_text t) && eqb (get_or t 13 0) space) (right_kinds longitude (longitude_text t)) all.1.0 in
      let b = both (is_digit (code_byte t) && eqb (get_or t 1 0) space && right_kinds latitude (latitude_text t)) (eqb (get_or t 13 0) space) a.0 in
      let c = both (is_digit (code_byte t) && eqb (get_or t 1 0) space) (right_kinds latitude (latitude_text t)) b.0 in
      let d = both (is_digit (code_byte t)) (eqb (get_or t 1 0) space) c.0 in
      (d.0, (eqb-true (get_or t 1 0) space d.1, (c.1, (eqb-true (get_or t 13 0) space b.1, a.1))))

  ranges : (right_ranges latitude (latitude_text t) ≡ true) × (right_ranges longitude (longitude_text t) ≡ true)
  ranges = both (right_ranges latitude (latitude_text t)) (right_ranges longitude (longitude_text t)) all.1.1.0

  -- the text that was read is that of its number
  of_number : (k : Coordinate) (s : List ℕ) → read k s ≡ gives (value k s) → (has_text k (value k s) ≡ true) × (s ≡ text k (value k s))
  of_number k s h = position.written_is k (value k s) (text_length k) (position.read_writes k s h (text_length k) (omega arith))

  north_is : (has_text latitude (latitude_of t) ≡ true) × (latitude_text t ≡ text latitude (latitude_of t))
  north_is = of_number latitude (latitude_text t) (kept_tests latitude (latitude_text t) (length_part 2 11 t (omega (arith, long))) kinds.1.1.0 ranges.0)

  east_is : (has_text longitude (longitude_of t) ≡ true) × (longitude_text t ≡ text longitude (longitude_of t))
  east_is = of_number longitude (longitude_text t) (kept_tests longitude (longitude_text t) (length_part 14 12 t (omega (arith, long))) kinds.1.1.1.1 ranges.1)

  digit_is : (digit_of (code_byte t) < 10) × (byte_of (digit_of (code_byte t)) ≡ code_byte t)
  unfolding digit_of
  digit_is =
      let b = both (leb 48 (code_byte t)) (leb (code_byte t) 57) kinds.0 in
      let low = leb-true 48 (code_byte t) b.0 in
      let high = leb-true (code_byte t) 57 b.1 in
      (omega (arith, high), omega (arith, low))

  pub read_made : (digit_of (code_byte t) < 10) × ((has_text latitude (latitude_of t) ≡ true) × ((has_text longitude (longitude_of t) ≡ true) × (t ≡ line_bytes (digit_of (code_byte t)) (latitude_of t) (longitude_of t))))
  unfolding line_bytes
  read_made = (digit_is.0, (north_is.0, (east_is.0, in_parts ∙ (λ i. sym digit_is.1 i ∷ kinds.1.0 i ∷ (north_is.1 i ++ (kinds.1.1.1.0 i ∷ east_is.1 i))))))
