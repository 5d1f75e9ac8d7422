-- There and back: a text of 01's form is read as its number, and a text that is read has that form. Both texts at once; where
-- they differ, in the digits of the degrees, the limit and the letters, a law goes by cases. Assumes nothing.
use Rattle.std.proofs.Common.{◌≡◌, ℕ, zero, suc, ◌+◌, ◌*◌, ◌/◌, ◌%◌, ◌^◌, ◌<◌, ◌≤◌, true, not, ◌&&◌, eqb, ltb, leb, List, [], ◌∷◌, ◌++◌, length, ℤ, pos, negsuc, nat_abs, sym, refl, ap, ◌∙◌, subst, arith, ltb-true, lt-ltb, eq-eqb, ne_eqb, eqb-true, leb-true}
use mathlib.Core.Bool.{false≢true}
use lib.Signed.{le_z}
use Rattle.whole.specs.Places.{in_places}
use Rattle.whole.specs.Digits.{digits, from_digits, all_digits}
use Rattle.whole.proofs.Bools.{both, either}
use Rattle.whole.proofs.Digits.{all_digits_lem, number_of, digits_of, number_below}
use Rattle.kinds.specs.Answer.{gives}
use Rattle.kinds.proofs.Answers.{passed, same_value}
use Rattle.kinds.specs.Bytes.{part}
use Rattle.kinds.proofs.Bytes.{length_part}
use Rattle.position.specs.Text.{Coordinate, latitude, longitude, letter_n, letter_s, letter_e, full_stop, places, text_length, has_text, is_letter, letter_of, formed, ms, degrees, minutes, seconds, stop_byte, thousandths, letter, is_angle, in_sixties, angle, by_letter, no_zero_south, right_kinds, value, right_ranges, read, spelled, text}
use Rattle.position.proofs.Bytes.{by_bytes}

-- ---- the parts of a text of the form
record Parts (k : Coordinate) (t : List ℕ) (d m s f b : ℕ) : Type 0 where
  long : length t ≡ text_length k
  of_degrees : degrees k t ≡ digits (places k) d
  of_minutes : minutes k t ≡ digits 2 m
  of_seconds : seconds k t ≡ digits 2 s
  of_point : stop_byte k t ≡ full_stop
  of_thousandths : thousandths k t ≡ digits 3 f
  of_letter : letter k t ≡ b

parts : (k : Coordinate) (d m s f b : ℕ) → Parts k (formed k d m s f b) d m s f b
unfolding digits in_places
parts latitude d m s f b = record { long = refl; of_degrees = refl; of_minutes = refl; of_seconds = refl; of_point = refl; of_thousandths = refl; of_letter = refl }
parts longitude d m s f b = record { long = refl; of_degrees = refl; of_minutes = refl; of_seconds = refl; of_point = refl; of_thousandths = refl; of_letter = refl }

pub text_length_lem : (k : Coordinate) (x : ℤ) → length (text k x) ≡ text_length k
unfolding spelled
text_length_lem k x = (parts k _ _ _ _ _).long

-- ---- a text of the form is read
module _ (k : Coordinate) {d m s f : ℕ} (b : ℕ) (d< : d < 10 ^ places k) (m< : m < 60) (s< : s < 60) (f< : f < 1000) where
  abbrev t : List ℕ
  t = formed k d m s f b

  p : Parts k t d m s f b
  p = parts k d m s f b

  is_angle_lem : is_angle k t ≡ true
  unfolding is_angle
  is_angle_lem = simp (p.of_degrees, p.of_minutes, p.of_seconds, p.of_point, p.of_thousandths, all_digits_lem)

  m_is : from_digits (minutes k t) ≡ m
  m_is = ap from_digits p.of_minutes ∙ number_of 2 m (omega arith)

  s_is : from_digits (seconds k t) ≡ s
  s_is = ap from_digits p.of_seconds ∙ number_of 2 s (omega arith)

  in_sixties_lem : in_sixties k t ≡ true
  unfolding in_sixties
  in_sixties_lem = simp (m_is, s_is, lt-ltb m 60 m<, lt-ltb s 60 s<)

  angle_is : angle k t ≡ ms d m s f
  unfolding angle
  angle_is = simp (m_is, s_is, p.of_degrees, p.of_thousandths, number_of (places k) d d<, number_of 3 f f<)

  pub reads : is_letter k b ≡ true → no_zero_south b (ms d m s f) ≡ true → has_text k (by_letter b (ms d m s f)) ≡ true → read k t ≡ gives (by_letter b (ms d m s f))
  unfolding read
  reads l z r = simp (eq-eqb (length t) (text_length k) p.long, is_angle_lem, p.of_letter, l, in_sixties_lem, angle_is, z, r)

-- ---- a text that is read has the form
rejoined : (k : Coordinate) (t : List ℕ) → length t ≡ text_length k → degrees k t ++ minutes k t ++ seconds k t ++ stop_byte k t ∷ thousandths k t ++ letter k t ∷ [] ≡ t
rejoined latitude = by_bytes 11 _ (λ f. refl)
rejoined longitude = by_bytes 12 _ (λ f. refl)

-- it passed every test
pub record Passed (k : Coordinate) (t : List ℕ) (x : ℤ) : Type 0 where
  pub long : length t ≡ text_length k
  pub is_angle_lem : is_angle k t ≡ true
  pub is_letter_lem : is_letter k (letter k t) ≡ true
  pub in_sixties_lem : in_sixties k t ≡ true
  pub no_zero_south_lem : no_zero_south (letter k t) (angle k t) ≡ true
  pub in_range : has_text k (value k t) ≡ true
  pub value_is : value k t ≡ x

accepted : (k : Coordinate) (t : List ℕ) {x : ℤ} → read k t ≡ gives x → Passed k t x
unfolding read
accepted k t h =
    let one = passed (eqb (length t) (text_length k)) 1 _ h in
    let two = passed (right_kinds k t) 2 _ one.1 in
    let three = passed (right_ranges k t) 3 _ two.1 in
    let kinds = both (is_angle k t) (is_letter k (letter k t)) two.0 in
    let range = both (in_sixties k t && no_zero_south (letter k t) (angle k t)) (has_text k (value k t)) three.0 in
    let below = both (in_sixties k t) (no_zero_south (letter k t) (angle k t)) range.0 in
    record { long = eqb-true (length t) (text_length k) one.0; is_angle_lem = kinds.0; is_letter_lem = kinds.1; in_sixties_lem = below.0; no_zero_south_lem = below.1; in_range = range.1; value_is = same_value three.1 }

-- so its parts are digits, of the right number
record Digits (k : Coordinate) (t : List ℕ) : Type 0 where
  of_degrees : all_digits (degrees k t) ≡ true
  of_minutes : all_digits (minutes k t) ≡ true
  of_seconds : all_digits (seconds k t) ≡ true
  of_point : eqb (stop_byte k t) full_stop ≡ true
  of_thousandths : all_digits (thousandths k t) ≡ true

are_digits : (k : Coordinate) (t : List ℕ) → is_angle k t ≡ true → Digits k t
unfolding is_angle
are_digits k t h =
    let one = both (all_digits (degrees k t) && all_digits (minutes k t) && all_digits (seconds k t) && eqb (stop_byte k t) full_stop) (all_digits (thousandths k t)) h in
    let two = both (all_digits (degrees k t) && all_digits (minutes k t) && all_digits (seconds k t)) (eqb (stop_byte k t) full_stop) one.0 in
    let three = both (all_digits (degrees k t) && all_digits (minutes k t)) (all_digits (seconds k t)) two.0 in
    let four = both (all_digits (degrees k t)) (all_digits (minutes k t)) three.0 in
    record { of_degrees = four.0; of_minutes = four.1; of_seconds = three.1; of_point = two.1; of_thousandths = one.1 }

digits_part : (from n : ℕ) (t : List ℕ) → from + n ≤ length t → all_digits (part from n t) ≡ true → digits n (from_digits (part from n t)) ≡ part from n t
digits_part from n t h d = ap (λ (w : ℕ). digits w (from_digits (part from n t))) (sym (length_part from n t h)) ∙ digits_of (part from n t) d

below_part : (from n : ℕ) (t : List ℕ) → from + n ≤ length t → all_digits (part from n t) ≡ true → from_digits (part from n t) < 10 ^ n
below_part from n t h d = subst (λ (w : ℕ). from_digits (part from n t) < 10 ^ w) (length_part from n t h) (number_below (part from n t) d)

module _ (k : Coordinate) (t : List ℕ) {x : ℤ} (h : read k t ≡ gives x) where
  pub tests : Passed k t x
  tests = accepted k t h

  all : Digits k t
  all = are_digits k t tests.is_angle_lem

  pub has_form : formed k (from_digits (degrees k t)) (from_digits (minutes k t)) (from_digits (seconds k t)) (from_digits (thousandths k t)) (letter k t) ≡ t
  has_form =
      let l = tests.long in
      simp (digits_part 0 (places k) t (omega arith) all.of_degrees, digits_part (places k) 2 t (omega arith) all.of_minutes, digits_part (places k + 2) 2 t (omega arith) all.of_seconds, digits_part (places k + 5) 3 t (omega arith) all.of_thousandths, ← eqb-true (stop_byte k t) full_stop all.of_point)
      (rejoined k t l)

  pub degrees_digits : from_digits (degrees k t) < 10 ^ places k
  degrees_digits = below_part 0 (places k) t (omega (arith, tests.long)) all.of_degrees

  pub below_sixty : (from_digits (minutes k t) < 60) × (from_digits (seconds k t) < 60)
  unfolding in_sixties
  below_sixty =
      let p = both (ltb (from_digits (minutes k t)) 60) (ltb (from_digits (seconds k t)) 60) tests.in_sixties_lem in
      (ltb-true (from_digits (minutes k t)) 60 p.0, ltb-true (from_digits (seconds k t)) 60 p.1)

  pub thousandths_digits : from_digits (thousandths k t) < 1000
  thousandths_digits = below_part (places k + 5) 3 t (omega (arith, tests.long)) all.of_thousandths

  pub in_range : has_text k x ≡ true
  in_range = subst (λ (x : ℤ). has_text k x ≡ true) tests.value_is tests.in_range

-- ---- ms in degrees, minutes, seconds and thousandths
module _ (d m s f : ℕ) (m< : m < 60) (s< : s < 60) (f< : f < 1000) where
  spelled_formed : (k : Coordinate) (b : ℕ) → spelled k (ms d m s f) b ≡ formed k d m s f b
  unfolding spelled
  spelled_formed k b = simp (thousands, last, sixty, sixtieth, degree, minute)
    where
      thousands : ms d m s f / 1000 ≡ d * 3600 + m * 60 + s
      thousands = omega arith

      last : ms d m s f % 1000 ≡ f
      last = omega arith

      sixty : (d * 3600 + m * 60 + s) / 60 ≡ d * 60 + m
      sixty = omega arith

      sixtieth : (d * 3600 + m * 60 + s) % 60 ≡ s
      sixtieth = omega arith

      degree : (d * 60 + m) / 60 ≡ d
      degree = omega arith

      minute : (d * 60 + m) % 60 ≡ m
      minute = omega arith

ms_formed : (n : ℕ) → ms (n / 1000 / 60 / 60) (n / 1000 / 60 % 60) (n / 1000 % 60) (n % 1000) ≡ n
ms_formed n = omega arith

-- ---- the letters
-- a number's letter is one of its kind, and says its sign
letter_of_lem : (k : Coordinate) (x : ℤ) → has_text k x ≡ true → (is_letter k (letter_of k x) ≡ true) × ((no_zero_south (letter_of k x) (nat_abs x) ≡ true) × (by_letter (letter_of k x) (nat_abs x) ≡ x))
letter_of_lem latitude (pos n) h = (refl, (refl, refl))
letter_of_lem latitude (negsuc n) h = (refl, (ap not (ne_eqb (suc n) 0 (λ e. omega arith)), refl))
letter_of_lem longitude (pos n) h = (refl, (refl, refl))
letter_of_lem longitude (negsuc n) h = absurd (false≢true h)

-- and a letter after ms is that of the number they make
letter_back : (k : Coordinate) (b n : ℕ) → is_letter k b ≡ true → no_zero_south b n ≡ true → (letter_of k (by_letter b n) ≡ b) × (nat_abs (by_letter b n) ≡ n)
letter_back latitude b n l z =
    either (eqb b letter_n) (eqb b letter_s) l
    (λ e. subst Back (sym (eqb-true b letter_n e)) (refl, refl))
    (λ e. let s = eqb-true b letter_s e in subst Back (sym s) (south n (subst (λ (b : ℕ). no_zero_south b n ≡ true) s z)))
  where
    Back : ℕ → Type 0
    Back b = (letter_of latitude (by_letter b n) ≡ b) × (nat_abs (by_letter b n) ≡ n)

    south : (n : ℕ) → no_zero_south letter_s n ≡ true → (letter_of latitude (by_letter letter_s n) ≡ letter_s) × (nat_abs (by_letter letter_s n) ≡ n)
    south zero z = absurd (false≢true z)
    south (suc n) z = (refl, refl)
letter_back longitude b n l z = subst (λ (b : ℕ). (letter_e ≡ b) × (nat_abs (by_letter b n) ≡ n)) (sym (eqb-true b letter_e l)) (refl, refl)

-- the digits of the degrees are enough
degrees_below : (k : Coordinate) (x : ℤ) → has_text k x ≡ true → nat_abs x / 1000 / 60 / 60 < 10 ^ places k
degrees_below latitude (pos n) h = omega (arith, leb-true n 324000000 (both (le_z (negsuc 323999999) (pos n)) (leb n 324000000) h).1)
degrees_below latitude (negsuc n) h = omega (arith, leb-true n 323999999 (both (leb n 323999999) true h).0)
degrees_below longitude (pos n) h = omega (arith, leb-true n 1295999999 (both (leb 0 n) (leb n 1295999999) h).1)
degrees_below longitude (negsuc n) h = absurd (false≢true h)

-- ---- there and back
pub written_reads : (k : Coordinate) (x : ℤ) → has_text k x ≡ true → read k (text k x) ≡ gives x
unfolding spelled
written_reads k x h =
    let n = nat_abs x in
    let l = letter_of_lem k x h in
    let e = ms_formed n in
    reads k (letter_of k x) (degrees_below k x h) (omega arith) (omega arith) (omega arith) l.0 (rw e l.1.0) (simp (e, l.1.1) h)
    ∙ simp (e, l.1.1)

pub read_writes : (k : Coordinate) (t : List ℕ) {x : ℤ} → read k t ≡ gives x → text k x ≡ t
unfolding angle
read_writes k t h =
    let p = tests k t h in
    let l = letter_back k (letter k t) (angle k t) p.is_letter_lem p.no_zero_south_lem in
    let s = below_sixty k t h in
    ap (text k) (sym p.value_is)
    ∙ (λ i. spelled k (l.1 i) (l.0 i))
    ∙ spelled_formed (from_digits (degrees k t)) (from_digits (minutes k t)) (from_digits (seconds k t)) (from_digits (thousandths k t)) s.0 s.1 (thousandths_digits k t h) k (letter k t)
    ∙ has_form k t h
