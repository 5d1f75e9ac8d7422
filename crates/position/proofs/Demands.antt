-- What document 01 asks of positions as text, of latitude and longitude alike but for the points worked at the end. Stated
-- over specs/ alone. Assumes nothing.
use Rattle.std.proofs.Common.{◌≡◌, ℕ, ◌^◌, ◌<◌, ◌≤◌, Bool, true, false, ◌&&◌, eqb, ◌⊎◌, ◌↔◌, List, [], ◌∷◌, ◌++◌, length, take, drop, replicate, ℤ, pos, sym, refl, ap, ◌∙◌, subst, inl, inr, ⊎_elim, arith, take_at, eq-eqb, ne_eqb, eqb-true}
use mathlib.Core.Bool.{and-true, and_assoc}
use borrow.Author.Tests.{eqb-false}
use Rattle.whole.specs.Places.{from_places}
use Rattle.whole.specs.Digits.{is_digit, digit_of, all_digits, from_digits}
use Rattle.kinds.specs.Answer.{Answer, gives, refused, lent}
use Rattle.kinds.proofs.Answers.{one_of, first_failed, fails_at}
use Rattle.kinds.proofs.Demands.{written_where, unwritten_where}
use Rattle.position.specs.Text.{Coordinate, latitude, longitude, full_stop, places, text_length, has_text, is_letter, formed, ms, degrees, minutes, seconds, thousandths, letter, is_angle, in_sixties, angle, by_letter, no_zero_south, right_kinds, right_ranges, value, read_tests, read, text, write_tests, write}
use Rattle.position.proofs.Bytes.{by_bytes}
use Rattle.position.proofs.Trip as trip

-- ---- 'Writing needs 11 or 12 bytes of a lent buffer'
-- a number in range is written where there is room for its text
pub writes : (k : Coordinate) (x : ℤ) (room : ℕ) → has_text k x ≡ true → text_length k ≤ room → write k x room ≡ gives (text k x)
unfolding write
writes k x room h r = (written_where (write_tests k x) (text k x) room refl (text k x)).1 ((h, tt), (omega (arith, trip.text_length_lem k x), refl))

-- which is 11 bytes for a latitude and 12 for a longitude
pub text_length_lem : (k : Coordinate) (x : ℤ) → length (text k x) ≡ text_length k
text_length_lem k x = trip.text_length_lem k x

-- ---- 'so each number has one text'
-- the text of every number in range is read as that number
pub text_reads : (k : Coordinate) (x : ℤ) → has_text k x ≡ true → read k (text k x) ≡ gives x
text_reads k x h = trip.written_reads k x h

-- what was written for a number is its text
pub written_is : (k : Coordinate) (x : ℤ) (room : ℕ) {t : List ℕ} → write k x room ≡ gives t → (has_text k x ≡ true) × (t ≡ text k x)
unfolding write
written_is k x room {t} h =
    let p = (written_where (write_tests k x) (text k x) room refl t).0 h in
    (p.0.0, sym p.1.1)

-- so it is read as that number, out of the lent buffer
pub written_reads : (k : Coordinate) (x : ℤ) (out : List ℕ) {t : List ℕ} → write k x (length out) ≡ gives t → read k (take (text_length k) (lent (write k x (length out)) out)) ≡ gives x
written_reads k x out {t} h =
    let w = written_is k x (length out) h in
    ap (λ (a : Answer (List ℕ)). read k (take (text_length k) (lent a out))) h
    ∙ ap (read k) (take_at t (drop (length t) out) (text_length k) (ap length w.1 ∙ text_length_lem k x) ∙ w.1)
    ∙ text_reads k x w.0

-- what was read is written as the same bytes
pub read_writes : (k : Coordinate) (t : List ℕ) {x : ℤ} → read k t ≡ gives x → (room : ℕ) → text_length k ≤ room → write k x room ≡ gives t
read_writes k t h room r = writes k _ room (trip.in_range k t h) r ∙ ap gives (trip.read_writes k t h)

-- no number has two texts
pub one_text : (k : Coordinate) (s t : List ℕ) {x : ℤ} → read k s ≡ gives x → read k t ≡ gives x → s ≡ t
one_text k s t h j = sym (trip.read_writes k s h) ∙ trip.read_writes k t j

-- ---- 'Text: 11 bytes, ddmmss.sssN or S', '12 bytes, dddmmss.sssE', 'Minutes and seconds are below 60'
-- t is the text of x: degrees, minutes, seconds and thousandths in their digits, and a letter; all in range
pub record TextOf (k : Coordinate) (t : List ℕ) (x : ℤ) : Type 0 where
  pub d : ℕ
  pub m : ℕ
  pub s : ℕ
  pub f : ℕ
  pub b : ℕ
  pub form : t ≡ formed k d m s f b
  pub d_digits : d < 10 ^ places k
  pub m_below : m < 60
  pub s_below : s < 60
  pub f_digits : f < 1000
  pub b_letter : is_letter k b ≡ true
  pub not_zero_south : no_zero_south b (ms d m s f) ≡ true
  pub value : by_letter b (ms d m s f) ≡ x
  pub range : has_text k x ≡ true

-- a text is accepted, as x, exactly when it is the text of x
pub accepted : (k : Coordinate) (t : List ℕ) (x : ℤ) → (read k t ≡ gives x) ↔ TextOf k t x
unfolding angle
accepted k t x = (of_reading, of_form)
  where
    of_reading : read k t ≡ gives x → TextOf k t x
    of_reading h = record {
      d = from_digits (degrees k t);
      m = from_digits (minutes k t);
      s = from_digits (seconds k t);
      f = from_digits (thousandths k t);
      b = letter k t;
      form = sym (trip.has_form k t h);
      d_digits = trip.degrees_digits k t h;
      m_below = (trip.below_sixty k t h).0;
      s_below = (trip.below_sixty k t h).1;
      f_digits = trip.thousandths_digits k t h;
      b_letter = (trip.tests k t h).is_letter_lem;
      not_zero_south = (trip.tests k t h).no_zero_south_lem;
      value = (trip.tests k t h).value_is;
      range = trip.in_range k t h;
    }

    of_form : TextOf k t x → read k t ≡ gives x
    of_form f =
        ap (read k) f.form
        ∙ trip.reads k f.b f.d_digits f.m_below f.s_below f.f_digits f.b_letter f.not_zero_south (subst (λ (x : ℤ). has_text k x ≡ true) (sym f.value) f.range)
        ∙ ap gives f.value

-- ---- 'For a position text: 1, 2, 3': when each number is given
module _ (k : Coordinate) (t : List ℕ) where
  pub given_1 : (read k t ≡ refused 1) ↔ (length t ≡ text_length k → ⊥)
  unfolding read
  given_1 =
      let at = fails_at (read_tests k t) (value k t) 0 refl in
      ((λ h. eqb-false (length t) (text_length k) (at.0 h)), (λ h. at.1 (ne_eqb (length t) (text_length k) h)))

  pub given_2 : (read k t ≡ refused 2) ↔ ((length t ≡ text_length k) × (right_kinds k t ≡ false))
  unfolding read
  given_2 =
      let at = fails_at (read_tests k t) (value k t) 1 refl in (
        (λ h. (eqb-true (length t) (text_length k) (at.0 h).0, (at.0 h).1)),
        (λ h. at.1 (eq-eqb (length t) (text_length k) h.0, h.1)),
      )

  pub given_3 : (read k t ≡ refused 3) ↔ ((length t ≡ text_length k) × ((right_kinds k t ≡ true) × (right_ranges k t ≡ false)))
  unfolding read
  given_3 =
      let at = fails_at (read_tests k t) (value k t) 2 refl in (
        (λ h. (eqb-true (length t) (text_length k) (at.0 h).0, (at.0 h).1)),
        (λ h. at.1 (eq-eqb (length t) (text_length k) h.0, h.1)),
      )

  -- and no other is
  pub given_one_of : (n : ℕ) → read k t ≡ refused n → (n ≡ 1) ⊎ ((n ≡ 2) ⊎ (n ≡ 3))
  unfolding read
  given_one_of n h = one_of (read_tests k t) n (first_failed (read_tests k t) (value k t) n h)

-- 'a byte of a text is not of its kind', byte by byte: the kind of each place, and the bytes held against it
abbrev pub pattern : Coordinate → List (ℕ → Bool)
pattern k = replicate (places k) is_digit ++ is_digit ∷ is_digit ∷ is_digit ∷ is_digit ∷ (λ b. eqb b full_stop) ∷ is_digit ∷ is_digit ∷ is_digit ∷ is_letter k ∷ []

abbrev pub fits : List (ℕ → Bool) → List ℕ → Bool
fits (p ∷ ps) (b ∷ t) = p b && fits ps t
fits [] [] = true
fits [] (b ∷ t) = false
fits (p ∷ ps) [] = false

pub byte_by_byte : (k : Coordinate) (t : List ℕ) → length t ≡ text_length k → right_kinds k t ≡ fits (pattern k) t
unfolding is_angle all_digits
byte_by_byte latitude = by_bytes 11 _ (λ f. simp (and-true, and_assoc))
byte_by_byte longitude = by_bytes 12 _ (λ f. simp (and-true, and_assoc))

-- ---- 'For writing one: 3, 7'
module _ (k : Coordinate) (x : ℤ) (room : ℕ) where
  pub written_3 : (write k x room ≡ refused 3) ↔ (has_text k x ≡ false)
  unfolding write
  written_3 =
      let at = unwritten_where (write_tests k x) (text k x) room refl 3 in (
        (λ h. ⊎_elim (⊎_elim (λ f. f.0) (λ f. absurd f.1)) (λ p. absurd (omega (arith, p.1.1))) (at.0 h)),
        (λ h. at.1 (inl (inl (h, refl)))),
      )

  pub written_7 : (write k x room ≡ refused 7) ↔ ((has_text k x ≡ true) × (room < text_length k))
  unfolding write
  written_7 =
      let at = unwritten_where (write_tests k x) (text k x) room refl 7 in (
        (λ h.
            ⊎_elim (⊎_elim (λ f. absurd (omega (arith, f.1))) (λ f. absurd f.1))
            (λ p. (p.0.0, omega (arith, trip.text_length_lem k x, p.1.0)))
            (at.0 h)),
        (λ h. at.1 (inr ((h.0, tt), (omega (arith, trip.text_length_lem k x, h.1), refl)))),
      )

  pub written_one_of : (n : ℕ) → write k x room ≡ refused n → (n ≡ 3) ⊎ (n ≡ 7)
  unfolding write
  written_one_of n h =
      ⊎_elim (λ f. inl (one_of (write_tests k x) n f)) (λ p. inr p.1.1) ((unwritten_where (write_tests k x) (text k x) room refl n).0 h)

-- the orders, at points where two refusals are due
pub record Orders : Type 0 where
  -- x: a wrong length and a wrong byte
  pub length_first : read latitude (120 ∷ []) ≡ refused 1
  -- 999999.99xN: a wrong byte and too many minutes
  pub byte_next : read latitude (57 ∷ 57 ∷ 57 ∷ 57 ∷ 57 ∷ 57 ∷ 46 ∷ 57 ∷ 57 ∷ 120 ∷ 78 ∷ []) ≡ refused 2
  -- past the pole, and no room
  pub range_first : write latitude (pos 324000001) 0 ≡ refused 3

pub orders : Orders
unfolding read write is_angle in_sixties angle all_digits from_digits from_places digit_of
orders = record { length_first = refl; byte_next = refl; range_first = refl }

-- ---- 'Points to hold against the page': two of the twelve
pub record Examples : Type 0 where
  -- 900000.000N
  pub pole : read latitude (57 ∷ 48 ∷ 48 ∷ 48 ∷ 48 ∷ 48 ∷ 46 ∷ 48 ∷ 48 ∷ 48 ∷ 78 ∷ []) ≡ gives (pos 324000000)
  -- 000000.000S
  pub zero_south : read latitude (48 ∷ 48 ∷ 48 ∷ 48 ∷ 48 ∷ 48 ∷ 46 ∷ 48 ∷ 48 ∷ 48 ∷ 83 ∷ []) ≡ refused 3

pub examples : Examples
unfolding read is_angle in_sixties angle all_digits from_digits from_places digit_of
examples = record { pole = refl; zero_south = refl }
