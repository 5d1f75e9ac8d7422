-- The bytes `mmss.sss` of a latitude's form as one word: how the code tests them, and how it reads them. Assumes nothing.
use Rattle.std.proofs.Common.{◌≡◌, ℕ, ◌+◌, ◌*◌, ◌/◌, ◌%◌, ◌<◌, Bool, true, ◌&&◌, eqb, ltb, List, [], ◌∷◌, length, sym, refl, ap, ◌∙◌, arith, ltb-false, ltb-true, le-ltb, lt-ltb, eqb-true}
use Rattle.std.specs.Int.{w64, from_be_bytes}
use mathlib.Core.Bool.{and-true, and_assoc, and_comm}
use lib.Bits.{bit_and, bit_xor, and_zero_r}
use Rattle.whole.specs.Every.{every}
use Rattle.whole.specs.Places.{from_places}
use Rattle.whole.specs.Digits.{is_digit, digit_of, all_digits}
use Rattle.whole.proofs.Bools.{both, joined, by_test}
use Rattle.whole.proofs.Below.{below}
use Rattle.whole.proofs.Every.{every_weaker}
use Rattle.whole.proofs.Digits.{digit_limits}
use Rattle.kinds.specs.Bytes.{part}
use Rattle.kinds.proofs.Bytes.{at}
use Rattle.numbers.specs.Numbers.{number}
use Rattle.position.specs.Inside.{figures, InPairs}
use Rattle.position.specs.Text.{latitude, full_stop, is_angle, in_sixties}
use Rattle.position.proofs.Bytes.{by_bytes, two_number, three_number}
use Rattle.position.proofs.Words.{Kind, figure, stop, is, form, byte, left, figure_of, small, same, same_is, word, high, low, word_left, each, all_say, of_kinds, sum_fits}

abbrev octet : List ℕ → List (Kind × ℕ)
octet t =
    (figure, at t 2) ∷ (figure, at t 3) ∷ (figure, at t 4) ∷ (figure, at t 5)
    ∷ (stop, at t 6) ∷ (figure, at t 7) ∷ (figure, at t 8) ∷ (figure, at t 9) ∷ []

abbrev pub eight : List ℕ → List ℕ
eight t = at t 2 ∷ at t 3 ∷ at t 4 ∷ at t 5 ∷ at t 6 ∷ at t 7 ∷ at t 8 ∷ at t 9 ∷ []

-- what the code tests of the word, and of the word with 6 more in each digit: no bit that a figure has not
abbrev is_clear : ℕ → Bool
is_clear n = eqb (bit_and n 17361641481390059760) 0

abbrev pub are_clear : ℕ → ℕ → Bool
are_clear word more = is_clear word && is_clear more

abbrev six_more : ℕ
six_more = 434041036927796742

-- the byte at P of a number, by what stands before it and after it
byte_at : (P more m less : ℕ) → less < P → m < 256 → {n : ℕ} → n ≡ (more * 256 + m) * P + less → n / P % 256 ≡ m
byte_at P more m less h k e =
    ap (λ (j : ℕ). j / P % 256) e ∙ ap (λ (j : ℕ). j % 256) (high P (more * 256 + m) less h) ∙ low more m k

below_ten : (b : ℕ) → is_digit b ≡ true → digit_of b < 10
unfolding digit_of
below_ten b h = omega (arith, (digit_limits b h).0, (digit_limits b h).1)

-- what is of its kind is a byte
is_small : (p : Kind × ℕ) → is p ≡ true → small byte p ≡ true
is_small (figure, b) h = lt-ltb b 256 (omega (arith, (digit_limits b h).1))
is_small (stop, b) h = lt-ltb b 256 (omega (arith, eqb-true b full_stop h))

-- two digits say less than 60 if the first, with 10 more, is below 16
tens_below : (a b : ℕ) → a < 10 → b < 10 → eqb (bit_and (a + 10) 16) 0 ≡ ltb (a * 10 + b) 60
tens_below a b g h =
    same_is (eqb (bit_and (a + 10) 16) 0) (ltb a 6) (below 10 (λ n. same (eqb (bit_and (n + 10) 16) 0) (ltb n 6)) tt a g)
    ∙ by_test (ltb a 6)
    (λ e. e ∙ sym (lt-ltb (a * 10 + b) 60 (omega (arith, ltb-true a 6 e))))
    (λ e. e ∙ sym (le-ltb (a * 10 + b) 60 (omega (arith, ltb-false a 6 e))))

module _ (t : List ℕ) (long : length t ≡ 11) where
  pub figures_read : bit_xor (from_be_bytes w64 (eight t)) 3472328296194125872 ≡ figures t
  unfolding figures number from_places
  figures_read = ap (λ (n : ℕ). bit_xor n 3472328296194125872) (by_bytes 11 (λ s. from_be_bytes w64 (eight s) ≡ number (part 2 8 s)) (λ f. omega arith) t long)

  left_is : every (small byte) (octet t) ≡ true → figures t ≡ word left (octet t)
  unfolding figures number from_places
  left_is h = by_bytes 11 (λ s. figures s ≡ bit_xor (word byte (octet s)) (word form (octet s))) (λ f. refl) t long ∙ word_left (octet t) h

  is_angle_is : (every is (octet t) && (is_digit (at t 0) && is_digit (at t 1))) ≡ is_angle latitude t
  unfolding is_angle all_digits
  is_angle_is = and_comm (every is (octet t)) (is_digit (at t 0) && is_digit (at t 1)) ∙ by_bytes 11 (λ s. ((is_digit (at s 0) && is_digit (at s 1)) && every is (octet s)) ≡ is_angle latitude s) (λ f. simp (and_assoc, and-true)) t long

  pub degree_digits : is_angle latitude t ≡ true → (is_digit (at t 0) ≡ true) × (is_digit (at t 1) ≡ true)
  degree_digits a = both (is_digit (at t 0)) (is_digit (at t 1)) (both (every is (octet t)) (is_digit (at t 0) && is_digit (at t 1)) (is_angle_is ∙ a)).1

  module _ (bytes : (i : ℕ) → at t i < 256) where
    all_small : every (small byte) (octet t) ≡ true
    all_small =
        let one : (j : ℕ) → ltb (at t j) 256 ≡ true = λ j. lt-ltb (at t j) 256 (bytes j) in
        joined (one 2) (joined (one 3) (joined (one 4) (joined (one 5) (joined (one 6) (joined (one 7) (joined (one 8) (joined (one 9) refl)))))))

    six_more_fits : is_clear (figures t) ≡ true → figures t + six_more < 18446744073709551616
    six_more_fits = rw (left_is all_small) (sum_fits (octet t) all_small)

    -- where the sum is past a word, the first test has failed
    wrapped : are_clear (figures t) ((figures t + six_more) % 18446744073709551616) ≡ are_clear (figures t) (figures t + six_more)
    wrapped =
        by_test (is_clear (figures t))
        (λ e.
        let fits : (figures t + six_more) % 18446744073709551616 ≡ figures t + six_more = omega (arith, six_more_fits e) in
        ap (are_clear (figures t)) fits)
        (λ e. simp e)

    by_words : (are_clear (figures t) ((figures t + six_more) % 18446744073709551616) && (is_digit (at t 0) && is_digit (at t 1))) ≡ is_angle latitude t
    by_words = rw wrapped (rw (left_is all_small) (ap (λ (x : Bool). x && (is_digit (at t 0) && is_digit (at t 1))) (of_kinds (octet t) all_small) ∙ is_angle_is))

    pub tested : {b : Bool} → are_clear (figures t) ((figures t + six_more) % 18446744073709551616) ≡ b → (b && (is_digit (at t 0) && is_digit (at t 1))) ≡ is_angle latitude t
    tested e = ap (λ (x : Bool). x && (is_digit (at t 0) && is_digit (at t 1))) (sym e) ∙ by_words

  -- ---- of a text of the form
  kinds : is_angle latitude t ≡ true → every is (octet t) ≡ true
  kinds a = (both (every is (octet t)) (is_digit (at t 0) && is_digit (at t 1)) (is_angle_is ∙ a)).0

  figures_say : is_angle latitude t ≡ true → figures t ≡ word figure_of (octet t)
  figures_say a = let s = every_weaker is (small byte) is_small (octet t) (kinds a) in left_is s ∙ all_say (octet t) s (kinds a)

  -- ---- the figures, each below 10
  module _ (a : is_angle latitude t ≡ true) where
    abbrev d : ℕ → ℕ
    d i = digit_of (at t i)

    record Digits : Type 0 where
      d2 : d 2 < 10
      d3 : d 3 < 10
      d4 : d 4 < 10
      d5 : d 5 < 10
      d7 : d 7 < 10
      d8 : d 8 < 10
      d9 : d 9 < 10

    every_digit : Digits
    every_digit =
        let e2 = both _ _ (kinds a) in
        let e3 = both _ _ e2.1 in
        let e4 = both _ _ e3.1 in
        let e5 = both _ _ e4.1 in
        let e6 = both (eqb (at t 6) full_stop) _ e5.1 in
        let e7 = both _ _ e6.1 in
        let e8 = both _ _ e7.1 in
        let e9 = both (is_digit (at t 9)) true e8.1 in
        record {
          d2 = below_ten (at t 2) e2.0;
          d3 = below_ten (at t 3) e3.0;
          d4 = below_ten (at t 4) e4.0;
          d5 = below_ten (at t 5) e5.0;
          d7 = below_ten (at t 7) e7.0;
          d8 = below_ten (at t 8) e8.0;
          d9 = below_ten (at t 9) e9.0;
        }

    -- ---- in sixties
    -- each figure with what is added to it, 10 where it is of tens, and the bit that is then tested
    abbrev tens : List (ℕ × ℕ)
    tens = (d 2 + 10, 16) ∷ (d 3, 0) ∷ (d 4 + 10, 16) ∷ (d 5, 0) ∷ (0, 0) ∷ (d 7, 0) ∷ (d 8, 0) ∷ (d 9 + 1, 0) ∷ []

    tens_small : every (small (λ (p : ℕ × ℕ). p.0)) tens ≡ true
    tens_small =
        let l : (n : ℕ) → n < 256 → ltb n 256 ≡ true = λ n h. lt-ltb n 256 h in
        joined (l (d 2 + 10) (omega (arith, every_digit))) (joined (l (d 3) (omega (arith, every_digit)))
        (joined (l (d 4 + 10) (omega (arith, every_digit))) (joined (l (d 5) (omega (arith, every_digit)))
        (joined (l (d 7) (omega (arith, every_digit))) (joined (l (d 8) (omega (arith, every_digit)))
        (joined (l (d 9 + 1) (omega (arith, every_digit))) refl))))))

    tens_are : figures t + 720586935495557121 ≡ word (λ (p : ℕ × ℕ). p.0) tens
    tens_are = omega (arith, figures_say a)

    pub tens_fit : figures t + 720586935495557121 < 18446744073709551616
    tens_fit = omega (arith, figures_say a, every_digit)

    pub sixties : eqb (bit_and (figures t + 720586935495557121) 1152939096792891392) 0 ≡ in_sixties latitude t
    unfolding in_sixties
    sixties =
        ap (λ (n : ℕ). eqb (bit_and n 1152939096792891392) 0) tens_are
        ∙ each (λ (p : ℕ × ℕ). p.0) (λ (p : ℕ × ℕ). p.1) tens tens_small refl
        ∙ simp (and_zero_r, and-true, two_number 2 t (omega arith), two_number 4 t (omega arith), tens_below (d 2) (d 3) every_digit.d2 every_digit.d3, tens_below (d 4) (d 5) every_digit.d4 every_digit.d5)

    -- ---- in pairs
    shifted : figures t / 256 ≡ d 2 * 281474976710656 + d 3 * 1099511627776 + d 4 * 4294967296 + d 5 * 16777216 + d 7 * 256 + d 8
    shifted = rw (figures_say a) (omega (arith, every_digit.d9))

    paired :
        figures t / 256 * 10 + figures t
        ≡ d 2 * 72057594037927936 + (d 2 * 10 + d 3) * 281474976710656 + (d 3 * 10 + d 4) * 1099511627776
        + (d 4 * 10 + d 5) * 4294967296 + d 5 * 167772160 + d 7 * 65536 + (d 7 * 10 + d 8) * 256 + (d 8 * 10 + d 9)
    paired = rw shifted (omega (arith, figures_say a))

    pub pairs_fit : figures t / 256 * 10 + figures t < 18446744073709551616
    pairs_fit = rw paired (omega (arith, every_digit))

    pub pairs_say : InPairs (figures t / 256 * 10 + figures t) t
    pairs_say =
        let last = (d 7 * 10 + d 8) * 256 + (d 8 * 10 + d 9) in
        let after-seconds = d 5 * 167772160 + d 7 * 65536 + last in
        let after-minutes = (d 3 * 10 + d 4) * 1099511627776 + (d 4 * 10 + d 5) * 4294967296 + after-seconds in
        let before-seconds = d 2 * 65536 + (d 2 * 10 + d 3) * 256 + (d 3 * 10 + d 4) in
        let before-tenths = before-seconds * 65536 + (d 4 * 10 + d 5) * 256 + d 5 * 10 in
        let minutes =
        byte_at 281474976710656 (d 2) (d 2 * 10 + d 3) after-minutes
        (omega (arith, every_digit)) (omega (arith, every_digit)) (paired ∙ omega arith) in
        let seconds =
        byte_at 4294967296 before-seconds (d 4 * 10 + d 5) after-seconds
        (omega (arith, every_digit)) (omega (arith, every_digit)) (paired ∙ omega arith) in
        let tenths = byte_at 65536 before-tenths (d 7) last (omega (arith, every_digit)) (omega (arith, every_digit)) (paired ∙ omega arith) in
        let rest : (figures t / 256 * 10 + figures t) % 256 ≡ d 8 * 10 + d 9 =
        ap (λ (j : ℕ). j % 256) (paired ∙ omega arith)
        ∙ low (before-tenths * 65536 + d 7 * 256 + (d 7 * 10 + d 8)) (d 8 * 10 + d 9) (omega (arith, every_digit)) in (
          minutes ∙ sym (two_number 2 t (omega arith)),
          seconds ∙ sym (two_number 4 t (omega arith)),
          rw (three_number 7 t (omega arith), two_number 8 t (omega arith)) (omega (arith, tenths, rest)),
        )
