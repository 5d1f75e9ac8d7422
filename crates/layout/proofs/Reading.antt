-- What each return of the reading of a sheet answers, by the tests that led there. Assumes nothing.
use mathlib.Core.Path.{◌≡◌, refl, sym, ap, ◌∙◌}
use mathlib.Core.Bool.{Bool, true, false, not, false≢true}
use mathlib.Core.List.{List, ◌++◌}
use mathlib.Core.Logic.{inl, inr}
use Prim.Native.Nat.{ℕ, ◌+◌, ◌-◌, ◌*◌, ◌<◌, ◌≤◌}
use native.Mathlib.Omega.{arith}
use lib.Dec.{eqb, leb}
use lib.IntN.{ℤ, pos, negsuc}
use lib.ListN.{length, take, drop}
use borrow.Author.Tests.{leb-true, eqb-true, eqb-false, le-leb, lt-leb, eq-eqb, ne_eqb}
use mir.Syntax.{w64}
use mir.Val.{SFits, of_z}
use Rattle.kinds.specs.Answer.{Answer, gives, refused, Test, in_order, FirstFails}
use Rattle.kinds.specs.Bytes.{part}
use Rattle.kinds.proofs.Answers.{same_value, all_held, held, fails, in_two}
use Rattle.numbers.specs.Numbers.{are_bytes, number, in_bytes}
use Rattle.numbers.proofs.Numbers.{part_back, part_below}
use Rattle.layout.specs.Sheet.{serial, datums, codes, count, is_unit, rise, serial_tests, count_tests}
use Rattle.layout.specs.Layout.{counts, laid_out, read_of}
use Rattle.layout.specs.declared.Layout.{Layout}

-- ---- the numbers, as the code reads them
module _ (t : List ℕ) where
  pub serial_is : {s : ℕ} → s ≡ number (part 0 4 t) → s ≡ serial t
  unfolding serial
  serial_is e = e

  pub datums_is : {d : ℕ} → d ≡ number (part 4 1 t) → d ≡ datums t
  unfolding datums
  datums_is e = e

  pub count_is : {d n : ℕ} → d ≡ datums t → n ≡ number (part (5 + d) 2 t) → n ≡ count t
  unfolding count
  count_is is-d e = e ∙ ap (λ (d : ℕ). number (part (5 + d) 2 t)) is-d

-- the serial, of bytes
module _ (t : List ℕ) (bytes : are_bytes t ≡ true) (long : 4 ≤ length t) where
  pub serial_below : serial t < 4294967296
  unfolding serial
  serial_below = part_below 0 4 t long bytes

  pub serial_bytes : in_bytes 4 (serial t) ≡ part 0 4 t
  unfolding serial
  serial_bytes = part_back 0 4 t long bytes

-- ---- the unit's own number
pub is_unit_lem : (unit : ℤ) (s : ℕ) → is_unit unit s ≡ true → unit ≡ pos s
unfolding is_unit
is_unit_lem (pos n) s h = ap pos (sym (eqb-true s n h))
is_unit_lem (negsuc n) s h = absurd (false≢true h)

pub not_unit : (unit : ℤ) (s : ℕ) → is_unit unit s ≡ false → unit ≡ pos s → ⊥
unfolding is_unit
not_unit (pos n) s h e =
    let same : n ≡ s = cc in
    eqb-false s n h (sym same)
not_unit (negsuc n) s h e = let z : ◌≡◌ {A = ℕ} 0 1 = cc in omega arith

pub other_unit : (unit : ℤ) (s : ℕ) → (unit ≡ pos s → ⊥) → is_unit unit s ≡ false
unfolding is_unit
other_unit (pos n) s h = ne_eqb s n (λ e. h (ap pos (sym e)))
other_unit (negsuc n) s h = refl

-- a serial is the unit's own number where their bits are the same
pub same_bits : (unit : ℤ) (s : ℕ) → SFits w64 unit → s < 4294967296 → s ≡ of_z w64 unit → is_unit unit s ≡ true
unfolding is_unit
same_bits (pos n) s f h e = eq-eqb s n e
same_bits (negsuc n) s f h e = absurd (omega (arith, f.sfits, h, e))

pub other_bits : (unit : ℤ) (s : ℕ) → (s ≡ of_z w64 unit → ⊥) → is_unit unit s ≡ false
unfolding is_unit
other_bits (pos n) s h = ne_eqb s n h
other_bits (negsuc n) s h = refl

-- ---- after the serial; d, r and n are what the code's functions answer
module _ (t : List ℕ) where
  -- by the first test that fails
  stops : (n : ℕ) → FirstFails (count_tests t) n → refused n ≡ laid_out t
  unfolding laid_out
  stops n f = sym (fails (count_tests t) (gives (counts t)) n f)

  pub datums_cut : length t < 5 → refused 1 ≡ laid_out t
  datums_cut h = stops 1 (inl (lt-leb 5 (length t) h, refl))

  module _ (counted : 5 ≤ length t) {d : ℕ} (is-d : d ≡ datums t) where
    one : leb 5 (length t) ≡ true
    one = le-leb 5 (length t) counted

    pub datums_over : 6 < d → refused 9 ≡ laid_out t
    datums_over h = stops 9 (inr (one, inl (lt-leb (datums t) 6 (omega (arith, h, is-d)), refl)))

    -- the part that is lent
    pub codes_are : take (5 + d - 5) (drop 5 t) ≡ codes t
    unfolding codes
    codes_are =
        let e : 5 + d - 5 ≡ datums t = omega (arith, is-d) in
        ap (λ (n : ℕ). take n (drop 5 t)) e

    pub rise_is : {r : Bool} → r ≡ rise 0 (take (5 + d - 5) (drop 5 t)) → r ≡ rise 0 (codes t)
    rise_is e = e ∙ ap (rise 0) codes_are

    module _ (few : d ≤ 6) where
      two : leb (datums t) 6 ≡ true
      two = le-leb (datums t) 6 (omega (arith, few, is-d))

      pub codes_cut : length t < 5 + d → refused 1 ≡ laid_out t
      codes_cut h = stops 1 (inr (one, inr (two, inl (lt-leb (5 + datums t) (length t) (omega (arith, h, is-d)), refl))))

      module _ (listed : 5 + d ≤ length t) {r : Bool} (is-r : r ≡ rise 0 (codes t)) where
        three : leb (5 + datums t) (length t) ≡ true
        three = le-leb (5 + datums t) (length t) (omega (arith, listed, is-d))

        pub codes_wrong : r ≡ false → refused 9 ≡ laid_out t
        codes_wrong h = stops 9 (inr (one, inr (two, inr (three, inl (sym is-r ∙ h, refl)))))

        module _ (right : r ≡ true) where
          four : rise 0 (codes t) ≡ true
          four = sym is-r ∙ right

          pub count_cut : length t < 5 + d + 2 → refused 1 ≡ laid_out t
          count_cut h = stops 1 (inr (one, inr (two, inr (three, inr (four, inl (lt-leb (7 + datums t) (length t) (omega (arith, h, is-d)), refl))))))

          module _ (known : 5 + d + 2 ≤ length t) {n : ℕ} (is-n : n ≡ count t) where
            five : leb (7 + datums t) (length t) ≡ true
            five = le-leb (7 + datums t) (length t) (omega (arith, known, is-d))

            pub count_over : 500 < n → refused 9 ≡ laid_out t
            count_over h = stops 9 (inr (one, inr (two, inr (three, inr (four, inr (five, inl (lt-leb (count t) 500 (omega (arith, h, is-n)), refl)))))))

            module _ (most : n ≤ 500) where
              six : leb (count t) 500 ≡ true
              six = le-leb (count t) 500 (omega (arith, most, is-n))

              pub wrong_length : (length t ≡ 5 + d + 2 + n * 9 → ⊥) → refused 1 ≡ laid_out t
              wrong_length h = stops 1 (inr (one, inr (two, inr (three, inr (four, inr (five, inr (six, inl (ne_eqb (length t) (7 + datums t + count t * 9) (λ e. h (omega (arith, e, is-d, is-n))), refl))))))))

              pub all_there : length t ≡ 5 + d + 2 + n * 9 → ◌≡◌ {A = Answer Layout} (gives (record { datums = d; points = n })) (laid_out t)
              unfolding laid_out
              all_there h =
                  let seven = eq-eqb (length t) (7 + datums t + count t * 9) (omega (arith, h, is-d, is-n)) in
                  (λ i. gives (record { datums = is-d i; points = is-n i }))
                  ∙ sym (held (count_tests t) (gives (counts t)) (one, (two, (three, (four, (five, (six, (seven, tt))))))))

-- ---- what passed them
pub record Laid (t : List ℕ) (layout : Layout) : Type 0 where
  pub is_datums : layout.datums ≡ datums t
  pub is_points : layout.points ≡ count t
  pub few : datums t ≤ 6
  pub right : rise 0 (codes t) ≡ true
  pub most : count t ≤ 500
  pub long : length t ≡ 7 + datums t + count t * 9

pub laid : (t : List ℕ) (layout : Layout) → laid_out t ≡ gives layout → Laid t layout
unfolding laid_out
laid t layout h =
    let (passed, told) = all_held (count_tests t) (gives (counts t)) h in
    let (_, (few, (_, (right, (_, (most, (long, _))))))) = passed in
    let same : counts t ≡ layout = same_value told in
    record {
      is_datums = sym (ap (λ (l : Layout). l.datums) same);
      is_points = sym (ap (λ (l : Layout). l.points) same);
      few = leb-true (datums t) 6 few;
      right = right;
      most = leb-true (count t) 500 most;
      long = eqb-true (length t) (7 + datums t + count t * 9) long;
    }

-- ---- the serial; s is what the code reads
module _ (unit : ℤ) (t : List ℕ) where
  refuses : (n : ℕ) → FirstFails (serial_tests unit t) n → refused n ≡ read_of unit t
  unfolding read_of
  refuses n f = sym (fails (serial_tests unit t) (laid_out t) n f)

  pub serial_cut : length t < 4 → refused 1 ≡ read_of unit t
  serial_cut h = refuses 1 (inl (lt-leb 4 (length t) h, refl))

  module _ (long : 4 ≤ length t) {s : ℕ} (is-s : s ≡ serial t) where
    there : leb 4 (length t) ≡ true
    there = le-leb 4 (length t) long

    pub serial_zero : s ≡ 0 → refused 9 ≡ read_of unit t
    serial_zero h = refuses 9 (inr (there, inl (ap not (eq-eqb (serial t) 0 (sym is-s ∙ h)), refl)))

    module _ (some : s ≡ 0 → ⊥) where
      not_zero : not (eqb (serial t) 0) ≡ true
      not_zero = ap not (ne_eqb (serial t) 0 (λ e. some (is-s ∙ e)))

      pub serial_foreign : is_unit unit s ≡ false → refused 8 ≡ read_of unit t
      serial_foreign h = refuses 8 (inr (there, inr (not_zero, inl (ap (is_unit unit) (sym is-s) ∙ h, refl))))

      pub serial_own : is_unit unit s ≡ true → laid_out t ≡ read_of unit t
      unfolding read_of
      serial_own h = sym (held (serial_tests unit t) (laid_out t) (there, (not_zero, (ap (is_unit unit) (sym is-s) ∙ h, tt))))

-- ---- all that is tested, in one
abbrev pub front : ℤ → List ℕ → List Test
front unit t = serial_tests unit t ++ count_tests t

pub in_front : (unit : ℤ) (t : List ℕ) → read_of unit t ≡ in_order (front unit t) (gives (counts t))
unfolding read_of laid_out
in_front unit t = sym (in_two (serial_tests unit t) (count_tests t) (gives (counts t)))
