-- What document 01 asks of a unit sheet, and of its reading up to the codes of its points. Stated over specs/ alone. Assumes
-- nothing.
use mathlib.Core.Path.{◌≡◌, refl, sym, ap, ◌∙◌, subst}
use mathlib.Core.Bool.{true, false, not, ◌||◌, false≢true}
use mathlib.Core.List.{List, [], ◌∷◌, ◌++◌}
use mathlib.Core.Logic.{◌↔◌, ◌⊎◌, inl, inr}
use Prim.Native.Nat.{ℕ, zero, suc, ◌<◌, ◌≤◌}
use native.Mathlib.Omega.{arith}
use lib.Dec.{eqb}
use lib.IntN.{ℤ, pos, neg_ℤ}
use lib.ListN.{length, get_or}
use borrow.Author.Tests.{leb-true, le-leb, eqb-true, eqb-false, eq-eqb, ne_eqb, not-true}
use Rattle.whole.specs.Places.{from_places}
use Rattle.whole.proofs.Bools.{joined, either}
use Rattle.kinds.specs.Answer.{Answer, gives, refused, AllHold, FirstFails}
use Rattle.kinds.specs.Kinds.{within}
use Rattle.kinds.proofs.Answers.{first_number, determined}
use Rattle.kinds.proofs.Demands as kinds
use Rattle.numbers.specs.Numbers.{are_bytes, number}
use Rattle.layout.specs.Sheet.{Sheet, serial, datums, codes, count, is_unit, rise, is_listed, serial_tests, count_tests, sheet_of}
use Rattle.layout.specs.Form.{sheet_bytes, is_sheet}
use Rattle.layout.specs.Layout.{counts, layout_answer, laid_out, read_of}
use Rattle.layout.specs.declared.Layout.{Layout}
use Rattle.std.specs.Prelude.{Result}
use Rattle.kinds.specs.declared.Refusal.{Refusal}
use Rattle.layout.proofs.Codes.{six, risen, rises, listed_at, at_listed}
use Rattle.layout.proofs.Reading.{front, in_front, serial_below, is_unit_lem, not_unit, other_unit}
use Rattle.layout.proofs.Form as form

-- ---- 'A sheet is: serial, 4 bytes, not zero; a count of datums ..': a sheet as it is made, from its parts
-- by its own unit it is read as what it was made of
pub made_reads : (sheet : Sheet) → is_sheet sheet ≡ true → sheet_of (pos sheet.serial) (sheet_bytes sheet) ≡ gives sheet
made_reads sheet h = form.made_reads sheet h

-- and what is read was so made, of what a sheet may have, for the unit that reads it: no other bytes are accepted
pub reads_made : (unit : ℤ) (bytes : List ℕ) (sheet : Sheet) → are_bytes bytes ≡ true → sheet_of unit bytes ≡ gives sheet
    → (unit ≡ pos sheet.serial) × ((is_sheet sheet ≡ true) × (sheet_bytes sheet ≡ bytes))
reads_made unit bytes sheet are h = form.reads_made unit bytes sheet are h

-- ---- 'that many codes, strictly rising', 'a point's code is not listed'
-- codes pass exactly where they are 1 to 6 and each is above those before it
pub codes_rise : (codes : List ℕ) → (rise 0 codes ≡ true)
    ↔ (((i : ℕ) → i < length codes → (1 ≤ get_or codes i 0) × (get_or codes i 0 ≤ 6)) × ((i j : ℕ) → i < j → j < length codes → get_or codes i 0 < get_or codes j 0))
codes_rise codes = ((λ h. ((λ i more. six 0 codes h i more), (λ i j k more. risen 0 codes h i j k more))), (λ h. rises 0 codes h.0 h.1))

-- a code is listed exactly where it stands among them
pub listed_where : (listed : List ℕ) (code : ℕ) → (is_listed listed code ≡ true) ↔ ((i : ℕ) × ((i < length listed) × (get_or listed i 0 ≡ code)))
listed_where listed code = ((λ h. listed_at listed code h), (λ there. subst (λ (c : ℕ). is_listed listed c ≡ true) there.1.1 (at_listed listed there.0 there.1.0)))

-- ---- 'For a sheet, in the order of its bytes: ..', up to the codes of its points
module _ (unit : ℤ) (bytes : List ℕ) where
  -- a sheet is read exactly where every test holds, and then its counts are given
  pub read_where : (layout : Layout) → (read_of unit bytes ≡ gives layout) ↔ (AllHold (serial_tests unit bytes ++ count_tests bytes) × (counts bytes ≡ layout))
  read_where layout = subst (λ (a : Answer Layout). (a ≡ gives layout) ↔ (AllHold (front unit bytes) × (counts bytes ≡ layout))) (sym (in_front unit bytes)) (kinds.given_where (front unit bytes) (counts bytes) layout)

  -- and is refused exactly with the number of the first test that does not hold
  pub refused_where : (n : ℕ) → (read_of unit bytes ≡ refused n) ↔ FirstFails (serial_tests unit bytes ++ count_tests bytes) n
  refused_where n = subst (λ (a : Answer Layout). (a ≡ refused n) ↔ FirstFails (front unit bytes) n) (sym (in_front unit bytes)) (kinds.refused_where (front unit bytes) (counts bytes) n)

  -- the third test, and no other
  third : FirstFails (front unit bytes) 8 → (4 ≤ length bytes) × ((serial bytes ≡ 0 → ⊥) × (unit ≡ pos (serial bytes) → ⊥))
  third (inl f) = absurd (omega (arith, f.1))
  third (inr (long, inl f)) = absurd (omega (arith, f.1))
  third (inr (long, inr (some, inl f))) = (leb-true 4 (length bytes) long, (eqb-false (serial bytes) 0 (not-true (eqb (serial bytes) 0) some), not_unit unit (serial bytes) f.0))
  third (inr (long, inr (some, inr (own, f)))) = absurd (false≢true (first_number (λ m. not (eqb m 8)) (count_tests bytes) 8 refl f))

  -- 'the sheet's serial is not zero and not the unit's'
  pub given_8 : (read_of unit bytes ≡ refused 8) ↔ ((4 ≤ length bytes) × ((serial bytes ≡ 0 → ⊥) × (unit ≡ pos (serial bytes) → ⊥)))
  given_8 = (
    (λ h. third ((refused_where 8).0 h)),
    (λ h. (refused_where 8).1 (inr (le-leb 4 (length bytes) h.0, inr (ap not (ne_eqb (serial bytes) 0 h.1.0), inl (other_unit unit (serial bytes) h.1.1, refl))))),
  )

  -- no other numbers are given
  pub given_one_of : (n : ℕ) → read_of unit bytes ≡ refused n → (n ≡ 1) ⊎ ((n ≡ 9) ⊎ (n ≡ 8))
  given_one_of n h =
      either (eqb n 1) (eqb n 9 || eqb n 8) (first_number (λ m. eqb m 1 || (eqb m 9 || eqb m 8)) (front unit bytes) n refl ((refused_where n).0 h)) (λ e. inl (eqb-true n 1 e))
      (λ e. inr (either (eqb n 9) (eqb n 8) e (λ e. inl (eqb-true n 9 e)) (λ e. inr (eqb-true n 8 e))))

  -- a sheet whose serial is zero gives 9 to every unit, to one whose number is zero too
  pub zero_serial : 4 ≤ length bytes → serial bytes ≡ 0 → read_of unit bytes ≡ refused 9
  zero_serial long none = (refused_where 9).1 (inr (le-leb 4 (length bytes) long, inl (ap not (eq-eqb (serial bytes) 0 none), refl)))

  -- what is read is the unit's own, and has a serial
  pub own : {layout : Layout} → read_of unit bytes ≡ gives layout → (unit ≡ pos (serial bytes)) × (serial bytes ≡ 0 → ⊥)
  own {layout} h =
      let (_, (some, (same, _))) = ((read_where layout).0 h).0 in
      (is_unit_lem unit (serial bytes) same, eqb-false (serial bytes) 0 (not-true (eqb (serial bytes) 0) some))

  -- a unit whose number is no serial has no sheet: one with a serial gives it 8
  pub no_serial : within (pos 1) (pos 4294967295) unit ≡ false → are_bytes bytes ≡ true → 4 ≤ length bytes → (serial bytes ≡ 0 → ⊥) → read_of unit bytes ≡ refused 8
  no_serial other bytes-are long some = given_8.1 (long, (some, λ same. false≢true (sym other ∙ ap (within (pos 1) (pos 4294967295)) same ∙ is_serial (serial bytes) some (serial_below bytes bytes-are long))))
    where
      one_up : (s : ℕ) → (s ≡ 0 → ⊥) → 1 ≤ s
      one_up zero some = absurd (some refl)
      one_up (suc s) some = omega arith

      is_serial : (s : ℕ) → (s ≡ 0 → ⊥) → s < 4294967296 → within (pos 1) (pos 4294967295) (pos s) ≡ true
      is_serial s some below = joined (le-leb 1 s (one_up s some)) (le-leb s 4294967295 (omega arith))

-- two results that say the same are the same
pub layout_determined : (a b : Result Layout Refusal) → layout_answer a ≡ layout_answer b → a ≡ b
layout_determined = determined (λ l. l) (λ l. l) (λ _. refl)

-- where two are due, the first in the order of the bytes; with them units 0 and -1, and then a code listed twice and a byte that
-- follows; and read, a sheet of all six codes and one of 7 bytes, with no datums
pub record Orders : Type 0 where
  pub cut_and_zero : read_of (pos 1) (0 ∷ 0 ∷ 0 ∷ []) ≡ refused 1
  pub zero_and_foreign : read_of (pos 1) (0 ∷ 0 ∷ 0 ∷ 0 ∷ []) ≡ refused 9
  pub zero_for_unit_zero : read_of (pos 0) (0 ∷ 0 ∷ 0 ∷ 0 ∷ 0 ∷ 0 ∷ 0 ∷ []) ≡ refused 9
  pub unit_below_zero : read_of (neg_ℤ (pos 1)) (255 ∷ 255 ∷ 255 ∷ 255 ∷ 0 ∷ 0 ∷ 0 ∷ []) ≡ refused 8
  pub foreign_and_cut : read_of (pos 1) (0 ∷ 0 ∷ 0 ∷ 2 ∷ []) ≡ refused 8
  pub over_and_cut : read_of (pos 1) (0 ∷ 0 ∷ 0 ∷ 1 ∷ 7 ∷ []) ≡ refused 9
  pub cut_and_wrong : read_of (pos 1) (0 ∷ 0 ∷ 0 ∷ 1 ∷ 2 ∷ 7 ∷ []) ≡ refused 1
  pub wrong_and_cut : read_of (pos 1) (0 ∷ 0 ∷ 0 ∷ 1 ∷ 1 ∷ 7 ∷ 1 ∷ []) ≡ refused 9
  pub over_and_length : read_of (pos 1) (0 ∷ 0 ∷ 0 ∷ 1 ∷ 0 ∷ 1 ∷ 245 ∷ []) ≡ refused 9
  pub length_and_unlisted : read_of (pos 1) (0 ∷ 0 ∷ 0 ∷ 1 ∷ 0 ∷ 0 ∷ 1 ∷ 1 ∷ []) ≡ refused 1
  pub repeated : read_of (pos 1) (0 ∷ 0 ∷ 0 ∷ 1 ∷ 2 ∷ 3 ∷ 3 ∷ 0 ∷ 0 ∷ []) ≡ refused 9
  pub followed : read_of (pos 1) (0 ∷ 0 ∷ 0 ∷ 1 ∷ 0 ∷ 0 ∷ 0 ∷ 0 ∷ []) ≡ refused 1
  pub six_listed : read_of (pos 1) (0 ∷ 0 ∷ 0 ∷ 1 ∷ 6 ∷ 1 ∷ 2 ∷ 3 ∷ 4 ∷ 5 ∷ 6 ∷ 0 ∷ 0 ∷ []) ≡ gives (record { datums = 6; points = 0 })
  pub accepted : read_of (pos 1) (0 ∷ 0 ∷ 0 ∷ 1 ∷ 0 ∷ 0 ∷ 0 ∷ []) ≡ gives (record { datums = 0; points = 0 })

pub orders : Orders
unfolding number from_places serial datums codes count is_unit rise laid_out read_of
orders = record {
  cut_and_zero = refl;
  zero_and_foreign = refl;
  zero_for_unit_zero = refl;
  unit_below_zero = refl;
  foreign_and_cut = refl;
  over_and_cut = refl;
  cut_and_wrong = refl;
  wrong_and_cut = refl;
  over_and_length = refl;
  length_and_unlisted = refl;
  repeated = refl;
  followed = refl;
  six_listed = refl;
  accepted = refl;
}
