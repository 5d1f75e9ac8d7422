-- What each return of a reading answers, by the tests that led there. Assumes nothing.
use Rattle.std.proofs.Common.{◌≡◌, ℕ, Bool, true, false, not, ◌&&◌, eqb, List, length, pos, neg_ℤ, sym, refl, ap, ◌∙◌, eq-eqb, ne_eqb}
use Rattle.whole.proofs.Bools.{by_test, joined}
use Rattle.kinds.proofs.Answers.{not_both, passed, same_value}
use Rattle.kinds.specs.Answer.{Answer, gives, refused, provided, refusal_of}
use Rattle.kinds.specs.Kinds.{tested}
use Rattle.position.specs.Text.{Coordinate, letter_s, text_length, is_letter, letter, is_angle, in_sixties, angle, has_text, right_kinds, value, right_ranges, read}

-- tests of which two fail, whatever the third
pub two_fail : (a b c : Bool) → (a && c) ≡ false → ((a && b) && c) ≡ false
two_fail false b c h = refl
two_fail true false c h = refl
two_fail true true c h = h

-- two tests with one refusal
in_turn : {A : Type 0} (a b : Bool) (n : ℕ) (answer : Answer A) → provided a n (provided b n answer) ≡ provided (a && b) n answer
in_turn false b n answer = refl
in_turn true b n answer = refl

-- ---- both texts
module _ (k : Coordinate) (t : List ℕ) where
  -- of the right length, by its kinds and its ranges
  pub right_length : length t ≡ text_length k → read k t ≡ provided (right_kinds k t) 2 (provided (right_ranges k t) 3 (gives (value k t)))
  unfolding read
  right_length h = simp (eq-eqb (length t) (text_length k) h)

  pub wrong_length : (length t ≡ text_length k → ⊥) → refused 1 ≡ read k t
  unfolding read
  wrong_length h = simp (ne_eqb (length t) (text_length k) h)

  module _ (long : length t ≡ text_length k) where
    pub wrong_kind : right_kinds k t ≡ false → refused 2 ≡ read k t
    wrong_kind h = sym (right_length long ∙ simp h)

    module _ (kinds : right_kinds k t ≡ true) where
      pub wrong_range : in_sixties k t ≡ false → refused 3 ≡ read k t
      wrong_range h = sym (right_length long ∙ simp (kinds, h))

      -- the rest is for the constructor to test, once S after zero is refused
      module _ (sixties : in_sixties k t ≡ true) where
        abbrev n : ℕ
        n = angle k t

        pub south : letter k t ≡ letter_s → provided (not (eqb n 0)) 3 (tested (has_text k (neg_ℤ (pos n))) (neg_ℤ (pos n))) ≡ read k t
        south h = in_turn (not (eqb n 0)) (has_text k (neg_ℤ (pos n))) 3 (gives (neg_ℤ (pos n))) ∙ sym (right_length long ∙ simp (kinds, sixties, eq-eqb (letter k t) letter_s h))

        pub not_south : (letter k t ≡ letter_s → ⊥) → tested (has_text k (pos n)) (pos n) ≡ read k t
        not_south h = sym (right_length long ∙ simp (kinds, sixties, ne_eqb (letter k t) letter_s h))

    -- what is told of the bytes before the letter, m being what they say: why they say nothing
    pub untold : is_letter k (letter k t) ≡ true → (m : ℕ) {n : ℕ} → refused n ≡ provided (is_angle k t) 2 (provided (in_sixties k t) 3 (gives m)) → refused n ≡ read k t
    untold l m {n} h =
        by_test (is_angle k t)
        (λ a.
        by_test (in_sixties k t)
        (λ s. absurd (not_both {y = m} (sym (h ∙ simp (a, s)))))
        (λ s. let e : ◌≡◌ {A = Answer ℕ} (refused n) (refused 3) = h ∙ simp (a, s) in ap refused (ap refusal_of e) ∙ wrong_range (joined a l) s))
        (λ a. let e : ◌≡◌ {A = Answer ℕ} (refused n) (refused 2) = h ∙ simp a in ap refused (ap refusal_of e) ∙ wrong_kind (simp a))

-- or what they say
pub told : (a s : Bool) {m n : ℕ} → gives n ≡ provided a 2 (provided s 3 (gives m)) → (a ≡ true) × ((s ≡ true) × (m ≡ n))
told a s {m} h =
    let p = passed a 2 (provided s 3 (gives m)) (sym h) in
    let q = passed s 3 (gives m) p.1 in
    (p.0, (q.0, same_value q.1))
