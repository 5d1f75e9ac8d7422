-- A line that is read, from the answers of its latitude and its longitude. Assumes nothing.
use mathlib.Core.Path.{◌≡◌, refl, sym, ap, ◌∙◌}
use mathlib.Core.Bool.{Bool, true, false, ◌&&◌, and-true}
use mathlib.Core.List.{List, [], ◌∷◌}
use Prim.Native.Nat.{ℕ, ◌-◌, ◌≤◌}
use native.Mathlib.Omega.{arith}
use lib.Dec.{eqb}
use lib.IntN.{ℤ, pos}
use lib.ListN.{length, get_or}
use borrow.Author.Tests.{le-ltb, eq-eqb, ne_eqb}
use Rattle.whole.specs.Digits.{is_digit, digit_of}
use Rattle.whole.proofs.Bools.{both}
use Rattle.kinds.specs.Answer.{Answer, gives, refused, provided, ◌else◌, following, refusal_of}
use Rattle.kinds.proofs.Answers.{not_both, same_value, passed, following_tests}
use Rattle.kinds.proofs.Bytes.{length_part}
use Rattle.position.specs.Text.{latitude, longitude, right_kinds, right_ranges, value, read}
use Rattle.position.proofs.Reading.{right_length}
use Rattle.line.specs.Line.{space, code_byte, latitude_text, longitude_text, code}
use Rattle.line.specs.Inside.{Said, point_said, first_refusal}

-- ---- a coordinate by its tests: of its kinds and of its ranges
abbrev tested : Bool → Bool → ℤ → Answer ℤ
tested kinds ranges x = provided kinds 2 (provided ranges 3 (gives x))

-- of a latitude that was read, and a longitude's answer
abbrev with_longitude : ℤ → ℤ → Answer ℤ → Answer Said
with_longitude code north read = following read (λ east. gives (record { code = code; latitude = north; longitude = east }))

-- both together: the latitude was read, or it was refused
module _ (code north east : ℤ) where
  abbrev together : Bool → Bool → Bool → Bool → Answer Said
  together kl rl ko ro = provided (kl && ko) 2 (provided (rl && ro) 3 (gives (record { code = code; latitude = north; longitude = east })))

  read_together : (kl rl ko ro : Bool) {x : ℤ} → tested kl rl north ≡ gives x → with_longitude code x (tested ko ro east) ≡ together kl rl ko ro
  read_together kl rl ko ro h =
      let k = passed kl 2 (provided rl 3 (gives north)) h in
      let r = passed rl 3 (gives north) k.1 in
      rw (k.0, r.0, sym (same_value r.1))
      (following_tests ((ko else 2) ∷ (ro else 3) ∷ []) (gives east) (λ y. gives (record { code = code; latitude = north; longitude = y })))

  refused_together : (kl rl ko ro : Bool) {n : ℕ} → tested kl rl north ≡ refused n → refused (first_refusal n (tested ko ro east)) ≡ together kl rl ko ro
  refused_together kl rl ko ro h = ap (λ (m : ℕ). refused (first_refusal m (tested ko ro east))) (sym (ap refusal_of h)) ∙ go kl rl ko ro h
    where
      go : (kl rl ko ro : Bool) {n : ℕ} → tested kl rl north ≡ refused n → refused (first_refusal (refusal_of (tested kl rl north)) (tested ko ro east)) ≡ together kl rl ko ro
      go false rl false ro h = refl
      go false rl true false h = refl
      go false rl true true h = refl
      go true false false ro h = refl
      go true false true false h = refl
      go true false true true h = refl
      go true true ko ro h = absurd (not_both h)

-- the lower number of two, where it is the latitude's
pub not_lower : {n m : ℕ} → n ≤ m → n ≡ first_refusal n (refused m)
not_lower {n} {m} h = simp (le-ltb m n h)

-- a wrong byte is refused as such, whatever the longitude's text
pub kind_first : (t : List ℕ) {n : ℕ} → length t ≡ 12 → n ≡ 2 → n ≡ first_refusal n (read longitude t)
kind_first t {n} long h = go (right_kinds longitude t) (right_ranges longitude t) ∙ ap (first_refusal n) (sym (right_length longitude t long))
  where
    go : (kinds ranges : Bool) → n ≡ first_refusal n (tested kinds ranges (value longitude t))
    go false ranges = not_lower (omega (arith, h))
    go true false = not_lower (omega (arith, h))
    go true true = refl

-- ---- the bytes between them
wrong_first : (d s kl z ko : Bool) → d && s && z ≡ false → d && s && kl && z && ko ≡ false
wrong_first false s kl z ko h = refl
wrong_first true false kl z ko h = refl
wrong_first true true false z ko h = refl
wrong_first true true true false ko h = refl
wrong_first true true true true ko h = absurd (let z : ◌≡◌ {A = ℕ} 0 1 = cc in omega arith)

-- ---- by what the code tests
module _ (t : List ℕ) where
  -- the code digit and the two spaces
  abbrev pub between : Bool
  between = is_digit (code_byte t) && eqb (get_or t 1 0) space && eqb (get_or t 13 0) space

  pub wrong_length : (length t ≡ 26 → ⊥) → refused 1 ≡ point_said t
  unfolding point_said
  wrong_length h = simp (ne_eqb (length t) 26 h)

  module _ (long : length t ≡ 26) where
    pub wrong_kind : between ≡ false → refused 2 ≡ point_said t
    unfolding point_said
    wrong_kind h = simp (eq-eqb (length t) 26 long, wrong_first (is_digit (code_byte t)) (eqb (get_or t 1 0) space) (right_kinds latitude (latitude_text t)) (eqb (get_or t 13 0) space) (right_kinds longitude (longitude_text t)) h)

    latitude_is : read latitude (latitude_text t) ≡ tested (right_kinds latitude (latitude_text t)) (right_ranges latitude (latitude_text t)) (value latitude (latitude_text t))
    latitude_is = right_length latitude (latitude_text t) (length_part 2 11 t (omega (arith, long)))

    longitude_is : read longitude (longitude_text t) ≡ tested (right_kinds longitude (longitude_text t)) (right_ranges longitude (longitude_text t)) (value longitude (longitude_text t))
    longitude_is = right_length longitude (longitude_text t) (length_part 14 12 t (omega (arith, long)))

    module _ (right : between ≡ true) where
      digit_and_spaces : (is_digit (code_byte t) ≡ true) × ((eqb (get_or t 1 0) space ≡ true) × (eqb (get_or t 13 0) space ≡ true))
      digit_and_spaces =
          let a = both (is_digit (code_byte t) && eqb (get_or t 1 0) space) (eqb (get_or t 13 0) space) right in
          let b = both (is_digit (code_byte t)) (eqb (get_or t 1 0) space) a.0 in
          (b.0, (b.1, a.1))

      together_is : together (code t) (value latitude (latitude_text t)) (value longitude (longitude_text t)) (right_kinds latitude (latitude_text t)) (right_ranges latitude (latitude_text t)) (right_kinds longitude (longitude_text t)) (right_ranges longitude (longitude_text t)) ≡ point_said t
      unfolding point_said
      together_is = simp (eq-eqb (length t) 26 long, digit_and_spaces.0, digit_and_spaces.1.0, digit_and_spaces.1.1, and-true)

      -- c is the code as the code holds it, and east what reading the longitude answers
      pub latitude_read : {c x : ℤ} {east : Answer ℤ} → c ≡ pos (get_or t 0 0 - 48) → read latitude (latitude_text t) ≡ gives x → east ≡ read longitude (longitude_text t) → with_longitude c x east ≡ point_said t
      unfolding digit_of
      latitude_read {x = x} is_c h e =
          (λ i. with_longitude (is_c i) x ((e ∙ longitude_is) i))
          ∙ read_together (code t) (value latitude (latitude_text t)) (value longitude (longitude_text t)) (right_kinds latitude (latitude_text t)) (right_ranges latitude (latitude_text t)) (right_kinds longitude (longitude_text t)) (right_ranges longitude (longitude_text t)) (sym latitude_is ∙ h)
          ∙ together_is

      pub latitude_refused : {n m : ℕ} → read latitude (latitude_text t) ≡ refused n → m ≡ first_refusal n (read longitude (longitude_text t)) → refused m ≡ point_said t
      latitude_refused {n} h e =
          ap refused (e ∙ ap (first_refusal n) longitude_is)
          ∙ refused_together (code t) (value latitude (latitude_text t)) (value longitude (longitude_text t)) (right_kinds latitude (latitude_text t)) (right_ranges latitude (latitude_text t)) (right_kinds longitude (longitude_text t)) (right_ranges longitude (longitude_text t)) (sym latitude_is ∙ h)
          ∙ together_is
