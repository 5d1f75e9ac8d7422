-- Big-endian numbers, as the code reads and writes them. Assumes nothing.
use Rattle.std.specs.Int.{w32, to_be_bytes, from_be_bytes, cast_signed, cast_unsigned}
use mathlib.Core.Path.{◌≡◌, refl, sym, ap, ◌∙◌, subst}
use mathlib.Core.Bool.{true}
use mathlib.Core.List.{List, [], ◌∷◌}
use Prim.Native.Nat.{ℕ, suc, ◌+◌, ◌-◌, ◌/◌, ◌%◌, ◌<◌, ◌≤◌, ◌^◌}
use native.Mathlib.Nat.{div-one}
use native.Mathlib.Omega.{arith}
use lib.Dec.{ltb}
use lib.IntN.{ℤ, pos, negsuc}
use lib.ListN.{length, drop}
use borrow.Author.Tests.{ltb-true, ltb-false, lt-ltb, le-ltb}
use borrow.Rule.Slice.PartMut.{put_mid}
use mir.Syntax.{w64}
use mir.Val.{SFits, to_z}
use Rattle.whole.proofs.Ring.{pos_sub}
use Rattle.whole.proofs.Words.{from_unsigned}
use Rattle.whole.proofs.Bools.{by_test, joined}
use Rattle.whole.proofs.Places.{from_in_places, from_below, in_from_places}
use Rattle.whole.proofs.Every.{every_cut}
use Rattle.whole.specs.Places.{from_places, in_places}
use Rattle.kinds.specs.Bytes.{part}
use Rattle.kinds.proofs.Bytes.{at, part_one, length_part}
use Rattle.numbers.specs.Numbers.{are_bytes, number, in_bytes, complement, signed}

-- ---- unsigned
-- up to four bytes, as the last of a word of which the others are zero
word_read : (t : List ℕ) → length t ≤ 4 → from_be_bytes w32 (put_mid (4 - length t) (4 - (4 - length t)) (0 ∷ 0 ∷ 0 ∷ 0 ∷ []) t) ≡ number t
unfolding number from_places
word_read [] h = refl
word_read (a ∷ []) h = omega arith
word_read (a ∷ b ∷ []) h = omega arith
word_read (a ∷ b ∷ c ∷ []) h = omega arith
word_read (a ∷ b ∷ c ∷ d ∷ []) h = omega arith
word_read (a ∷ b ∷ c ∷ d ∷ e ∷ t) h = absurd (omega arith)

pub unsigned_read : (from n : ℕ) (t : List ℕ) → from + n ≤ length t → n ≤ 4 → {held : List ℕ} → held ≡ part from n t
    → from_be_bytes w32 (put_mid (4 - n) (4 - (4 - n)) (0 ∷ 0 ∷ 0 ∷ 0 ∷ []) held) ≡ number (part from n t)
unsigned_read from n t there few e =
    let long = length_part from n t there in
    simp e (subst (λ (w : ℕ). from_be_bytes w32 (put_mid (4 - w) (4 - (4 - w)) (0 ∷ 0 ∷ 0 ∷ 0 ∷ []) (part from n t)) ≡ number (part from n t)) long (word_read (part from n t) (omega (arith, long))))

-- one byte says itself
pub one_read : (from : ℕ) (t : List ℕ) → from + 1 ≤ length t → at t from ≡ number (part from 1 t)
unfolding number from_places
one_read from t h = sym (ap number (part_one from t h) ∙ omega arith)

pub word_written : (n : ℕ) → to_be_bytes w32 n ≡ in_bytes 4 n
unfolding in_bytes in_places
word_written n = simp div-one refl

-- the same by quotients: `in_four` needs it not, but a slip of it is written so, and is to be refused for its numbers alone
pub four_written : (n : ℕ) → n < 4294967296 → n / 16777216 ∷ n / 65536 % 256 ∷ n / 256 % 256 ∷ n % 256 ∷ [] ≡ in_bytes 4 n
unfolding in_bytes in_places
four_written n h =
    let a : n / 16777216 ≡ n / 16777216 % 256 = omega arith in
    let d : n % 256 ≡ n / 1 % 256 = omega arith in
    λ i. a i ∷ n / 65536 % 256 ∷ n / 256 % 256 ∷ d i ∷ []

-- ---- two's complement
pub complement_is : (x : ℤ) → cast_unsigned w32 x ≡ complement x
unfolding complement
complement_is (pos n) = refl
complement_is (negsuc n) = refl

-- what a number of 4 bytes stands for, by its case
low_is : (n : ℕ) → n < 2147483648 → signed n ≡ pos n
unfolding signed
low_is n h = simp (lt-ltb n 2147483648 h)

-- that half by a test: `signed` needs it not, but a slip of it is written so
pub signed_low : (n : ℕ) → n < 2147483648 → to_z w64 n ≡ signed n
unfolding signed
signed_low n h = (from_unsigned {w = w64} {n = n} (omega arith)).reads ∙ simp (lt-ltb n 2147483648 h)

high_is : (n : ℕ) → 2147483648 ≤ n → n < 4294967296 → signed n ≡ negsuc (4294967296 - suc n)
unfolding signed
high_is n h k = simp (le-ltb n 2147483648 h) (pos_sub n 4294967296 ∙ simp (lt-ltb n 4294967296 k))

module _ (n : ℕ) (h : n < 4294967296) where
  by_half : (P : ℤ → Type 0) → (n < 2147483648 → P (pos n)) → (2147483648 ≤ n → P (negsuc (4294967296 - suc n))) → P (signed n)
  by_half P low high =
      by_test (ltb n 2147483648)
      (λ t. subst P (sym (low_is n (ltb-true n 2147483648 t))) (low (ltb-true n 2147483648 t)))
      (λ t. subst P (sym (high_is n (ltb-false n 2147483648 t) h)) (high (ltb-false n 2147483648 t)))

  pub signed_is : cast_signed w32 n ≡ signed n
  signed_is = by_half (λ z. cast_signed w32 n ≡ z) (λ low. simp (lt-ltb n 2147483648 low) refl) (λ high. simp (le-ltb n 2147483648 high) refl)

  pub complement_back : complement (signed n) ≡ n
  unfolding complement
  complement_back = by_half (λ z. complement z ≡ n) (λ low. refl) (λ high. omega (arith, high, h))

  pub signed_fits : SFits w32 (signed n)
  signed_fits = by_half (SFits w32) (λ low. record { sfits = low }) (λ high. record { sfits = omega (arith, high, h) })

-- ---- there and back
pub number_back : (w n : ℕ) → n < 256 ^ w → number (in_bytes w n) ≡ n
unfolding number in_bytes
number_back w n h = from_in_places 256 (omega arith) w n h

pub bytes_back : (bytes : List ℕ) → are_bytes bytes ≡ true → in_bytes (length bytes) (number bytes) ≡ bytes
unfolding number in_bytes
bytes_back bytes h = in_from_places 256 (omega arith) bytes h

number_below : (bytes : List ℕ) → are_bytes bytes ≡ true → number bytes < 256 ^ length bytes
unfolding number
number_below bytes h = from_below 256 (omega arith) bytes h

-- numbers below 256 are bytes
pub are_bytes_lem : (t : List ℕ) → ((i : ℕ) → at t i < 256) → are_bytes t ≡ true
are_bytes_lem [] known = refl
are_bytes_lem (b ∷ t) known = joined (lt-ltb b 256 (known 0)) (are_bytes_lem t (λ i. known (suc i)))

-- the number of a part
module _ (from n : ℕ) (t : List ℕ) (there : from + n ≤ length t) (bytes : are_bytes t ≡ true) where
  in_part : are_bytes (part from n t) ≡ true
  in_part = (every_cut (λ byte. ltb byte 256) n (drop from t) (every_cut (λ byte. ltb byte 256) from t bytes).1).0

  pub part_back : in_bytes n (number (part from n t)) ≡ part from n t
  part_back = subst (λ (w : ℕ). in_bytes w (number (part from n t)) ≡ part from n t) (length_part from n t there) (bytes_back (part from n t) in_part)

  pub part_below : number (part from n t) < 256 ^ n
  part_below = subst (λ (w : ℕ). number (part from n t) < 256 ^ w) (length_part from n t there) (number_below (part from n t) in_part)

pub signed_back : (x : ℤ) → SFits w32 x → signed (complement x) ≡ x
unfolding complement
signed_back (pos n) f = low_is n f.sfits
signed_back (negsuc n) f =
    let e : 4294967296 - suc (4294967296 - suc n) ≡ n = omega (arith, f.sfits) in
    high_is (4294967296 - suc n) (omega (arith, f.sfits)) (omega arith) ∙ ap negsuc e

complement_below : (x : ℤ) → SFits w32 x → complement x < 4294967296
unfolding complement
complement_below (pos n) f = omega (arith, f.sfits)
complement_below (negsuc n) f = omega arith

-- written and read
pub value_back : (x : ℤ) → SFits w32 x → signed (number (in_bytes 4 (complement x))) ≡ x
value_back x f = ap signed (number_back 4 (complement x) (complement_below x f)) ∙ signed_back x f
