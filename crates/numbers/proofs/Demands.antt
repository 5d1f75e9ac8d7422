-- What document 01 asks of numbers in bytes: 'Numbers are big-endian', 'two's complement'. Stated over specs/ alone. Assumes
-- nothing.
use mathlib.Core.Path.{◌≡◌, refl}
use mathlib.Core.Bool.{true}
use mathlib.Core.List.{List, [], ◌∷◌}
use Prim.Native.Nat.{ℕ, ◌<◌, ◌^◌}
use lib.IntN.{ℤ, pos, neg_ℤ}
use lib.ListN.{length}
use Rattle.whole.specs.Places.{from_places, in_places}
use Rattle.kinds.specs.Kinds.{is_four_bytes}
use Rattle.kinds.proofs.Tested.{of_four_bytes}
use Rattle.numbers.specs.Numbers.{are_bytes, number, in_bytes, complement, signed}
use Rattle.numbers.proofs.Numbers as numbers

-- a number is read back from its bytes, and bytes are written back from their number
pub number_back : (w n : ℕ) → n < 256 ^ w → number (in_bytes w n) ≡ n
number_back w n h = numbers.number_back w n h

pub bytes_back : (bytes : List ℕ) → are_bytes bytes ≡ true → in_bytes (length bytes) (number bytes) ≡ bytes
bytes_back bytes h = numbers.bytes_back bytes h

-- likewise a signed one
pub signed_back : (x : ℤ) → is_four_bytes x ≡ true → signed (complement x) ≡ x
signed_back x h = numbers.signed_back x (of_four_bytes x h)

pub complement_back : (n : ℕ) → n < 4294967296 → complement (signed n) ≡ n
complement_back n h = numbers.complement_back n h

-- the first byte counts most: code 1's dLat at its centre is FF FA 22 E0, and its dH 00 00 5F 6E; two bytes 01 F4 are 500
pub record Examples : Type 0 where
  pub below_zero : in_bytes 4 (complement (neg_ℤ (pos 384288))) ≡ 255 ∷ 250 ∷ 34 ∷ 224 ∷ []
  pub above_zero : in_bytes 4 (complement (pos 24430)) ≡ 0 ∷ 0 ∷ 95 ∷ 110 ∷ []
  pub read_signed : signed (number (255 ∷ 250 ∷ 34 ∷ 224 ∷ [])) ≡ neg_ℤ (pos 384288)
  pub read_count : number (1 ∷ 244 ∷ []) ≡ 500

pub examples : Examples
unfolding number in_bytes from_places in_places complement signed
examples = record { below_zero = refl; above_zero = refl; read_signed = refl; read_count = refl }
