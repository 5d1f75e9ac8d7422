-- What the private functions of this crate promise one another.
use Rattle.std.specs.Prelude.{◌≡◌, ℕ, ◌+◌, ◌*◌, ◌/◌, ◌%◌, List, [], ◌∷◌, bit_xor}
use Rattle.whole.specs.Digits.{from_digits}
use Rattle.kinds.specs.Answer.{Answer, gives, ◌else◌, in_order}
use Rattle.kinds.specs.Bytes.{part}
use Rattle.numbers.specs.Numbers.{number}
use Rattle.position.specs.Text.{latitude, minutes, seconds, thousandths, is_angle, in_sixties, angle}

-- what the bytes before the letter say, of a text of a latitude's form
abbrev pub angle_said : List ℕ → Answer ℕ
angle_said t = in_order ((is_angle latitude t else 2) ∷ (in_sixties latitude t else 3) ∷ []) (gives (angle latitude t))

-- the eight bytes `mmss.sss` in one word, less the bits of `0000.000`
unfoldable pub figures : List ℕ → ℕ
figures t = bit_xor (number (part 2 8 t)) 3472328296194125872

-- a word that says them in pairs of digits
abbrev pub InPairs : ℕ → List ℕ → Type 0
InPairs w t =
    (w / 281474976710656 % 256 ≡ from_digits (minutes latitude t)) × (w / 4294967296 % 256 ≡ from_digits (seconds latitude t))
    × (w / 65536 % 256 * 100 + w % 256 ≡ from_digits (thousandths latitude t))
