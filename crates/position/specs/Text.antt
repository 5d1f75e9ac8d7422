-- Document 01, 'Positions': a position as text. A latitude is `ddmmss.sssN` or `S`, a longitude `dddmmss.sssE`; what holds of
-- both is said once.
use Rattle.std.specs.Prelude.{ℕ, ◌+◌, ◌*◌, ◌/◌, ◌%◌, Bool, cond, not, ◌&&◌, ◌||◌, List, [], ◌∷◌, ◌++◌, length, ℤ, pos, negsuc, neg_ℤ, ◌==◌, nat_lt, slice_index, unsigned_abs}
use Rattle.whole.specs.Digits.{all_digits, from_digits, digits}
use Rattle.kinds.specs.Answer.{Answer, gives, Test, ◌else◌, in_order, placed}
use Rattle.kinds.specs.Bytes.{part}
use Rattle.kinds.specs.Kinds.{is_latitude, is_longitude}

pub data Coordinate : Type 0 where
  latitude : Coordinate
  longitude : Coordinate

-- ---- bytes
abbrev pub letter_n : ℕ
letter_n = 78

abbrev pub letter_s : ℕ
letter_s = 83

abbrev pub letter_e : ℕ
letter_e = 69

abbrev pub full_stop : ℕ
full_stop = 46

-- ---- where the two differ
-- how many digits its degrees have
abbrev pub places : Coordinate → ℕ
places latitude = 2
places longitude = 3

-- the numbers that have a text
abbrev pub has_text : Coordinate → ℤ → Bool
has_text latitude x = is_latitude x
has_text longitude x = is_longitude x

-- the letters that may end it
abbrev pub is_letter : Coordinate → ℕ → Bool
is_letter latitude b = b == letter_n || b == letter_s
is_letter longitude b = b == letter_e

-- a number's letter: zero is written with N
abbrev pub letter_of : Coordinate → ℤ → ℕ
letter_of latitude (pos m) = letter_n
letter_of latitude (negsuc m) = letter_s
letter_of longitude x = letter_e

-- ---- the form of a text
-- degrees, minutes, seconds and thousandths, each in its digits, and a letter
abbrev pub formed : Coordinate → ℕ → ℕ → ℕ → ℕ → ℕ → List ℕ
formed k d m s f b = digits (places k) d ++ digits 2 m ++ digits 2 s ++ full_stop ∷ digits 3 f ++ b ∷ []

abbrev pub text_length : Coordinate → ℕ
text_length k = places k + 9

-- the ms that they make
abbrev pub ms : ℕ → ℕ → ℕ → ℕ → ℕ
ms d m s f = d * 3600000 + m * 60000 + s * 1000 + f

-- ---- its parts
abbrev pub degrees : Coordinate → List ℕ → List ℕ
degrees k t = part 0 (places k) t

abbrev pub minutes : Coordinate → List ℕ → List ℕ
minutes k t = part (places k) 2 t

abbrev pub seconds : Coordinate → List ℕ → List ℕ
seconds k t = part (places k + 2) 2 t

abbrev pub stop_byte : Coordinate → List ℕ → ℕ
stop_byte k t = slice_index t (places k + 4)

abbrev pub thousandths : Coordinate → List ℕ → List ℕ
thousandths k t = part (places k + 5) 3 t

abbrev pub letter : Coordinate → List ℕ → ℕ
letter k t = slice_index t (places k + 8)

-- ---- reading
-- the bytes before the letter are digits and a point
unfoldable pub is_angle : Coordinate → List ℕ → Bool
is_angle k t =
    all_digits (degrees k t) && all_digits (minutes k t) && all_digits (seconds k t)
    && stop_byte k t == full_stop && all_digits (thousandths k t)

-- minutes and seconds are below 60
unfoldable pub in_sixties : Coordinate → List ℕ → Bool
in_sixties k t = nat_lt (from_digits (minutes k t)) 60 && nat_lt (from_digits (seconds k t)) 60

-- the ms before the letter
unfoldable pub angle : Coordinate → List ℕ → ℕ
angle k t = ms (from_digits (degrees k t)) (from_digits (minutes k t)) (from_digits (seconds k t)) (from_digits (thousandths k t))

-- S stands for a number below zero
abbrev pub by_letter : ℕ → ℕ → ℤ
by_letter b m = cond (b == letter_s) (neg_ℤ (pos m)) (pos m)

-- and not for zero
abbrev pub no_zero_south : ℕ → ℕ → Bool
no_zero_south b m = not (b == letter_s && m == 0)

-- every byte is of its kind
abbrev pub right_kinds : Coordinate → List ℕ → Bool
right_kinds k t = is_angle k t && is_letter k (letter k t)

-- the number that the text says
abbrev pub value : Coordinate → List ℕ → ℤ
value k t = by_letter (letter k t) (angle k t)

-- minutes, seconds and the number are in range
abbrev pub right_ranges : Coordinate → List ℕ → Bool
right_ranges k t = in_sixties k t && no_zero_south (letter k t) (angle k t) && has_text k (value k t)

-- 'For a position text: 1, 2, 3'
abbrev pub read_tests : Coordinate → List ℕ → List Test
read_tests k t =
    ((length t == text_length k) else 1)
    ∷ (right_kinds k t else 2)
    ∷ (right_ranges k t else 3)
    ∷ []

unfoldable pub read : Coordinate → List ℕ → Answer ℤ
read k t = in_order (read_tests k t) (gives (value k t))

-- ---- writing
-- n ms, and a letter
unfoldable pub spelled : Coordinate → ℕ → ℕ → List ℕ
spelled k n b = formed k (n / 1000 / 60 / 60) (n / 1000 / 60 % 60) (n / 1000 % 60) (n % 1000) b

abbrev pub text : Coordinate → ℤ → List ℕ
text k x = spelled k (unsigned_abs x) (letter_of k x)

-- 'For writing one: 3, 7', to a lent buffer with room for so many bytes
abbrev pub write_tests : Coordinate → ℤ → List Test
write_tests k x = (has_text k x else 3) ∷ []

unfoldable pub write : Coordinate → ℤ → ℕ → Answer (List ℕ)
write k x room = in_order (write_tests k x) (placed (text k x) room)
