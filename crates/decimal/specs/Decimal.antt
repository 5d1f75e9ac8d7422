-- Document 01, 'The line program': a number as it is printed; and document 02, wish 1: decimal degrees.
use Rattle.std.specs.Prelude.{Bool, cond, List, [], ◌∷◌, ◌++◌, ℕ, suc, ◌/◌, ◌%◌, eqb, ℤ, pos, negsuc}
use Rattle.whole.specs.Digits.{digits}
use Rattle.kinds.specs.Bytes.{ascii}

abbrev pub minus : ℕ
minus = 45

abbrev pub zero_digit : ℕ
zero_digit = 48

-- 'without leading zeros; zero is `0`': the last digit stays
unfoldable pub unpadded : List ℕ → List ℕ
unpadded [] = []
unpadded (last ∷ []) = last ∷ []
unpadded (first ∷ next ∷ rest) = cond (eqb first zero_digit) (unpadded (next ∷ rest)) (first ∷ next ∷ rest)

-- a number below 10,000,000,000, as the size of every 4-byte number is
unfoldable pub decimal : ℕ → List ℕ
decimal n = unpadded (digits 10 n)

-- a minus sign, below zero
abbrev pub sign : Bool → List ℕ
sign below = cond below (minus ∷ []) []

-- 'A minus sign stands first and the digits follow it': a number by the text of its size
abbrev pub minus_first : (ℕ → List ℕ) → ℤ → List ℕ
minus_first text (pos n) = text n
minus_first text (negsuc n) = minus ∷ text (suc n)

unfoldable pub printed_number : ℤ → List ℕ
printed_number x = minus_first decimal x

-- ---- document 02, wish 1: decimal degrees, 'nine places, unpadded in front'
abbrev pub billion : ℕ
billion = 1000000000

-- a number of billionths
unfoldable pub billionths : ℕ → List ℕ
billionths n = decimal (n / billion) ++ ascii "." ++ digits 9 (n % billion)

unfoldable pub nine_places : ℤ → List ℕ
nine_places x = minus_first billionths x
