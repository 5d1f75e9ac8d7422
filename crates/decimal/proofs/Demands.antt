-- What documents 01 and 02 ask of a number that is printed. Stated over specs/ alone. Assumes nothing.
use mathlib.Core.Path.{◌≡◌, refl}
use mathlib.Core.Bool.{true}
use mathlib.Core.List.{List, [], ◌∷◌, ◌++◌}
use Prim.Native.Nat.{ℕ, suc, ◌+◌, ◌*◌, ◌/◌, ◌%◌, ◌<◌, ◌≤◌, ◌^◌}
use lib.IntN.{ℤ, pos, neg_ℤ, nat_abs}
use lib.ListN.{length, get_or}
use Rattle.whole.specs.Places.{in_places}
use Rattle.whole.specs.Digits.{all_digits, from_digits, digits}
use Rattle.whole.proofs.Digits.{all_digits_lem}
use Rattle.kinds.specs.Bytes.{ascii}
use Rattle.kinds.specs.Kinds.{is_four_bytes}
use Rattle.decimal.specs.Decimal.{unpadded, decimal, printed_number, billion, billionths, nine_places}
use Rattle.decimal.proofs.Numbers.{digits_long}
use Rattle.decimal.proofs.Apart as apart
use Rattle.decimal.proofs.Nine as nine

-- ---- 'A minus sign stands first and the digits follow it .., without leading zeros; zero is `0`'
-- of a number below zero the digits are those of its size
pub sign_first : (n : ℕ) → (printed_number (pos n) ≡ decimal n) × (printed_number (neg_ℤ (pos (suc n))) ≡ 45 ∷ decimal (suc n))
unfolding printed_number
sign_first n = (refl, refl)

-- and they say it
pub digits_say : (n : ℕ) → n < 10 ^ 10 → (all_digits (decimal n) ≡ true) × (from_digits (decimal n) ≡ n)
digits_say n h = apart.digits_say n h

-- there is one at least, and the first is a zero only where it is the only one
pub no_leading_zero : (n : ℕ) → (0 < length (decimal n)) × (get_or (decimal n) 0 0 ≡ 48 → length (decimal n) ≡ 1)
no_leading_zero n = apart.no_leading_zero n

-- and no other text of up to ten digits is like that: the number of such a text is printed as the text
pub one_text : (t : List ℕ) → all_digits t ≡ true → 0 < length t → length t ≤ 10 → (get_or t 0 0 ≡ 48 → length t ≡ 1) → decimal (from_digits t) ≡ t
one_text t all some few first = apart.one_text t all some few first

-- so two 4-byte numbers that are printed alike are the same
pub printed_apart : (x y : ℤ) → is_four_bytes x ≡ true → is_four_bytes y ≡ true → printed_number x ≡ printed_number y → x ≡ y
printed_apart x y f g h = apart.printed_apart x y f g h

-- numbers as they are printed: 0, 7, -7, 10, the largest of 4 bytes and the least
pub record Printed : Type 0 where
  pub nothing : printed_number (pos 0) ≡ 48 ∷ []
  pub seven : printed_number (pos 7) ≡ 55 ∷ []
  pub less_seven : printed_number (neg_ℤ (pos 7)) ≡ 45 ∷ 55 ∷ []
  pub ten : printed_number (pos 10) ≡ 49 ∷ 48 ∷ []
  pub largest : printed_number (pos 2147483647) ≡ 50 ∷ 49 ∷ 52 ∷ 55 ∷ 52 ∷ 56 ∷ 51 ∷ 54 ∷ 52 ∷ 55 ∷ []
  pub least : printed_number (neg_ℤ (pos 2147483648)) ≡ 45 ∷ 50 ∷ 49 ∷ 52 ∷ 55 ∷ 52 ∷ 56 ∷ 51 ∷ 54 ∷ 52 ∷ 56 ∷ []

pub printed : Printed
unfolding printed_number decimal unpadded digits in_places
printed = record { nothing = refl; seven = refl; less_seven = refl; ten = refl; largest = refl; least = refl }

-- ---- document 02, wish 1: a number of billionths with 'nine places, unpadded in front'
-- of a number below zero the minus sign stands first, and the text is that of its size: -0.5 keeps it, though its degrees are 0
pub nine_sign_first : (n : ℕ) → (nine_places (pos n) ≡ billionths n) × (nine_places (neg_ℤ (pos (suc n))) ≡ 45 ∷ billionths (suc n))
unfolding nine_places
nine_sign_first n = (refl, refl)

-- the text is digits, a point and nine digits, and they say the number. That the first ones are not padded is `no_leading_zero`.
pub record NineSay (n : ℕ) : Type 0 where
  pub parts : billionths n ≡ decimal (n / billion) ++ ascii "." ++ digits 9 (n % billion)
  pub before : all_digits (decimal (n / billion)) ≡ true
  pub after : all_digits (digits 9 (n % billion)) ≡ true
  pub nine : length (digits 9 (n % billion)) ≡ 9
  pub say : from_digits (decimal (n / billion)) * billion + from_digits (digits 9 (n % billion)) ≡ n

pub nine_say : (n : ℕ) → n < 1000000000000 → NineSay n
unfolding billionths
nine_say n h = record { parts = refl; before = apart.all_decimal (n / billion); after = all_digits_lem 9 (n % billion); nine = digits_long 9 (n % billion); say = nine.places_say n h }

-- so two numbers below 1,000 degrees that are written alike are the same
pub nine_apart : (x y : ℤ) → nat_abs x < 1000000000000 → nat_abs y < 1000000000000 → nine_places x ≡ nine_places y → x ≡ y
nine_apart x y f g h = nine.nine_apart x y f g h

-- numbers as they are written
pub record NinePlaces : Type 0 where
  pub nothing : nine_places (pos 0) ≡ ascii "0.000000000"
  pub least_place : nine_places (pos 1) ≡ ascii "0.000000001"
  pub half : nine_places (pos 500000000) ≡ ascii "0.500000000"
  pub less_half : nine_places (neg_ℤ (pos 500000000)) ≡ ascii "-0.500000000"
  pub less_least_place : nine_places (neg_ℤ (pos 1)) ≡ ascii "-0.000000001"
  pub two_in_front : nine_places (pos 34998932533) ≡ ascii "34.998932533"
  pub three_in_front : nine_places (pos 179999999997) ≡ ascii "179.999999997"
  pub least_longitude : nine_places (neg_ℤ (pos 180000000000)) ≡ ascii "-180.000000000"
  pub hundred : nine_places (pos 100000000000) ≡ ascii "100.000000000"

pub nine_places_lem : NinePlaces
unfolding nine_places billionths decimal unpadded digits in_places
nine_places_lem = record { nothing = refl; least_place = refl; half = refl; less_half = refl; less_least_place = refl; two_in_front = refl; three_in_front = refl; least_longitude = refl; hundred = refl }
