-- A number as it is printed. Assumes nothing.
use Rattle.std.specs.List.{position, position_or_len}
use Rattle.std.specs.Option.{unwrap_or}
use Rattle.std.proofs.lemmas.List.Sums.{prefix_len-le-length}
use mathlib.Core.Path.{◌≡◌, refl, sym, ap, ◌∙◌}
use mathlib.Core.Bool.{Bool, true, not}
use mathlib.Core.List.{List, [], ◌∷◌, ◌++◌, append_assoc}
use Prim.Native.Nat.{ℕ, zero, suc, ◌+◌, ◌-◌, ◌/◌, ◌%◌, ◌<◌, ◌≤◌}
use native.Mathlib.Omega.{arith}
use lib.Dec.{eqb, ltb}
use lib.IntN.{ℤ, pos, negsuc, nat_abs}
use lib.ListN.{length, take, drop, set, length-append, length-drop, length-map}
use lib.Seq.{length-take-le, take_all}
use lib.Signed.{lt_z}
use borrow.Author.Tests.{ltb-false, le-ltb, ne_eqb}
use borrow.Rule.Slice.PartMut.{put_mid}
use mir.Syntax.{Width}
use mir.Val.{to_z}
use Rattle.whole.specs.Every.{every}
use Rattle.whole.specs.Places.{in_places}
use Rattle.whole.specs.Digits.{byte_of, digits}
use Rattle.whole.proofs.Bools.{both, by_test}
use Rattle.whole.proofs.Places.{in_places_long}
use Rattle.whole.proofs.Words.{Holds}
use Rattle.kinds.proofs.Writing.{byte_after, grown_by}
use Rattle.decimal.specs.Decimal.{sign, unpadded, decimal, minus_first, printed_number, billion, billionths}

-- ---- leading zeros
-- before a digit, a zero goes
pub zero_goes : (l : List ℕ) → 0 < length l → unpadded (48 ∷ l) ≡ unpadded l
unfolding unpadded
zero_goes [] h = absurd (omega arith)
zero_goes (next ∷ rest) h = refl

-- another digit stays, with all that follow
pub first_stays : (b : ℕ) (l : List ℕ) → (b ≡ 48 → ⊥) → unpadded (b ∷ l) ≡ b ∷ l
unfolding unpadded
first_stays b [] h = refl
first_stays b (next ∷ rest) h = simp (ne_eqb b 48 h)

-- a digit that is no zero
abbrev pub other : ℕ → Bool
other b = not (eqb b 48)

-- what stands from the first such digit on, or else from the last digit on
from_first : (w : ℕ) (ds : List ℕ) → length ds ≡ suc w → drop (position_or_len other (take w ds)) ds ≡ unpadded ds
unfolding unpadded
from_first w [] long = absurd (omega (arith, long))
from_first zero (b ∷ []) long = refl
from_first zero (b ∷ next ∷ rest) long = absurd (omega (arith, long))
from_first (suc w) (b ∷ []) long = absurd (omega (arith, long))
from_first (suc w) (b ∷ next ∷ rest) long =
    let k : ℕ = position_or_len other (take w (next ∷ rest)) in
    let e : 1 + k ≡ suc k = omega arith in
    by_test (eqb b 48)
    (λ t. simp (t, e) (from_first w (next ∷ rest) (omega (arith, long))))
    (λ t. simp t refl)

or_all : (xs : List ℕ) → unwrap_or (position other xs) (length xs) ≡ position_or_len other xs
or_all xs =
    by_test (ltb (position_or_len other xs) (length xs))
    (λ t. simp t refl)
    (λ t. simp t (omega (arith, ltb-false (position_or_len other xs) (length xs) t, prefix_len-le-length (λ b. not (other b)) xs)))

pub first_found : (w : ℕ) (ds : List ℕ) {r : ℕ} → length ds ≡ suc w → r ≡ unwrap_or (position other (take w ds)) w → drop r ds ≡ unpadded ds
first_found w ds long is-r =
    let n : length (take w ds) ≡ w = length-take-le w ds (omega (arith, long)) in
    let e = or_all (take w ds) in
    rw (is-r, ap (λ (k : ℕ). unwrap_or (position other (take w ds)) k) (sym n) ∙ e) (from_first w ds long)

-- ---- the digits of a number
pub unpadded_short : (l : List ℕ) → length (unpadded l) ≤ length l
unfolding unpadded
unpadded_short [] = omega arith
unpadded_short (b ∷ []) = omega arith
unpadded_short (b ∷ next ∷ rest) = by_test (eqb b 48) (λ t. simp t (omega (arith, unpadded_short (next ∷ rest)))) (λ t. simp t (omega arith))

-- a test of every digit is one of those that stay
pub unpadded_every : (f : ℕ → Bool) (ds : List ℕ) → every f ds ≡ true → every f (unpadded ds) ≡ true
unfolding unpadded
unpadded_every f [] h = h
unpadded_every f (b ∷ []) h = h
unpadded_every f (b ∷ next ∷ rest) h =
    by_test (eqb b 48) (λ t. simp t (unpadded_every f (next ∷ rest) (both (f b) (every f (next ∷ rest)) h).1)) (λ t. simp t h)

pub digits_long : (w n : ℕ) → length (digits w n) ≡ w
unfolding digits
digits_long w n = length-map (in_places 10 w n) byte_of ∙ in_places_long 10 w n

pub decimal_short : (n : ℕ) → length (decimal n) ≤ 10
unfolding decimal
decimal_short n = omega (arith, unpadded_short (digits 10 n), digits_long 10 n)

-- of a number of billionths: those before the point, and the point and nine places
pub at_point : (n : ℕ) → billionths n ≡ decimal (n / billion) ++ (46 ∷ digits 9 (n % billion))
unfolding billionths
at_point n = append_assoc (decimal (n / billion)) (46 ∷ []) (digits 9 (n % billion))

-- what stands from the first digit on is written: r says how many, and new is the line afterwards
pub digits_written : (n f r : ℕ) (ten line new : List ℕ) → ten ≡ digits 10 n → drop f ten ≡ unpadded ten
    → r ≡ length (take (10 - f) (drop f ten)) → new ≡ take (10 - f) (drop f ten) ++ drop r line
    → (r ≡ length (decimal n)) × (new ≡ decimal n ++ drop r line)
unfolding decimal
digits_written n f r ten line new is-ten from_First is-r is-new =
    let src : take (10 - f) (drop f ten) ≡ unpadded (digits 10 n) = take_all (10 - f) (drop f ten) (omega (arith, length-drop f ten, ap length is-ten, digits_long 10 n)) ∙ from_First ∙ ap unpadded is-ten in
    (is-r ∙ ap length src, is-new ∙ ap (λ (l : List ℕ). l ++ drop r line) src)

-- ---- and its sign
pub printed_short : (z : ℤ) → length (printed_number z) ≤ 11
unfolding printed_number
printed_short (pos n) = omega (arith, decimal_short n)
printed_short (negsuc n) = omega (arith, decimal_short (suc n))

-- d is the line as it came, a what was put at its start, in r bytes, and b what was then put into what follows, in k
module _ (d a b new : List ℕ) {line : List ℕ} {r k : ℕ} (is-r : r ≡ length a) (is-line : line ≡ a ++ drop r d) (is-k : k ≡ length b) (is-new : new ≡ b ++ drop k (take (length line - r) (drop r line))) where
  pub put_after : (text : List ℕ) → a ++ b ≡ text → (r + k ≡ length text) × (put_mid r (length line - r) line new ≡ text ++ drop (r + k) d)
  put_after text e = (omega (arith, is-r, is-k, length-append a b, ap length e), grown_by a d is-line is-r b new k is-new ∙ ap (λ (l : List ℕ). l ++ drop (r + k) d) e)

-- whatever the text of a size is: z by its sign and its size, as the code holds it
by_sign : (text : ℕ → List ℕ) (z : ℤ) → sign (lt_z z (pos 0)) ++ text (nat_abs z) ≡ minus_first text z
by_sign text (pos n) = simp (le-ltb n 0 (omega arith)) refl
by_sign text (negsuc n) = refl

pub signed_text : (text : ℕ → List ℕ) {w : Width} {a m : ℕ} {z : ℤ} → Holds w a z → m ≡ nat_abs (to_z w a) → sign (lt_z (to_z w a) (pos 0)) ++ text m ≡ minus_first text z
signed_text text h is_m = rw is_m (by_sign text _) ∙ ap (minus_first text) h.reads

-- ---- and the byte that follows it
-- y is z as the code holds it
pub followed : {y z : ℤ} → y ≡ z → (d new : List ℕ) (r next : ℕ) → 12 ≤ length d → r ≡ length (printed_number y) → new ≡ printed_number y ++ drop r d
    → (r + 1 ≡ length (printed_number z) + 1) × (set new r next ≡ (printed_number z ++ (next ∷ [])) ++ drop (r + 1) d)
followed {y} {z} e d new r next room is-r is-new = (
  ap (λ (k : ℕ). k + 1) is-r ∙ ap (λ (x : ℤ). length (printed_number x) + 1) e,
  ap (λ (l : List ℕ). set l r next) is-new ∙ byte_after (printed_number y) d next r (sym is-r) (omega (arith, is-r, printed_short y, room)) ∙ ap (λ (x : ℤ). (printed_number x ++ (next ∷ [])) ++ drop (r + 1) d) e,
)
