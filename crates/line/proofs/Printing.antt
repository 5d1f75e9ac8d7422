-- A line as it is printed, in numbers and as a waypoint: how long it is, that its line feed is its last byte, and with which
-- numbers it is refused. Assumes nothing.
use mathlib.Core.Path.{◌≡◌, refl, sym, ap, ◌∙◌, subst}
use mathlib.Core.Bool.{Bool, true, not}
use mathlib.Core.List.{List, [], ◌∷◌, ◌++◌, append_assoc}
use Prim.Native.Nat.{ℕ, ◌≤◌}
use native.Mathlib.Omega.{arith}
use lib.Dec.{eqb}
use lib.IntN.{ℤ}
use lib.ListN.{length, length-append}
use borrow.Author.Tests.{ltb-true, ne_eqb}
use Rattle.whole.proofs.Every.{every_joined, every_weaker}
use Rattle.kinds.specs.Answer.{Answer, gives, refused, following}
use Rattle.kinds.proofs.Answers.{not_both, same_value, all_held}
use Rattle.tables.specs.Page.{Family, shift, geoid}
use Rattle.datum.specs.Point.{converted_of}
use Rattle.decimal.specs.Decimal.{printed_number}
use Rattle.decimal.proofs.Numbers.{printed_short}
use Rattle.decimal.proofs.Told.{above, number_above}
use Rattle.waypoint.specs.Waypoint.{element, element_of}
use Rattle.waypoint.proofs.Positions.{printable, of_position}
use Rattle.waypoint.proofs.Writing.{element_short, element_every}
use Rattle.line.specs.Line.{space, line_feed, unbroken, code, latitude_of, longitude_of, text_tests, answer_to, answer_line, element_to, text_to}
use Rattle.line.specs.declared.Form.{Form}
use Rattle.line.specs.declared.Form.TheVariants.{Numbers, Waypoints}

-- ---- how long
pub answer_line_short : (values : Family ℤ) → length (answer_line values) ≤ 36
unfolding answer_line
answer_line_short (shift d_lat d_lon d_h) = simp length-append (omega (arith, printed_short d_lat, printed_short d_lon, printed_short d_h))
answer_line_short (geoid n) = simp length-append (omega (arith, printed_short n))

-- ---- the line feed is its last byte
abbrev no_feed : ℕ → Bool
no_feed byte = not (eqb byte line_feed)

-- every byte of a number is above it
above_no_feed : (b : ℕ) → above b ≡ true → no_feed b ≡ true
above_no_feed b h = ap not (ne_eqb b line_feed (λ e. omega (arith, ltb-true 44 b h)))

number_unbroken : (x : ℤ) → unbroken (printed_number x) ≡ true
number_unbroken x = every_weaker above no_feed above_no_feed (printed_number x) (number_above x)

pub answer_line_ends : (values : Family ℤ) → (text : List ℕ) × ((answer_line values ≡ text ++ line_feed ∷ []) × (unbroken text ≡ true))
unfolding answer_line
answer_line_ends (shift d_lat d_lon d_h) = (
  printed_number d_lat ++ space ∷ printed_number d_lon ++ space ∷ printed_number d_h,
  (
    simp append_assoc,
    every_joined no_feed (printed_number d_lat ++ space ∷ printed_number d_lon) (space ∷ printed_number d_h)
        (every_joined no_feed (printed_number d_lat) (space ∷ printed_number d_lon) (number_unbroken d_lat) (number_unbroken d_lon))
        (number_unbroken d_h),
  ),
)
answer_line_ends (geoid n) = (printed_number n, (refl, number_unbroken n))

-- ---- a line in a form
element_unbroken : (latitude longitude : ℤ) → unbroken (element latitude longitude) ≡ true
element_unbroken = element_every no_feed refl refl refl above_no_feed

-- what it is where it is given
module _ {A : Type 0} (made : A → List ℕ) (P : List ℕ → Type 0) where
  given : (a : Answer A) {text : List ℕ} → ((v : A) → a ≡ gives v → P (made v)) → following a (λ v. gives (made v)) ≡ gives text → P text
  given (gives v) p h = subst P (same_value h) (p v refl)
  given (refused n) p h = absurd (not_both (sym h))

-- an element that a line gets
element_given : (line : List ℕ) {bytes : List ℕ} → element_to line ≡ gives bytes → (north : ℤ) × ((east : ℤ) × ((converted_of (code line) (latitude_of line) (longitude_of line) ≡ gives (north, east)) × (element north east ≡ bytes)))
element_given line h = of_position (code line) (latitude_of line) (longitude_of line) (all_held (text_tests line) (element_of (code line) (latitude_of line) (longitude_of line)) h).1

pub text_short : (form : Form) (line : List ℕ) {text : List ℕ} → text_to form line ≡ gives text → length text ≤ 48
text_short Numbers line = given answer_line (λ text. length text ≤ 48) (answer_to line) (λ values e. omega (arith, answer_line_short values))
text_short Waypoints line =
    given (λ element. element ++ line_feed ∷ []) (λ text. length text ≤ 48) (element_to line)
    (λ bytes e.
    let (north, (east, (c, is-bytes))) = element_given line e in
    omega (arith, length-append bytes (line_feed ∷ []), ap length is-bytes, element_short north east (printable (code line) (latitude_of line) (longitude_of line) c)))

pub text_ends : (form : Form) (line : List ℕ) {text : List ℕ} → text_to form line ≡ gives text → (t : List ℕ) × ((text ≡ t ++ line_feed ∷ []) × (unbroken t ≡ true))
text_ends Numbers line = given answer_line (λ text. (t : List ℕ) × ((text ≡ t ++ line_feed ∷ []) × (unbroken t ≡ true))) (answer_to line) (λ values e. answer_line_ends values)
text_ends Waypoints line =
    given (λ element. element ++ line_feed ∷ []) (λ text. (t : List ℕ) × ((text ≡ t ++ line_feed ∷ []) × (unbroken t ≡ true))) (element_to line)
    (λ bytes e.
    let (north, (east, (c, is-bytes))) = element_given line e in
    (bytes, (refl, ap unbroken (sym is-bytes) ∙ element_unbroken north east)))

-- another length than 26 is refused with 1
pub wrong_length : (form : Form) (line : List ℕ) → (length line ≡ 26 → ⊥) → text_to form line ≡ refused 1
wrong_length Numbers line h = simp (ne_eqb (length line) 26 h)
wrong_length Waypoints line h = simp (ne_eqb (length line) 26 h)
