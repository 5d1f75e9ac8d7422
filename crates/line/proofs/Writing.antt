-- A line that is written number by number, or as a waypoint. Assumes nothing.
use mathlib.Core.Path.{◌≡◌, sym, ap, ◌∙◌}
use mathlib.Core.List.{List, [], ◌∷◌, ◌++◌, append_assoc}
use Prim.Native.Nat.{ℕ, ◌+◌, ◌-◌, ◌≤◌}
use native.Mathlib.Omega.{arith}
use lib.IntN.{ℤ}
use lib.ListN.{length, take, drop, set, length-append}
use borrow.Rule.Slice.PartMut.{put_mid}
use Rattle.kinds.proofs.Writing.{byte_after, rest_long, grown_by}
use Rattle.tables.specs.Page.{shift, geoid}
use Rattle.decimal.specs.Decimal.{printed_number}
use Rattle.waypoint.specs.Waypoint.{element}
use Rattle.waypoint.specs.Inside.{Printable}
use Rattle.waypoint.proofs.Writing.{element_short}
use Rattle.line.specs.Line.{space, line_feed, answer_line}
use Rattle.decimal.proofs.Numbers.{printed_short}

-- a number and the byte that follows it
abbrev pub field : ℤ → ℕ → List ℕ
field x next = printed_number x ++ (next ∷ [])

pub field_long : (x : ℤ) (next : ℕ) → length (field x next) ≡ length (printed_number x) + 1
field_long x next = length-append (printed_number x) (next ∷ [])

shift_fields_lem : (a b c : ℤ) → (field a space ++ field b space) ++ field c line_feed ≡ answer_line (shift a b c)
unfolding answer_line
shift_fields_lem a b c = simp append_assoc

-- ---- three numbers: d is the line as it came, and of each number r says how many bytes were written, new what was lent for it,
-- afterwards
module _ (x : ℤ) (d : List ℕ) (room : 36 ≤ length d) where
  module _ {r₁ : ℕ} (e₁ : List ℕ) (is-r₁ : r₁ ≡ length (printed_number x) + 1) (is-e₁ : e₁ ≡ field x space ++ drop r₁ d) where
    first_long : r₁ ≡ length (field x space)
    first_long = is-r₁ ∙ sym (field_long x space)

    first_short : r₁ ≤ 12
    first_short = omega (arith, is-r₁, printed_short x)

    pub second_room : 12 ≤ length (take (length e₁ - r₁) (drop r₁ e₁))
    second_room = omega (arith, first_short, room, rest_long (field x space) d is-e₁ first_long)

    module _ (y : ℤ) {r₂ : ℕ} {new₂ : List ℕ} (is-r₂ : r₂ ≡ length (printed_number y) + 1) (is-new₂ : new₂ ≡ field y space ++ drop r₂ (take (length e₁ - r₁) (drop r₁ e₁))) where
      abbrev e₂ : List ℕ
      e₂ = put_mid r₁ (length e₁ - r₁) e₁ new₂

      is-e₂ : e₂ ≡ (field x space ++ field y space) ++ drop (r₁ + r₂) d
      is-e₂ = grown_by (field x space) d is-e₁ first_long (field y space) new₂ r₂ is-new₂

      second_long : r₁ + r₂ ≡ length (field x space ++ field y space)
      second_long = omega (arith, length-append (field x space) (field y space), first_long, is-r₂, field_long y space)

      pub second_short : r₁ + r₂ ≤ 24
      second_short = omega (arith, first_short, is-r₂, printed_short y)

      pub third_room : 12 ≤ length (take (length e₂ - (r₁ + r₂)) (drop (r₁ + r₂) e₂))
      third_room = omega (arith, second_short, room, rest_long (field x space ++ field y space) d is-e₂ second_long)

      module _ (z : ℤ) {r₃ : ℕ} {new₃ : List ℕ} (is-r₃ : r₃ ≡ length (printed_number z) + 1) (is-new₃ : new₃ ≡ field z line_feed ++ drop r₃ (take (length e₂ - (r₁ + r₂)) (drop (r₁ + r₂) e₂))) where
        abbrev e₃ : List ℕ
        e₃ = put_mid (r₁ + r₂) (length e₂ - (r₁ + r₂)) e₂ new₃

        is-e₃ : e₃ ≡ ((field x space ++ field y space) ++ field z line_feed) ++ drop (r₁ + r₂ + r₃) d
        is-e₃ = grown_by (field x space ++ field y space) d is-e₂ second_long (field z line_feed) new₃ r₃ is-new₃

        third_long : r₁ + r₂ + r₃ ≡ length ((field x space ++ field y space) ++ field z line_feed)
        third_long = omega (arith, length-append (field x space ++ field y space) (field z line_feed), second_long, is-r₃, field_long z line_feed)

        -- a, b and c are the numbers that the code holds as x, y and z
        pub shift_written : {a b c : ℤ} → x ≡ a → y ≡ b → z ≡ c → (r₁ + r₂ + r₃ ≡ length (answer_line (shift a b c))) × (e₃ ≡ answer_line (shift a b c) ++ drop (r₁ + r₂ + r₃) d)
        shift_written ea eb ec =
            let text = shift_fields_lem x y z ∙ (λ i. answer_line (shift (ea i) (eb i) (ec i))) in
            (third_long ∙ ap length text, is-e₃ ∙ ap (λ (l : List ℕ). l ++ drop (r₁ + r₂ + r₃) d) text)

pub geoid_field : {x n : ℤ} → x ≡ n → field x line_feed ≡ answer_line (geoid n)
unfolding answer_line
geoid_field e = ap (λ (y : ℤ). field y line_feed) e

-- ---- a waypoint and its line feed
abbrev pub waypoint : ℤ → ℤ → List ℕ
waypoint latitude longitude = element latitude longitude ++ line_feed ∷ []

module _ (latitude longitude : ℤ) where
  pub waypoint_long : {r : ℕ} → r ≡ length (element latitude longitude) → r + 1 ≡ length (waypoint latitude longitude)
  waypoint_long is-r = omega (arith, is-r, length-append (element latitude longitude) (line_feed ∷ []))

  -- l is the line d with the element at its start
  pub waypoint_ended : Printable latitude longitude → (d : List ℕ) → 48 ≤ length d → {r : ℕ} {l : List ℕ} → r ≡ length (element latitude longitude) → l ≡ element latitude longitude ++ drop r d
      → set l r line_feed ≡ waypoint latitude longitude ++ drop (r + 1) d
  waypoint_ended small d room {r} is-r is-l =
      ap (λ (l : List ℕ). set l r line_feed) is-l ∙ byte_after (element latitude longitude) d line_feed r (sym is-r) (omega (arith, is-r, room, element_short latitude longitude small))
