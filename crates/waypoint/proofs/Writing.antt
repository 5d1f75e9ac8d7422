-- An element that is written part by part, and how long it is. Assumes nothing.
use mathlib.Core.Path.{◌≡◌, sym, ap, ◌∙◌}
use mathlib.Core.Bool.{Bool, true}
use mathlib.Core.List.{List, ◌++◌, append_assoc}
use Prim.Native.Nat.{ℕ, ◌+◌, ◌-◌, ◌<◌, ◌≤◌}
use native.Mathlib.Omega.{arith}
use lib.IntN.{ℤ, nat_abs}
use lib.ListN.{length, take, drop, length-append}
use borrow.Rule.Slice.PartMut.{put_mid}
use Rattle.whole.specs.Every.{every}
use Rattle.whole.proofs.Every.{every_joined, every_weaker}
use Rattle.kinds.specs.Bytes.{ascii}
use Rattle.kinds.proofs.Writing.{rest_long, grown_by}
use Rattle.decimal.specs.Decimal.{nine_places}
use Rattle.decimal.proofs.Told.{above, nine_above}
use Rattle.decimal.proofs.Nine.{nine_short, nine_shorter}
use Rattle.waypoint.specs.Waypoint.{degrees, east_or_west, element}
use Rattle.waypoint.specs.Inside.{Printable}
use Rattle.waypoint.proofs.Degrees.{two_digits, few_wrapped}

-- ---- the element: d is the line as it came, and of each part r says how many bytes were written and new what was lent for it
abbrev first : ℤ → List ℕ
first latitude = ascii "<wpt lat=\"" ++ nine_places latitude

abbrev second : ℤ → List ℕ
second longitude = ascii "\" lon=\"" ++ nine_places longitude

abbrev last : List ℕ
last = ascii "\"/>"

-- an element that has these numbers
as_parts : (latitude longitude : ℤ) → (first (degrees latitude) ++ second (east_or_west (degrees longitude))) ++ last ≡ element latitude longitude
unfolding element
as_parts latitude longitude = simp append_assoc

module _ (x : ℤ) (low : nat_abs x < 100000000000) (d : List ℕ) (room : 47 ≤ length d) where
  module _ {r₁ : ℕ} (e₁ : List ℕ) (is-r₁ : r₁ ≡ length (first x)) (is-e₁ : e₁ ≡ first x ++ drop r₁ d) where
    first_short : r₁ ≤ 23
    first_short = omega (arith, is-r₁, length-append (ascii "<wpt lat=\"") (nine_places x), nine_shorter x low)

    pub second_room : 21 ≤ length (take (length e₁ - r₁) (drop r₁ e₁))
    second_room = omega (arith, first_short, room, rest_long (first x) d is-e₁ is-r₁)

    module _ (y : ℤ) (few : nat_abs y < 1000000000000) {r₂ : ℕ} {new₂ : List ℕ} (is-r₂ : r₂ ≡ length (second y)) (is-new₂ : new₂ ≡ second y ++ drop r₂ (take (length e₁ - r₁) (drop r₁ e₁))) where
      abbrev e₂ : List ℕ
      e₂ = put_mid r₁ (length e₁ - r₁) e₁ new₂

      is-e₂ : e₂ ≡ (first x ++ second y) ++ drop (r₁ + r₂) d
      is-e₂ = grown_by (first x) d is-e₁ is-r₁ (second y) new₂ r₂ is-new₂

      second_long : r₁ + r₂ ≡ length (first x ++ second y)
      second_long = omega (arith, length-append (first x) (second y), is-r₁, is-r₂)

      pub second_short : r₁ + r₂ ≤ 44
      second_short = omega (arith, first_short, is-r₂, length-append (ascii "\" lon=\"") (nine_places y), nine_short y few)

      pub third_room : 3 ≤ length (take (length e₂ - (r₁ + r₂)) (drop (r₁ + r₂) e₂))
      third_room = omega (arith, second_short, room, rest_long (first x ++ second y) d is-e₂ second_long)

      module _ {r₃ : ℕ} {new₃ : List ℕ} (is-r₃ : r₃ ≡ 3) (is-new₃ : new₃ ≡ last ++ drop r₃ (take (length e₂ - (r₁ + r₂)) (drop (r₁ + r₂) e₂))) where
        abbrev e₃ : List ℕ
        e₃ = put_mid (r₁ + r₂) (length e₂ - (r₁ + r₂)) e₂ new₃

        is-e₃ : e₃ ≡ ((first x ++ second y) ++ last) ++ drop (r₁ + r₂ + r₃) d
        is-e₃ = grown_by (first x ++ second y) d is-e₂ second_long last new₃ r₃ is-new₃

        third_long : r₁ + r₂ + r₃ ≡ length ((first x ++ second y) ++ last)
        third_long = omega (arith, length-append (first x ++ second y) last, second_long, is-r₃)

        -- x and y are the degrees of a position
        pub element_written : (latitude longitude : ℤ) → x ≡ degrees latitude → y ≡ east_or_west (degrees longitude)
            → (r₁ + r₂ + r₃ ≡ length (element latitude longitude)) × (e₃ ≡ element latitude longitude ++ drop (r₁ + r₂ + r₃) d)
        element_written latitude longitude is_x is_y =
            let text = (λ i. (first (is_x i) ++ second (is_y i)) ++ last) ∙ as_parts latitude longitude in
            (third_long ∙ ap length text, is-e₃ ∙ ap (λ (l : List ℕ). l ++ drop (r₁ + r₂ + r₃) d) text)

-- ---- how long it is
pub element_short : (latitude longitude : ℤ) → Printable latitude longitude → length (element latitude longitude) ≤ 47
element_short latitude longitude (low, few) =
    omega (
      arith,
      ap length (as_parts latitude longitude),
      length-append (first (degrees latitude) ++ second (east_or_west (degrees longitude))) last,
      length-append (first (degrees latitude)) (second (east_or_west (degrees longitude))),
      length-append (ascii "<wpt lat=\"") (nine_places (degrees latitude)),
      length-append (ascii "\" lon=\"") (nine_places (east_or_west (degrees longitude))),
      nine_shorter (degrees latitude) (two_digits latitude low),
      nine_short (east_or_west (degrees longitude)) (few_wrapped longitude few),
    )

-- ---- a test that its letters and every byte of a number pass
pub element_every : (f : ℕ → Bool) → every f (ascii "<wpt lat=\"") ≡ true → every f (ascii "\" lon=\"") ≡ true → every f (ascii "\"/>") ≡ true → ((b : ℕ) → above b ≡ true → f b ≡ true)
    → (latitude longitude : ℤ) → every f (element latitude longitude) ≡ true
element_every f one two three more latitude longitude =
    let number : (x : ℤ) → every f (nine_places x) ≡ true = λ x. every_weaker above f more (nine_places x) (nine_above x) in
    ap (every f) (sym (as_parts latitude longitude))
    ∙ every_joined f (first (degrees latitude) ++ second (east_or_west (degrees longitude))) last
    (every_joined f (first (degrees latitude)) (second (east_or_west (degrees longitude)))
    (every_joined f (ascii "<wpt lat=\"") (nine_places (degrees latitude)) one (number (degrees latitude)))
    (every_joined f (ascii "\" lon=\"") (nine_places (east_or_west (degrees longitude))) two (number (east_or_west (degrees longitude)))))
    three
