-- Two positions that are printed alike are the same. Assumes nothing.
use mathlib.Core.Path.{◌≡◌, sym, ap, ◌∙◌}
use mathlib.Core.List.{List, ◌∷◌, ◌++◌, append_assoc}
use Prim.Native.Nat.{ℕ}
use native.Mathlib.Omega.{arith}
use lib.IntN.{ℤ}
use lib.ListN.{drop}
use Rattle.kinds.specs.Answer.{gives}
use Rattle.kinds.specs.Bytes.{ascii}
use Rattle.datum.specs.Point.{converted_of}
use Rattle.datum.proofs.Converted.{settled}
use Rattle.decimal.specs.Decimal.{nine_places}
use Rattle.decimal.proofs.Nine.{nine_apart}
use Rattle.decimal.proofs.Told.{nine_above, told}
use Rattle.waypoint.specs.Waypoint.{degrees, east_or_west, element, element_of}
use Rattle.waypoint.specs.Office.{units_of}
use Rattle.waypoint.proofs.Degrees.{few_digits, few_wrapped, units_again, longitudes_apart}
use Rattle.waypoint.proofs.Positions.{printable, of_position}

-- a quotation mark ends each number
quoted : (latitude longitude : ℤ)
    → element latitude longitude
    ≡ ascii "<wpt lat=\"" ++ (nine_places (degrees latitude) ++ (34 ∷ (ascii " lon=\"" ++ (nine_places (east_or_west (degrees longitude)) ++ (34 ∷ ascii "/>")))))
unfolding element
quoted latitude longitude = simp append_assoc

-- so both are told
numbers_told : (a b c d : ℤ) → element a b ≡ element c d → (nine_places (degrees a) ≡ nine_places (degrees c)) × (nine_places (east_or_west (degrees b)) ≡ nine_places (east_or_west (degrees d)))
numbers_told a b c d e =
    let first = told (nine_places (degrees a)) (nine_places (degrees c)) _ _ 34 34 (nine_above (degrees a)) (nine_above (degrees c)) (omega arith) (omega arith) (ap (drop 10) (sym (quoted a b) ∙ e ∙ quoted c d)) in
    let second = told (nine_places (east_or_west (degrees b))) (nine_places (east_or_west (degrees d))) (ascii "/>") (ascii "/>") 34 34 (nine_above (east_or_west (degrees b))) (nine_above (east_or_west (degrees d))) (omega arith) (omega arith) (ap (drop 6) first.1.1) in
    (first.0, second.0)

-- by its latitude, and by its longitude where that is one of a converted position
latitudes_apart : (a c : ℤ) → degrees a ≡ degrees c → a ≡ c
latitudes_apart a c e = sym (units_again a) ∙ ap units_of e ∙ units_again c

pub elements_apart : (c₁ a₁ o₁ c₂ a₂ o₂ : ℤ) {bytes : List ℕ} → element_of c₁ a₁ o₁ ≡ gives bytes → element_of c₂ a₂ o₂ ≡ gives bytes → converted_of c₁ a₁ o₁ ≡ converted_of c₂ a₂ o₂
elements_apart c₁ a₁ o₁ c₂ a₂ o₂ h k =
    let (north, (east, (p, is-h))) = of_position c₁ a₁ o₁ h in
    let (north', (east', (q, is-k))) = of_position c₂ a₂ o₂ k in
    let small = printable c₁ a₁ o₁ p in
    let small' = printable c₂ a₂ o₂ q in
    let (first, second) = numbers_told north east north' east' (is-h ∙ sym is-k) in
    let same-north : north ≡ north' = latitudes_apart north north' (nine_apart (degrees north) (degrees north') (few_digits north (omega (arith, small.0))) (few_digits north' (omega (arith, small'.0))) first) in
    let same-east : east ≡ east' =
    longitudes_apart east east' (settled c₁ a₁ o₁ p).1 (settled c₂ a₂ o₂ q).1
    (nine_apart (east_or_west (degrees east)) (east_or_west (degrees east')) (few_wrapped east small.1) (few_wrapped east' small'.1) second) in
    p ∙ (λ i. gives (same-north i, same-east i)) ∙ sym q
