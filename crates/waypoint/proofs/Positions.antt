-- Converted positions: that they can be printed, and what is put for a point. Assumes nothing.
use mathlib.Core.Path.{◌≡◌, refl, sym, ap, ◌∙◌}
use mathlib.Core.Bool.{true}
use mathlib.Core.List.{List}
use mathlib.Core.Logic.{◌↔◌, ◌⊎◌, inl, inr}
use Prim.Native.Nat.{ℕ, suc, ◌≤◌, ◌<◌}
use native.Mathlib.Omega.{arith}
use lib.Dec.{leb}
use lib.IntN.{ℤ, pos, negsuc, nat_abs}
use lib.ListN.{length}
use lib.Signed.{le_z}
use borrow.Author.Tests.{leb-true, leb-false, le-leb, lt-leb}
use Rattle.whole.proofs.Bools.{both}
use Rattle.kinds.specs.Answer.{Answer, gives, refused, placed, following, counted, lent}
use Rattle.kinds.specs.Kinds.{within}
use Rattle.kinds.proofs.Answers.{not_both, same_value, passed, failed}
use Rattle.kinds.proofs.Writing.{Written}
use Rattle.datum.specs.Point.{shift_of, converted_of}
use Rattle.datum.proofs.Converted.{settled}
use Rattle.datum.proofs.Converted as converted
use Rattle.waypoint.specs.Waypoint.{element, element_of, waypoint_of}
use Rattle.waypoint.specs.Inside.{Printable}

-- ---- it is so small that it can be printed
within_size : (a b m : ℕ) (x : ℤ) → suc a ≤ m → b ≤ m → within (negsuc a) (pos b) x ≡ true → nat_abs x ≤ m
within_size a b m (pos n) h k t = omega (arith, leb-true n b (both (le_z (negsuc a) (pos n)) (le_z (pos n) (pos b)) t).1)
within_size a b m (negsuc n) h k t = omega (arith, leb-true n a (both (le_z (negsuc a) (negsuc n)) (le_z (negsuc n) (pos b)) t).0)

pub printable : (code latitude longitude : ℤ) {p : ℤ × ℤ} → converted_of code latitude longitude ≡ gives p → Printable p.0 p.1
printable code latitude longitude {p} e =
    let (north, east) = settled code latitude longitude e in (
      omega (arith, within_size 32399999999 32400000000 32400000000 p.0 (omega arith) (omega arith) north),
      omega (arith, within_size 2147483647 110147483647 110147483647 p.1 (omega arith) (omega arith) east),
    )

-- ---- an element is that of a converted position, and is refused as a shift is
module _ (code latitude longitude : ℤ) where
  abbrev Of : List ℕ → Type 0
  Of bytes = (north : ℤ) × ((east : ℤ) × ((converted_of code latitude longitude ≡ gives (north, east)) × (element north east ≡ bytes)))

  pub of_position : {bytes : List ℕ} → element_of code latitude longitude ≡ gives bytes → Of bytes
  of_position {bytes} = go (converted_of code latitude longitude) refl
    where
      go : (a : Answer (ℤ × ℤ)) → converted_of code latitude longitude ≡ a → following a (λ position. gives (element position.0 position.1)) ≡ gives bytes → Of bytes
      go (gives p) e h = (p.0, (p.1, (e, same_value h)))
      go (refused n) e h = absurd (not_both (sym h))

  pub as_refused : (n : ℕ) → (element_of code latitude longitude ≡ refused n) ↔ (shift_of code latitude longitude ≡ refused n)
  as_refused n = (
    (λ h. (converted.as_refused code latitude longitude n).0 (go (converted_of code latitude longitude) h)),
    (λ h. ap (λ (a : Answer (ℤ × ℤ)). following a (λ position. gives (element position.0 position.1))) ((converted.as_refused code latitude longitude n).1 h)),
  )
    where
      go : (a : Answer (ℤ × ℤ)) → following a (λ position. gives (element position.0 position.1)) ≡ refused n → a ≡ refused n
      go (gives p) h = absurd (not_both h)
      go (refused m) h = cc

  -- ---- where it is written, and where not
  module _ (room : ℕ) where
    abbrev Fitting : List ℕ → Type 0
    Fitting bytes = (north : ℤ) × ((east : ℤ) × ((converted_of code latitude longitude ≡ gives (north, east)) × ((length (element north east) ≤ room) × (element north east ≡ bytes))))

    abbrev TooLong : ℕ → Type 0
    TooLong n = (north : ℤ) × ((east : ℤ) × ((converted_of code latitude longitude ≡ gives (north, east)) × ((room < length (element north east)) × (n ≡ 7))))

    abbrev by : Answer (ℤ × ℤ) → Answer (List ℕ)
    by a = following (following a (λ position. gives (element position.0 position.1))) (λ bytes. placed bytes room)

    pub written : {bytes : List ℕ} → waypoint_of code latitude longitude room ≡ gives bytes → Fitting bytes
    written {bytes} = go (converted_of code latitude longitude) refl
      where
        go : (a : Answer (ℤ × ℤ)) → converted_of code latitude longitude ≡ a → by a ≡ gives bytes → Fitting bytes
        go (gives p) e h =
            let q = passed (leb (length (element p.0 p.1)) room) 7 (gives (element p.0 p.1)) h in
            (p.0, (p.1, (e, (leb-true (length (element p.0 p.1)) room q.0, same_value q.1))))
        go (refused n) e h = absurd (not_both (sym h))

    pub writes : {bytes : List ℕ} → Fitting bytes → waypoint_of code latitude longitude room ≡ gives bytes
    writes (north, (east, (e, (fits, same)))) = ap by e ∙ simp (le-leb (length (element north east)) room fits) (ap gives same)

    pub unwritten : (n : ℕ) → waypoint_of code latitude longitude room ≡ refused n → (shift_of code latitude longitude ≡ refused n) ⊎ TooLong n
    unwritten n = go (converted_of code latitude longitude) refl
      where
        go : (a : Answer (ℤ × ℤ)) → converted_of code latitude longitude ≡ a → by a ≡ refused n → (shift_of code latitude longitude ≡ refused n) ⊎ TooLong n
        go (gives p) e h =
            let q = failed (leb (length (element p.0 p.1)) room) 7 (element p.0 p.1) h in
            inr (p.0, (p.1, (e, (leb-false (length (element p.0 p.1)) room q.0, q.1))))
        go (refused m) e h = inl ((converted.as_refused code latitude longitude n).0 (e ∙ cc))

    pub unwrites : (n : ℕ) → (shift_of code latitude longitude ≡ refused n) ⊎ TooLong n → waypoint_of code latitude longitude room ≡ refused n
    unwrites n (inl s) = ap by ((converted.as_refused code latitude longitude n).1 s)
    unwrites n (inr (north, (east, (e, (short, seven))))) = ap by e ∙ simp (lt-leb (length (element north east)) room short) (ap refused (sym seven))

-- ---- what is put for a point: a is what is answered, and l the buffer afterwards
module _ (code latitude longitude : ℤ) (out : List ℕ) where
  -- of its position, where it has one
  pub position_put : {p : ℤ × ℤ} → gives p ≡ converted_of code latitude longitude → {a : Answer ℕ} {l : List ℕ}
      → Written (placed (element p.0 p.1) (length out)) out a l → Written (waypoint_of code latitude longitude (length out)) out a l
  position_put e w =
      let same = ap (by code latitude longitude (length out)) e in
      (w.0 ∙ ap counted same, w.1 ∙ ap (λ (a : Answer (List ℕ)). lent a out) same)

  -- and nothing, where it has none
  pub none_put : {n : ℕ} → refused n ≡ converted_of code latitude longitude → Written (waypoint_of code latitude longitude (length out)) out (refused n) out
  none_put e =
      let same = ap (by code latitude longitude (length out)) e in
      (ap counted same, ap (λ (a : Answer (List ℕ)). lent a out) same)
