-- What document 01 asks of refusals, of lent buffers and of the answers' cases, and document 02's worked conversion. Stated
-- over specs/ alone. Assumes nothing.
use mathlib.Core.Path.{◌≡◌, refl, sym, ap, ◌∙◌}
use mathlib.Core.List.{List}
use mathlib.Core.Logic.{◌↔◌, ◌⊎◌, inl, inr, ⊎_elim}
use Prim.Native.Nat.{ℕ, ◌≤◌, ◌<◌}
use native.Mathlib.Omega.{arith}
use lib.Dec.{leb}
use Rattle.std.specs.Prelude.{Result}
use lib.IntN.{ℤ, pos, neg_ℤ, ◌*ℤ◌}
use lib.ListN.{length, take, drop, length-append, length-drop}
use lib.Seq.{take-append_seam, drop-append_seam}
use borrow.Author.Tests.{leb-true, leb-false, le-leb, lt-leb}
use Rattle.whole.specs.Round.{round_div}
use Rattle.kinds.specs.Answer.{Answer, gives, refused, Test, in_order, AllHold, FirstFails, refusal_of, number_of, placed, lent}
use Rattle.kinds.specs.Cases.{local_latitude, local_longitude, local_position, wgs84_latitude, wgs84_longitude, wgs84_position, angle_shift, height, written}
use Rattle.kinds.specs.Kinds.{converted}
use Rattle.kinds.specs.declared.Wgs84Latitude.{Wgs84Latitude}
use Rattle.kinds.specs.declared.Wgs84Longitude.{Wgs84Longitude}
use Rattle.kinds.specs.declared.Wgs84Position.{Wgs84Position}
use Rattle.kinds.specs.declared.LocalLatitude.{LocalLatitude}
use Rattle.kinds.specs.declared.LocalLongitude.{LocalLongitude}
use Rattle.kinds.specs.declared.LocalPosition.{LocalPosition}
use Rattle.kinds.specs.declared.AngleShift.{AngleShift}
use Rattle.kinds.specs.declared.Height.{Height}
use Rattle.kinds.specs.declared.Refusal.{Refusal}
use Rattle.kinds.specs.contracts.RefusalOrd.TheImpl.{ghosts}
use Rattle.std.specs.Ordering.{nat_cmp}
use Rattle.kinds.specs.declared.Refusal.TheVariants.{Length, Kind, Range, Code, Family, Area, Room, Foreign, Sheet}
use Rattle.kinds.proofs.Answers.{not_both, same_value, passed, failed, all_held, held, first_or_behind, first_failed, fails, same_refusal, determined}

-- ---- 'Refusal numbers'
-- no two refusals have one number
pub numbers_differ : (r s : Refusal) → number_of r ≡ number_of s → r ≡ s
numbers_differ r s h = same_refusal r s h

-- and each is one of the table's
pub numbers_tabled : (r : Refusal) → (1 ≤ number_of r) × (number_of r ≤ 9)
numbers_tabled Length = (omega arith, omega arith)
numbers_tabled Kind = (omega arith, omega arith)
numbers_tabled Range = (omega arith, omega arith)
numbers_tabled Code = (omega arith, omega arith)
numbers_tabled Family = (omega arith, omega arith)
numbers_tabled Area = (omega arith, omega arith)
numbers_tabled Room = (omega arith, omega arith)
numbers_tabled Foreign = (omega arith, omega arith)
numbers_tabled Sheet = (omega arith, omega arith)

-- and refusals are compared as their numbers are
pub compared_by_number : (r s : Refusal) → ghosts.cmp r s ≡ nat_cmp (number_of r) (number_of s)
compared_by_number r s = grind arith

-- an answer is refused with n, above 0, exactly where n is its number
pub by_number : {A : Type 0} (answer : Answer A) (n : ℕ) → 0 < n → (answer ≡ refused n) ↔ (refusal_of answer ≡ n)
by_number (gives value) n h = ((λ e. absurd (not_both e)), (λ e. absurd (omega (arith, h, e))))
by_number (refused m) n h = (ap refusal_of, ap refused)

-- of tests in their order: a value is given exactly where all hold, and a refusal is that of the first that does not
pub given_where : {A : Type 0} (tests : List Test) (v w : A) → (in_order tests (gives v) ≡ gives w) ↔ (AllHold tests × (v ≡ w))
given_where tests v w = (
  (λ h.
      let p = all_held tests (gives v) h in
      (p.0, same_value p.1)),
  (λ h. held tests (gives v) h.0 ∙ ap gives h.1),
)

pub refused_where : {A : Type 0} (tests : List Test) (v : A) (n : ℕ) → (in_order tests (gives v) ≡ refused n) ↔ FirstFails tests n
refused_where tests v n = ((λ h. first_failed tests v n h), (λ h. fails tests (gives v) n h))

-- and of bytes that are written after them, 7 where there is no room
module _ (tests : List Test) (bytes : List ℕ) (room : ℕ) {answer : Answer (List ℕ)} (is : answer ≡ in_order tests (placed bytes room)) where
  pub written_where : (w : List ℕ) → (answer ≡ gives w) ↔ (AllHold tests × ((length bytes ≤ room) × (bytes ≡ w)))
  written_where w = (
    (λ h.
        let p = all_held tests (placed bytes room) (sym is ∙ h) in
        let q = passed (leb (length bytes) room) 7 (gives bytes) p.1 in
        (p.0, (leb-true (length bytes) room q.0, same_value q.1))),
    (λ h. is ∙ held tests (placed bytes room) h.0 ∙ simp (le-leb (length bytes) room h.1.0) (ap gives h.1.1)),
  )

  pub unwritten_where : (n : ℕ) → (answer ≡ refused n) ↔ (FirstFails tests n ⊎ (AllHold tests × ((room < length bytes) × (n ≡ 7))))
  unwritten_where n = (
    (λ h.
        ⊎_elim inl
        (λ p.
        let q = failed (leb (length bytes) room) 7 bytes p.1 in
        inr (p.0, (leb-false (length bytes) room q.0, q.1)))
        (first_or_behind tests (placed bytes room) n (sym is ∙ h))),
    (λ h.
        is
        ∙ ⊎_elim (λ f. fails tests (placed bytes room) n f)
        (λ p. held tests (placed bytes room) p.0 ∙ simp (lt-leb (length bytes) room p.1.0) (ap refused (sym p.1.1)))
        h),
  )

-- ---- 'Refusals return .. lent memory as it came', 'changes only those, at its start'
pub refusal_changes_nothing : (n : ℕ) (out : List ℕ) → lent (refused n) out ≡ out
refusal_changes_nothing n out = refl

pub written_at_start : (bytes out : List ℕ) → take (length bytes) (lent (gives bytes) out) ≡ bytes
written_at_start bytes out = take-append_seam bytes (drop (length bytes) out)

pub rest_as_it_came : (bytes out : List ℕ) → drop (length bytes) (lent (gives bytes) out) ≡ drop (length bytes) out
rest_as_it_came bytes out = drop-append_seam bytes (drop (length bytes) out)

-- what has room for the bytes keeps its length
pub room_as_it_was : (bytes out : List ℕ) → length bytes ≤ length out → length (lent (gives bytes) out) ≡ length out
room_as_it_was bytes out h = simp (length-append, length-drop) (omega arith)

-- ---- document 02, wish 1: code 1's centre, 35° and 33°, by its shifts is 34.998932533 and 32.999693628 degrees
pub record Worked : Type 0 where
  pub latitude : round_div (converted (pos 126000000) (neg_ℤ (pos 384288)) *ℤ pos 1000000000) 360000000 ≡ pos 34998932533
  pub longitude : round_div (converted (pos 118800000) (neg_ℤ (pos 110294)) *ℤ pos 1000000000) 360000000 ≡ pos 32999693628

pub converts : Worked
unfolding round_div
converts = record { latitude = refl; longitude = refl }

-- ---- 'that two permitted answers coincide is proved'
-- two converted positions of one number are the same
pub wgs84_latitude_by_number : (a b : Wgs84Latitude) → a.0 ≡ b.0 → a ≡ b
wgs84_latitude_by_number a b h = ap (λ (x : ℤ). record { 0 = x }) h

pub wgs84_longitude_by_number : (a b : Wgs84Longitude) → a.0 ≡ b.0 → a ≡ b
wgs84_longitude_by_number a b h = ap (λ (x : ℤ). record { 0 = x }) h

-- and so are two shifts of an angle, and two heights
pub angle_shift_by_number : (a b : AngleShift) → a.0 ≡ b.0 → a ≡ b
angle_shift_by_number a b h = ap (λ (x : ℤ). record { 0 = x }) h

pub height_by_number : (a b : Height) → a.0 ≡ b.0 → a ≡ b
height_by_number a b h = ap (λ (x : ℤ). record { 0 = x }) h

-- two results that say the same are the same
pub local_latitude_determined : (a b : Result LocalLatitude Refusal) → local_latitude a ≡ local_latitude b → a ≡ b
local_latitude_determined = determined (λ x. x.0) (λ n. record { 0 = n }) (λ _. refl)

pub local_longitude_determined : (a b : Result LocalLongitude Refusal) → local_longitude a ≡ local_longitude b → a ≡ b
local_longitude_determined = determined (λ x. x.0) (λ n. record { 0 = n }) (λ _. refl)

pub local_position_determined : (a b : Result LocalPosition Refusal) → local_position a ≡ local_position b → a ≡ b
local_position_determined = determined (λ p. (p.latitude.0, p.longitude.0)) (λ n. record { latitude = record { 0 = n.0 }; longitude = record { 0 = n.1 } }) (λ _. refl)

pub wgs84_latitude_determined : (a b : Result Wgs84Latitude Refusal) → wgs84_latitude a ≡ wgs84_latitude b → a ≡ b
wgs84_latitude_determined = determined (λ x. x.0) (λ n. record { 0 = n }) (λ _. refl)

pub wgs84_longitude_determined : (a b : Result Wgs84Longitude Refusal) → wgs84_longitude a ≡ wgs84_longitude b → a ≡ b
wgs84_longitude_determined = determined (λ x. x.0) (λ n. record { 0 = n }) (λ _. refl)

pub wgs84_position_determined : (a b : Result Wgs84Position Refusal) → wgs84_position a ≡ wgs84_position b → a ≡ b
wgs84_position_determined = determined (λ p. (p.latitude.0, p.longitude.0)) (λ n. record { latitude = record { 0 = n.0 }; longitude = record { 0 = n.1 } }) (λ _. refl)

pub angle_shift_determined : (a b : Result AngleShift Refusal) → angle_shift a ≡ angle_shift b → a ≡ b
angle_shift_determined = determined (λ x. x.0) (λ n. record { 0 = n }) (λ _. refl)

pub height_determined : (a b : Result Height Refusal) → height a ≡ height b → a ≡ b
height_determined = determined (λ x. x.0) (λ n. record { 0 = n }) (λ _. refl)

pub written_determined : (a b : Result ℕ Refusal) → written a ≡ written b → a ≡ b
written_determined = determined (λ n. n) (λ n. n) (λ _. refl)
