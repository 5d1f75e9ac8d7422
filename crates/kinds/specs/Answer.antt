-- Document 01, 'Refusal numbers': what a call answers, and what it leaves in a lent buffer.
use Rattle.std.specs.Prelude.{◌≡◌, Bool, true, false, ◌⊎◌, List, [], ◌∷◌, ◌++◌, ℕ, leb, length, drop}
use Rattle.kinds.specs.declared.Refusal.{Refusal}
use Rattle.kinds.specs.declared.Refusal.TheVariants.{Length, Kind, Range, Code, Family, Area, Room, Foreign, Sheet}

-- a value, or the number of the refusal
pub data Answer (A : Type 0) : Type 0 where
  gives : A → Answer A
  refused : ℕ → Answer A

-- the answer where the test holds, and the refusal n where it does not
abbrev pub provided : {A : Type 0} → Bool → ℕ → Answer A → Answer A
provided true n a = a
provided false n a = refused n

-- a test, and the number that is given where it does not hold
infix 10 ◌else◌
pub data Test : Type 0 where
  ◌else◌ : Bool → ℕ → Test

-- the answer where all tests hold, and the number of the first that does not
abbrev pub in_order : {A : Type 0} → List Test → Answer A → Answer A
in_order [] a = a
in_order ((holds else n) ∷ tests) a = provided holds n (in_order tests a)

-- that every test holds
abbrev pub AllHold : List Test → Type 0
AllHold [] = Unit {0}
AllHold ((holds else n) ∷ tests) = (holds ≡ true) × AllHold tests

-- that the first test that does not hold has the number n
abbrev pub FirstFails : List Test → ℕ → Type 0
FirstFails [] n = ⊥
FirstFails ((holds else m) ∷ tests) n = ((holds ≡ false) × (m ≡ n)) ⊎ ((holds ≡ true) × FirstFails tests n)

-- what follows from a value; a refusal stays
abbrev pub following : {A B : Type 0} → Answer A → (A → Answer B) → Answer B
following (gives value) next = next value
following (refused n) next = refused n

-- the number of the refusal, or 0 where there is a value
abbrev pub refusal_of : {A : Type 0} → Answer A → ℕ
refusal_of (gives value) = 0
refusal_of (refused n) = n

-- the number of each refusal
abbrev pub number_of : Refusal → ℕ
number_of Length = 1
number_of Kind = 2
number_of Range = 3
number_of Code = 4
number_of Family = 5
number_of Area = 6
number_of Room = 7
number_of Foreign = 8
number_of Sheet = 9

-- ---- a call that writes: its bytes, or the number of the refusal
-- the bytes, for a lent buffer that has room for so many: 7 where it is too short
abbrev pub placed : List ℕ → ℕ → Answer (List ℕ)
placed bytes room = provided (leb (length bytes) room) 7 (gives bytes)

-- how many bytes it says that it wrote
abbrev pub counted : Answer (List ℕ) → Answer ℕ
counted (gives bytes) = gives (length bytes)
counted (refused n) = refused n

-- the lent buffer afterwards: the bytes at its start and the rest as it came; after a refusal, all of it as it came
abbrev pub lent : Answer (List ℕ) → List ℕ → List ℕ
lent (gives bytes) out = bytes ++ drop (length bytes) out
lent (refused n) out = out
