-- Tests joined by `&&` and `||`, by their two cases, and one beside another. Assumes nothing.
use mathlib.Core.Path.{◌≡◌, refl, sym}
use mathlib.Core.Bool.{Bool, true, false, not, ◌&&◌, ◌||◌, beq, false≢true}
use lib.Dec.{T}
use mir.Facts.{and_yes}

-- what holds of both holds of each
pub both : (a b : Bool) → (a && b) ≡ true → (a ≡ true) × (b ≡ true)
both true b h = (refl, h)
both false b h = absurd (false≢true h)

-- and what holds of each holds of both
pub joined : {a b : Bool} → a ≡ true → b ≡ true → (a && b) ≡ true
joined h k = λ i. h i && k i

-- what follows from each follows from either
pub either : {P : Type 0} (a b : Bool) → (a || b) ≡ true → (a ≡ true → P) → (b ≡ true → P) → P
either true b h f g = f refl
either false b h f g = g h

-- what follows from a test that holds and from one that does not follows
pub by_test : {P : Type 0} (a : Bool) → (a ≡ true → P) → (a ≡ false → P) → P
by_test true f g = f refl
by_test false f g = g refl

-- three tests that were computed together
pub three : (a b c : Bool) → T (a && (b && c)) → T a × T b × T c
three a b c h =
    let p = and_yes a (b && c) h in
    let q = and_yes b c p.1 in
    (p.0, q.0, q.1)

-- a test that was computed holds
pub computed : (b : Bool) → T b → b ≡ true
computed true h = refl
computed false h = absurd h

-- what does not fail, and two tests that say the same
pub not_not_so : (b : Bool) → not b ≡ false → b ≡ true
not_not_so true h = refl
not_not_so false h = absurd (false≢true (sym h))

pub same_so : (a b : Bool) → T (beq a b) → a ≡ b
same_so true true h = refl
same_so false false h = refl
same_so true false h = absurd h
same_so false true h = absurd h
