-- What holds of each of a family's values: by a test of each, and by what holds already. Assumes nothing.
use mathlib.Core.Path.{◌≡◌, refl, sym}
use mathlib.Core.Bool.{Bool, true, false, ◌&&◌, false≢true}
use lib.Dec.{T}
use lib.IntN.{ℤ}
use Rattle.whole.proofs.Bools.{three}
use Rattle.tables.specs.Page.{Family, shift, geoid, is_shift, is_geoid, of_each, each, Each, OfShift, OfGeoid}
use Rattle.tables.specs.Inside.{shift_or_none, geoid_or_none}

-- ---- by a test
pub each_by : {A : Type 0} {P : A → Type 0} (test : A → Bool) → ((a : A) → T (test a) → P a) → (family : Family A) → T (each test family) → Each P family
each_by test f (shift a b c) h =
    let t = three (test a) (test b) (test c) h in
    (f a t.0, f b t.1, f c t.2)
each_by test f (geoid n) h = f n h

-- a test of two of one family, place by place
abbrev pub paired : {A B : Type 0} → (A → B → Bool) → Family A → Family B → Bool
paired test (shift a b c) (shift d e f) = test a d && (test b e && test c f)
paired test (geoid a) (geoid b) = test a b
paired test (shift a b c) (geoid d) = false
paired test (geoid a) (shift d e f) = false

-- ---- by what holds already
pub shift_so : {A : Type 0} {P Q : A → A → A → Type 0} (family : Family A) → ((a b c : A) → P a b c → Q a b c) → OfShift family P → OfShift family Q
shift_so (shift a b c) f p = f a b c p
shift_so (geoid n) f p = absurd p

pub geoid_so : {A : Type 0} {P Q : A → Type 0} (family : Family A) → ((a : A) → P a → Q a) → OfGeoid family P → OfGeoid family Q
geoid_so (shift a b c) f p = absurd p
geoid_so (geoid n) f p = f n p

-- what holds of each that is worked out
pub each_of : {A B : Type 0} (P : B → Type 0) (work : A → B) (family : Family A) → Each (λ a. P (work a)) family → Each P (of_each work family)
each_of P work (shift a b c) h = h
each_of P work (geoid n) h = h

-- a datum of shifts gives its shift, and one of geoid heights its geoid height
pub its_shift : {A : Type 0} (work : A → ℤ) (family : Family A) → is_shift family ≡ true → shift_or_none (of_each work family) ≡ of_each work family
its_shift work (shift a b c) h = refl
its_shift work (geoid n) h = absurd (false≢true h)

pub its_geoid : {A : Type 0} (work : A → ℤ) (family : Family A) → is_geoid family ≡ true → geoid_or_none (of_each work family) ≡ of_each work family
its_geoid work (shift a b c) h = absurd (false≢true h)
its_geoid work (geoid n) h = refl
