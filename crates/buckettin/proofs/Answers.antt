-- What C's numbers tell of an answer. Assumes nothing.
use mathlib.Core.Path.{◌≡◌, refl, sym, ap, ◌∙◌}
use mathlib.Core.Bool.{true, not, false≢true}
use mathlib.Core.List.{List}
use Prim.Native.Nat.{ℕ, ◌<◌}
use native.Mathlib.Omega.{arith}
use lib.IntN.{ℤ, pos}
use lib.ListN.{length}
use Rattle.kinds.specs.Answer.{Answer, gives, refused, refusal_of, counted}
use Rattle.tables.specs.Page.{Family, shift, geoid, is_shift, is_geoid, of_each}
use Rattle.datum.specs.Point.{first_of, second_of, third_of}
use Rattle.buckettin.specs.Fields.{value_or}

-- of a call that writes: bytes were written where the number is 0, if the numbers of refusals are above 0
pub told_written : (a : Answer (List ℕ)) → ((n : ℕ) → a ≡ refused n → 0 < n) → refusal_of (counted a) ≡ 0 → (bytes : List ℕ) × ((a ≡ gives bytes) × (value_or 0 (counted a) ≡ length bytes))
told_written (gives bytes) above h = (bytes, (refl, refl))
told_written (refused n) above h = absurd (omega (arith, above n refl, h))

-- ---- values of one family, by C's numbers
same_family : {A B : Type 0} (work : A → B) (f : Family A) → is_shift (of_each work f) ≡ is_shift f
same_family work (shift a b c) = refl
same_family work (geoid n) = refl

abbrev by_shift : Answer (Family ℤ) → Answer (Family ℤ)
by_shift a = gives (shift (first_of (pos 0) a) (second_of (pos 0) a) (third_of (pos 0) a))

abbrev by_geoid : Answer (Family ℤ) → Answer (Family ℤ)
by_geoid a = gives (geoid (first_of (pos 0) a))

module _ {A : Type 0} (work : A → ℤ) (f : Family A) {a : Answer (Family ℤ)} (v : Family ℤ) (given : a ≡ gives v) (is-v : of_each work f ≡ v) where
  one_family : is_shift v ≡ is_shift f
  one_family = ap is_shift (sym is-v) ∙ same_family work f

  pub as_shift : is_shift f ≡ true → a ≡ by_shift a
  as_shift h = given ∙ go v (one_family ∙ h) ∙ ap by_shift (sym given)
    where
      go : (v : Family ℤ) → is_shift v ≡ true → gives v ≡ by_shift (gives v)
      go (shift x y z) h = refl
      go (geoid n) h = absurd (false≢true h)

  pub as_geoid : is_geoid f ≡ true → a ≡ by_geoid a
  as_geoid h = given ∙ go v (ap not one_family ∙ h) ∙ ap by_geoid (sym given)
    where
      go : (v : Family ℤ) → is_geoid v ≡ true → gives v ≡ by_geoid (gives v)
      go (geoid n) h = refl
      go (shift x y z) h = absurd (false≢true h)
