-- The codes: a law over each of them by one computed test, and which of them have which family. Assumes nothing.
use mathlib.Core.Path.{◌≡◌, refl, sym, ap, ◌∙◌, subst}
use mathlib.Core.Bool.{Bool, true, false, not, beq, false≢true}
use mathlib.Core.Logic.{◌↔◌}
use Prim.Native.Nat.{ℕ, zero, suc, ◌<◌}
use native.Mathlib.Omega.{arith}
use lib.Dec.{T}
use lib.IntN.{ℤ, pos, negsuc}
use lib.Signed.{le_z}
use borrow.Author.Tests.{leb-true}
use Rattle.whole.proofs.Bools.{both, not_not_so, same_so}
use Rattle.whole.proofs.Below.{all_below, below}
use Rattle.kinds.specs.Kinds.{within}
use Rattle.kinds.proofs.Ranges.{wider}
use Rattle.tables.specs.Page.{Equation, Family, is_shift, is_geoid}
use Rattle.datum.specs.Point.{is_code, page_of}

-- a code is one more than its row
pub numbered : (code : ℤ) → is_code code ≡ true → (n : ℕ) × ((n < 6) × (code ≡ pos (suc n)))
numbered (negsuc n) t = absurd (false≢true t)
numbered (pos zero) t = absurd (false≢true t)
numbered (pos (suc n)) t =
    (n, (omega (arith, leb-true (suc n) 6 (both (le_z (pos 1) (pos (suc n))) (le_z (pos (suc n)) (pos 6)) t).1), refl))

-- what a test computes of each code holds of every code
abbrev pub of_each_lem : (ℤ → Bool) → Bool
of_each_lem test = all_below 6 (λ n. test (pos (suc n)))

pub each_code : (test : ℤ → Bool) → T (of_each_lem test) → (code : ℤ) → is_code code ≡ true → T (test code)
each_code test t code h =
    let (n, (low, e)) = numbered code h in
    subst (λ (z : ℤ). T (test z)) (sym e) (below 6 (λ n. test (pos (suc n))) t n low)

-- ---- the codes of each family
module _ (family : Family Equation → Bool) (a b : ℤ) where
  abbrev told : ℤ → Bool
  told code = beq (family (page_of code).equations) (not (within a b code))

  but_those : T (of_each_lem told) → le_z (pos 1) a ≡ true → le_z b (pos 6) ≡ true → (code : ℤ) → ((is_code code ≡ true) × (family (page_of code).equations ≡ false)) ↔ (within a b code ≡ true)
  but_those t low high code = (
    (λ h. not_not_so (within a b code) (sym (is h.0) ∙ h.1)),
    (λ h.
        let c = wider a b (pos 1) (pos 6) code low high h in
        (c, is c ∙ ap not h)),
  )
    where
      is : is_code code ≡ true → family (page_of code).equations ≡ not (within a b code)
      is h = same_so _ _ (each_code told t code h)

pub not_shift : (code : ℤ) → ((is_code code ≡ true) × (is_shift (page_of code).equations ≡ false)) ↔ (within (pos 5) (pos 6) code ≡ true)
not_shift = but_those is_shift (pos 5) (pos 6) tt refl refl

pub not_geoid : (code : ℤ) → ((is_code code ≡ true) × (is_geoid (page_of code).equations ≡ false)) ↔ (within (pos 1) (pos 4) code ≡ true)
not_geoid = but_those is_geoid (pos 1) (pos 4) tt refl refl
