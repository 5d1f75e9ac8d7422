-- A test of every one of a list: of one, of one at any place, of a part, of two together, of a weaker test, of the same test said otherwise. Assumes nothing.
use mathlib.Core.Path.{◌≡◌, refl}
use mathlib.Core.Bool.{Bool, true, ◌&&◌}
use mathlib.Core.List.{List, [], ◌∷◌, ◌++◌}
use Prim.Native.Nat.{ℕ, zero, suc}
use lib.Dec.{T}
use lib.ListN.{take, drop, get_or}
use mir.Facts.{and_yes}
use Rattle.whole.specs.Every.{every}
use Rattle.whole.proofs.Bools.{both, joined}

module _ {A : Type 0} (f : A → Bool) where
  -- what every one passes, every one in a part passes
  pub every_cut : (n : ℕ) (l : List A) → every f l ≡ true → (every f (take n l) ≡ true) × (every f (drop n l) ≡ true)
  every_cut zero l h = (refl, h)
  every_cut (suc n) [] h = (refl, refl)
  every_cut (suc n) (x ∷ l) h =
      let p = both (f x) (every f l) h in
      let rest = every_cut n l p.1 in
      (joined p.0 rest.0, rest.1)

  -- and what every one of two lists passes, every one of both passes
  pub every_joined : (k l : List A) → every f k ≡ true → every f l ≡ true → every f (k ++ l) ≡ true
  every_joined [] l h j = j
  every_joined (x ∷ k) l h j =
      let p = both (f x) (every f k) h in
      joined p.0 (every_joined k l p.1 j)

  -- and a weaker test
  pub every_weaker : (g : A → Bool) → ((x : A) → f x ≡ true → g x ≡ true) → (l : List A) → every f l ≡ true → every g l ≡ true
  every_weaker g k [] h = refl
  every_weaker g k (x ∷ l) h =
      let p = both (f x) (every f l) h in
      joined (k x p.0) (every_weaker g k l p.1)

  pub every_same : (g : A → Bool) → ((x : A) → f x ≡ g x) → (l : List A) → every f l ≡ every g l
  every_same g h [] = refl
  every_same g h (x ∷ l) = λ i. h x i && every_same g h l i

-- of a list that is not empty, with its first for what is not there: what every one passes, the one at any place does
pub every_place : {A : Type 0} (f : A → Bool) (first : A) (rest : List A) → T (every f (first ∷ rest)) → (n : ℕ) → T (f (get_or (first ∷ rest) n first))
every_place f first rest h zero = (and_yes (f first) (every f rest) h).0
every_place {A} f first rest h (suc n) = behind rest (and_yes (f first) (every f rest) h).1 n
  where
    behind : (l : List A) → T (every f l) → (n : ℕ) → T (f (get_or l n first))
    behind [] k n = (and_yes (f first) (every f rest) h).0
    behind (x ∷ l) k zero = (and_yes (f x) (every f l) k).0
    behind (x ∷ l) k (suc n) = behind l (and_yes (f x) (every f l) k).1 n
