-- The sum of a table's terms, the sizes of these, and that their order makes no difference. Assumes nothing.
use mathlib.Core.Path.{◌≡◌, refl, sym, ap, ◌∙◌}
use mathlib.Core.List.{List, ◌∷◌, Permᴰ}
use Prim.Native.Nat.{ℕ, ◌+◌, ◌*◌}
use lib.IntN.{ℤ, nat_abs, ◌+ℤ◌, +ℤ_assoc, +ℤ_comm}
use Rattle.whole.proofs.Sizes.{abs-*}
use Rattle.whole.specs.Round.{scale}
use Rattle.equation.specs.Equation.{Term, term, product, sum}
use Rattle.equation.specs.Room.{sizes}
use Rattle.equation.specs.Inside.{value}

-- what a term adds to the sum of the sizes
abbrev pub size : Term → List ℤ → List ℤ → ℕ
size (term c i j) pu pv = nat_abs c * nat_abs (product scale i j pu pv)

pub size_is : (t : Term) (pu pv : List ℤ) → nat_abs (value t pu pv) ≡ size t pu pv
size_is (term c i j) pu pv = abs-* c (product scale i j pu pv)

module _ (pu pv : List ℤ) where
  sum_first : (t : Term) (ts : List Term) → sum scale (t ∷ ts) pu pv ≡ value t pu pv +ℤ sum scale ts pu pv
  unfolding sum
  sum_first (term c i j) ts = refl

  -- ---- how large
  pub sizes_first : (t : Term) (ts : List Term) → sizes (t ∷ ts) pu pv ≡ size t pu pv + sizes ts pu pv
  unfolding sizes
  sizes_first (term c i j) ts = refl

  -- ---- in any order
  pub sum_any_order : {ts ss : List Term} → Permᴰ ts ss → sum scale ts pu pv ≡ sum scale ss pu pv
  sum_any_order Permᴰ.nil = refl
  sum_any_order (Permᴰ.cons {a} {b} {l₁} {l₂} e d) =
      sum_first a l₁
      ∙ (λ i. value (e i) pu pv +ℤ sum_any_order d i)
      ∙ sym (sum_first b l₂)
  sum_any_order (Permᴰ.swap {a} {b} {a'} {b'} {l} e f) =
      two a b l
      ∙ (λ i. value (e i) pu pv +ℤ (value (f i) pu pv +ℤ sum scale l pu pv))
      ∙ swapped (value b' pu pv) (value a' pu pv) (sum scale l pu pv)
      ∙ sym (two a' b' l)
    where
      two : (s t : Term) (ts : List Term) → sum scale (s ∷ t ∷ ts) pu pv ≡ value s pu pv +ℤ (value t pu pv +ℤ sum scale ts pu pv)
      two s t ts = sum_first s (t ∷ ts) ∙ ap (λ (z : ℤ). value s pu pv +ℤ z) (sum_first t ts)

      swapped : (x y z : ℤ) → x +ℤ (y +ℤ z) ≡ y +ℤ (x +ℤ z)
      swapped x y z = sym (+ℤ_assoc x y z) ∙ ap (λ (w : ℤ). w +ℤ z) (+ℤ_comm x y) ∙ +ℤ_assoc y x z
  sum_any_order (Permᴰ.trans d e) = sum_any_order d ∙ sum_any_order e
