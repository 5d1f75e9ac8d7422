-- How the code works a sum: by the powers of the sizes of u and v, in four classes of terms, whose signs are put on at the end.
-- No promise of an entry point speaks of it.
use Rattle.std.specs.Prelude.{Bool, not, cond, List, [], ◌∷◌, ℕ, ◌+◌, ◌*◌, ◌%◌, ℤ, pos, nat_abs, ◌+ℤ◌, ◌*ℤ◌, get_or, set}
use Rattle.whole.specs.Round.{scale}
use Rattle.whole.specs.Sign.{with_sign}
use Rattle.equation.specs.Powers.{powers_of}
use Rattle.equation.specs.Equation.{Term, term, product}
use Rattle.equation.specs.declared.Term as code

-- a table of the code, as terms
abbrev pub coded : code.Term → Term
coded t = term t.0 t.1 t.2

abbrev pub terms : List code.Term → List Term
terms [] = []
terms (t ∷ ts) = coded t ∷ terms ts

-- the ten powers of the size of u
abbrev pub size_powers : ℤ → List ℤ
size_powers u = powers_of scale (pos (nat_abs u)) 10

-- the class of a term, by its powers of U and V: 0 both are even, 1 V's alone is odd, 2 U's alone, 3 both
abbrev pub class_of : Term → ℕ
class_of (term c i j) = i % 2 * 2 + j % 2

-- what a term adds to the sum of its class
abbrev pub value : Term → List ℤ → List ℤ → ℤ
value (term c i j) pu pv = c *ℤ product scale i j pu pv

-- the sums of the four classes with a term more, and with some terms more
abbrev pub with_term : List ℤ → Term → List ℤ → List ℤ → List ℤ
with_term sums t pu pv = set sums (class_of t) (get_or sums (class_of t) (pos 0) +ℤ value t pu pv)

unfoldable pub class_sums : List ℤ → List Term → List ℤ → List ℤ → List ℤ
class_sums sums [] pu pv = sums
class_sums sums (t ∷ ts) pu pv = class_sums (with_term sums t pu pv) ts pu pv

-- how large they are together
abbrev pub spread : List ℤ → ℕ
spread sums = nat_abs (get_or sums 0 (pos 0)) + nat_abs (get_or sums 1 (pos 0)) + nat_abs (get_or sums 2 (pos 0)) + nat_abs (get_or sums 3 (pos 0))

-- the sum of all four, each with its sign, by whether u and v are below zero
abbrev pub joined : Bool → Bool → List ℤ → ℤ
joined u v sums =
    get_or sums 0 (pos 0)
    +ℤ with_sign v (get_or sums 1 (pos 0))
    +ℤ with_sign u (get_or sums 2 (pos 0))
    +ℤ with_sign (cond u (not v) v) (get_or sums 3 (pos 0))
