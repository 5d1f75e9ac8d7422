-- The test of an equation: what each rounding on the way is charged, and whether the sum of it and the last rounding stay within a
-- bound. `Errors` has what it shows. Assumes nothing.
--
-- An error on the way is counted as a whole number over `fine`, of a product the next larger: the larger `fine` is, the less is
-- lost in counting.
use mathlib.Core.Bool.{Bool, true, ◌&&◌}
use mathlib.Core.List.{List, [], ◌∷◌}
use Prim.Native.Nat.{ℕ, zero, suc, ◌+◌, ◌-◌, ◌*◌, ◌/◌}
use lib.Dec.{leb, ltb}
use lib.IntN.{nat_abs}
use Rattle.equation.specs.Equation.{Term, term, among_ten}
use Rattle.equation.proofs.Steps.{limit}

-- each term's powers are among the ten
abbrev pub in_ten : List Term → Bool
in_ten [] = true
in_ten (t ∷ ts) = among_ten t && in_ten ts

module _ (s fine : ℕ) where
  -- of a rounded product, by its factors' errors e and d and sizes m and n
  abbrev pub product_error : ℕ → ℕ → ℕ → ℕ → ℕ
  product_error e d m n = (fine * fine * s + 2 * (fine * (e * n + m * d) + e * d)) / (2 * fine * s) + 1

  -- of the nth power of a rounded number whose size is at most m
  abbrev pub power_error : ℕ → ℕ → ℕ
  power_error m zero = 0
  power_error m (suc zero) = fine - fine / 2
  power_error m (suc (suc n)) = product_error (power_error m (suc n)) (fine - fine / 2) (limit s m (suc n)) m

  -- of a term's product; one with a zeroth power is not rounded again
  abbrev pub term_error : ℕ → ℕ → ℕ → ℕ → ℕ
  term_error mu mv zero j = power_error mv j
  term_error mu mv (suc i) zero = power_error mu (suc i)
  term_error mu mv (suc i) (suc j) = product_error (power_error mu (suc i)) (power_error mv (suc j)) (limit s mu (suc i)) (limit s mv (suc j))

  -- of the sum
  abbrev pub sum_error : ℕ → ℕ → List Term → ℕ
  sum_error mu mv [] = 0
  sum_error mu mv (term c i j ∷ ts) = nat_abs c * term_error mu mv i j + sum_error mu mv ts

  -- no divisor is zero
  abbrev pub divisors : ℕ → ℕ → ℕ → Bool
  divisors du dv divisor = (ltb 0 s && ltb 0 fine) && (ltb 0 du && (ltb 0 dv && ltb 0 divisor))

  -- half a unit for the last rounding and the error of the sum are at most h nths of a unit
  abbrev pub at_most : ℕ → ℕ → ℕ → ℕ → ℕ → List Term → Bool
  at_most divisor mu mv h n ts = leb (n * (fine * divisor + 2 * sum_error mu mv ts)) (2 * divisor * h * fine)

  abbrev pub bounded : ℕ → ℕ → ℕ → ℕ → ℕ → ℕ → ℕ → List Term → Bool
  bounded du dv divisor mu mv h n ts = divisors du dv divisor && (in_ten ts && at_most divisor mu mv h n ts)
