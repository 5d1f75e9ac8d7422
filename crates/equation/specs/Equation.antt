-- Document 01, 'The working rule', 3 and 4: one equation, over its table of terms.
use Rattle.std.specs.Prelude.{Bool, ◌&&◌, List, [], ◌∷◌, ℕ, ltb, ℤ, pos, neg_ℤ, ◌+ℤ◌, ◌*ℤ◌, get_or}
use Rattle.whole.specs.Round.{round_div, scale}

-- a term: its whole coefficient, its power of U and its power of V
pub data Term : Type 0 where
  term : ℤ → ℕ → ℕ → Term

-- the same as the page has it, with its sign
infix 90 plus◌U^◌V^◌ minus◌U^◌V^◌
abbrev pub plus◌U^◌V^◌ : ℕ → ℕ → ℕ → Term
plus c U^ i V^ j = term (pos c) i j

abbrev pub minus◌U^◌V^◌ : ℕ → ℕ → ℕ → Term
minus c U^ i V^ j = term (neg_ℤ (pos c)) i j

-- its powers are among the ten
abbrev pub among_ten : Term → Bool
among_ten (term c i j) = ltb i 10 && ltb j 10

-- 3. a term's product is its power of u times its power of v, divided by the scale s and rounded
abbrev pub product : ℕ → ℕ → ℕ → List ℤ → List ℤ → ℤ
product s i j pu pv = round_div (get_or pu i (pos 0) *ℤ get_or pv j (pos 0)) s

-- 4. the sum of coefficient times product is exact
unfoldable pub sum : ℕ → List Term → List ℤ → List ℤ → ℤ
sum s [] pu pv = pos 0
sum s (term c i j ∷ ts) pu pv = c *ℤ product s i j pu pv +ℤ sum s ts pu pv

-- it is divided and rounded once; s is 100,000,000
abbrev pub equation_of : ℕ → List Term → List ℤ → List ℤ → ℤ
equation_of divisor ts pu pv = round_div (sum scale ts pu pv) divisor
