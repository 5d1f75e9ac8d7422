-- Document 01, 'The working rule', 2: the powers of a number.
-- It counts parts of one, as many as the scale says; there they are hundred-millionths.
use Rattle.std.specs.Prelude.{List, [], ◌∷◌, ◌++◌, ℕ, zero, suc, ℤ, pos, ◌*ℤ◌}
use Rattle.whole.specs.Round.{round_div}

module _ (scale : ℕ) where
  -- the zeroth is the scale and the first is u; each further one is the one before times u, divided by the scale and rounded
  unfoldable pub power : ℤ → ℕ → ℤ
  power u zero = pos scale
  power u (suc zero) = u
  power u (suc (suc n)) = round_div (power u (suc n) *ℤ u) scale

  -- the first n powers, from the zeroth
  unfoldable pub powers_of : ℤ → ℕ → List ℤ
  powers_of u zero = []
  powers_of u (suc n) = powers_of u n ++ (power u n ∷ [])
