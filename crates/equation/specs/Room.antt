-- What `equation` asks of its callers, so that no number on the way is larger than 64 bits hold. The laws of proofs/Limits
-- show it of a table from the limits of u and v.
use Rattle.std.specs.Prelude.{List, [], ◌∷◌, ℕ, ◌+◌, ◌*◌, ◌<◌, ◌^◌, T, ℤ, pos, nat_abs, ◌*ℤ◌, get_or}
use Rattle.std.specs.Int.Signed.{non_neg}
use Rattle.whole.specs.Round.{scale}
use Rattle.equation.specs.Equation.{Term, term, product}
use Rattle.equation.specs.Inside.{spread}

-- the powers are among the ten and not negative, and 64 bits hold what is divided
abbrev pub Fitting : Term → List ℤ → List ℤ → Type 0
Fitting (term c i j) pu pv = (i < 10) × (j < 10) × T (non_neg (get_or pu i (pos 0))) × T (non_neg (get_or pv j (pos 0))) × (nat_abs (get_or pu i (pos 0) *ℤ get_or pv j (pos 0)) < 2 ^ 63)

unfoldable pub EachFits : List Term → List ℤ → List ℤ → Type 0
EachFits [] pu pv = Unit {0}
EachFits (t ∷ ts) pu pv = Fitting t pu pv × EachFits ts pu pv

-- the sizes of the terms, summed
unfoldable pub sizes : List Term → List ℤ → List ℤ → ℕ
sizes [] pu pv = 0
sizes (term c i j ∷ ts) pu pv = nat_abs c * nat_abs (product scale i j pu pv) + sizes ts pu pv

pub record Room (ts : List Term) (pu pv : List ℤ) : Type 0 where
  pub each : EachFits ts pu pv
  pub within : sizes ts pu pv < 2 ^ 63

-- the same of some terms, where the sums of the classes are there already of others
pub record RoomFrom (sums : List ℤ) (ts : List Term) (pu pv : List ℤ) : Type 0 where
  pub each : EachFits ts pu pv
  pub within : spread sums + sizes ts pu pv < 2 ^ 63
