-- How far a page reaches: the largest u and the largest v of its box. Assumes nothing.
use Prim.Native.Nat.{ℕ, max}
use lib.IntN.{ℤ, nat_abs}
use Rattle.tables.specs.Page.{Page, Axis}
use Rattle.tables.specs.Rule.{along}

-- the largest u or v, which is at one end of the box
abbrev pub most : Axis → ℤ → ℤ → ℕ
most axis least largest = max (nat_abs (along axis least)) (nat_abs (along axis largest))

abbrev pub most_u : Page → ℕ
most_u page = most page.u page.south page.north

abbrev pub most_v : Page → ℕ
most_v page = most page.v page.west page.east
