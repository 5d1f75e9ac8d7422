-- A call that hands its three numbers on: they arrive as they came. Assumes nothing.
use mathlib.Core.Path.{◌≡◌}
use lib.IntN.{ℤ}
use mir.Syntax.{w64}
use mir.Val.{SFits, to_z, of_z}
use Rattle.whole.proofs.Words.{of}

module _ {code latitude longitude : ℤ} (c : SFits w64 code) (b : SFits w64 latitude) (l : SFits w64 longitude) where
  pub came : {A : Type 0} (call : ℤ → ℤ → ℤ → A) → call (to_z w64 (of_z w64 code)) (to_z w64 (of_z w64 latitude)) (to_z w64 (of_z w64 longitude)) ≡ call code latitude longitude
  came call = λ i. call ((of c).reads i) ((of b).reads i) ((of l).reads i)
