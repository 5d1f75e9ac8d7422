-- C's three numbers, made a point: a call on the point is the call on them. Assumes nothing.
use mathlib.Core.Path.{◌≡◌, ap, ◌∙◌}
use lib.IntN.{ℤ}
use mir.Syntax.{w64}
use mir.Val.{SFits, to_z, of_z}
use Rattle.kinds.proofs.Calls.{came}
use Rattle.datum.specs.declared.Point.{Point}

module _ {code latitude longitude : ℤ} (c : SFits w64 code) (b : SFits w64 latitude) (l : SFits w64 longitude) where
  pub pointed : {p : Point} → p ≡ record { code = to_z w64 (of_z w64 code); latitude = to_z w64 (of_z w64 latitude); longitude = to_z w64 (of_z w64 longitude) }
      → {A : Type 0} (call : ℤ → ℤ → ℤ → A) → call p.code p.latitude p.longitude ≡ call code latitude longitude
  pointed e call = ap (λ (q : Point). call q.code q.latitude q.longitude) e ∙ came c b l call
