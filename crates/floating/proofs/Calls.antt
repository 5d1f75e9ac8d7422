-- The floats of the code's constants, and what dividing by such a constant gives. Assumes nothing.
use mathlib.Core.Path.{◌≡◌, refl, ◌∙◌}
use Prim.Native.Nat.{ℕ}
use lib.IntN.{ℤ, pos}
use lib.Ieee.{Float, binary64, div, of_bits, of_int, round}
use mir.Syntax.{w32}
use mir.Val.{SFits, to_z, of_z}
use Rattle.whole.proofs.Words.{of}
use Rattle.floating.specs.Floats.{◌divided_by◌, per_second, per_metre, float_zero}

-- units in a second, mm in a metre, and 0
pub per_second_lem : of_bits binary64 0x40F8_6A00_0000_0000 ≡ of_int binary64 (pos per_second)
unfolding of_bits of_int round
per_second_lem = refl

pub per_metre_lem : of_bits binary64 0x408F_4000_0000_0000 ≡ of_int binary64 (pos per_metre)
unfolding of_bits of_int round
per_metre_lem = refl

pub no_value : of_bits binary64 0 ≡ float_zero
unfolding of_bits of_int round
no_value = refl

-- a result of 4 bytes, divided by a constant
pub once_divided : (units : ℕ) {constant : Float} (n m : ℤ) → constant ≡ of_int binary64 (pos units) → SFits w32 n → n ≡ m
    → div binary64 (of_int binary64 (to_z w32 (of_z w32 n))) constant ≡ m divided_by units
once_divided units n m e fits same = λ i. div binary64 (of_int binary64 (((of fits).reads ∙ same) i)) (e i)
