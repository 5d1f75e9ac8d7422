-- A size, and the sign that is put on it.
use Rattle.std.specs.Prelude.{Bool, cond, ℤ, neg_ℤ}

-- -x where the sign is below zero
abbrev pub with_sign : Bool → ℤ → ℤ
with_sign below x = cond below (neg_ℤ x) x
