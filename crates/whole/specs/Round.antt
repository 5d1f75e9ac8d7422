-- Document 01, 'The working rule': all roundings go to the nearest whole number, halves away from zero.
use Rattle.std.specs.Prelude.{ℕ, suc, ◌+◌, ◌*◌, ◌/◌, ℤ, pos, negsuc, neg_ℤ}

-- n / d of two naturals, a half going up: the whole part of n / d + 1 / 2
abbrev pub round_half_up : ℕ → ℕ → ℕ
round_half_up n d = (2 * n + d) / (2 * d)

-- n / d, by its size: 5 / 2 gives 3, and -5 / 2 gives -3
unfoldable pub round_div : ℤ → ℕ → ℤ
round_div (pos n) d = pos (round_half_up n d)
round_div (negsuc n) d = neg_ℤ (pos (round_half_up (suc n) d))

-- what 1 is in hundred-millionths
abbrev pub scale : ℕ
scale = 100000000
