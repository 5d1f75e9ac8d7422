-- A number that was tested: the width that holds it. Assumes nothing.
use mathlib.Core.Path.{◌≡◌, refl}
use mathlib.Core.Bool.{true}
use Prim.Native.Nat.{ℕ, ◌<◌, ◌^◌}
use native.Mathlib.Omega.{arith}
use lib.Dec.{lit<}
use lib.IntN.{ℤ, pos, negsuc}
use lib.Signed.{le_z, mag}
use borrow.Author.Tests.{leb-true, le-leb}
use mir.Syntax.{Width, w32}
use mir.Val.{SFits, hbits}
use Rattle.whole.proofs.Bools.{both, joined}
use Rattle.kinds.specs.Kinds.{within, is_four_bytes}

-- what lies between two numbers that a width holds, it holds
between : {w : Width} (least largest x : ℤ) → SFits w least → SFits w largest → within least largest x ≡ true → SFits w x
between {w} least largest x f g t = record { sfits = go least largest x f.sfits g.sfits (both (le_z least x) (le_z x largest) t).0 (both (le_z least x) (le_z x largest) t).1 }
  where
    go : (a b x : ℤ) → mag a < 2 ^ hbits w → mag b < 2 ^ hbits w → le_z a x ≡ true → le_z x b ≡ true → mag x < 2 ^ hbits w
    go a (pos b) (pos n) f g l h = omega (arith, leb-true n b h)
    go a (negsuc b) (pos n) f g l h = absurd (let z : ◌≡◌ {A = ℕ} 0 1 = cc in omega arith)
    go (pos a) b (negsuc n) f g l h = absurd (let z : ◌≡◌ {A = ℕ} 0 1 = cc in omega arith)
    go (negsuc a) b (negsuc n) f g l h = omega (arith, leb-true n a l)

-- 4 bytes hold what is in their range, and nothing else
pub of_four_bytes : (x : ℤ) → is_four_bytes x ≡ true → SFits w32 x
of_four_bytes x t = between (negsuc 2147483647) (pos 2147483647) x (record { sfits = lit< tt }) (record { sfits = lit< tt }) t

pub in_four_bytes : (x : ℤ) → SFits w32 x → is_four_bytes x ≡ true
in_four_bytes (pos n) f = le-leb n 2147483647 (omega (arith, f.sfits))
in_four_bytes (negsuc n) f = joined (le-leb n 2147483647 (omega (arith, f.sfits))) refl
