-- A range within a wider one. Assumes nothing.
use mathlib.Core.Path.{◌≡◌, refl}
use mathlib.Core.Bool.{true, false≢true}
use native.Mathlib.Omega.{arith}
use lib.IntN.{ℤ, pos, negsuc}
use lib.Signed.{le_z}
use borrow.Author.Tests.{leb-true, le-leb}
use Rattle.whole.proofs.Bools.{both, joined}
use Rattle.kinds.specs.Kinds.{within}

pub in_turn : (a b c : ℤ) → le_z a b ≡ true → le_z b c ≡ true → le_z a c ≡ true
in_turn (pos a) (pos b) (pos c) h k = le-leb a c (omega (arith, leb-true a b h, leb-true b c k))
in_turn (pos a) (pos b) (negsuc c) h k = absurd (false≢true k)
in_turn (pos a) (negsuc b) c h k = absurd (false≢true h)
in_turn (negsuc a) b (pos c) h k = refl
in_turn (negsuc a) (pos b) (negsuc c) h k = absurd (false≢true k)
in_turn (negsuc a) (negsuc b) (negsuc c) h k = le-leb c a (omega (arith, leb-true b a h, leb-true c b k))

pub wider : (a b c d x : ℤ) → le_z c a ≡ true → le_z b d ≡ true → within a b x ≡ true → within c d x ≡ true
wider a b c d x h k t =
    let p = both (le_z a x) (le_z x b) t in
    joined (in_turn c a x h p.0) (in_turn x b d p.1 k)
