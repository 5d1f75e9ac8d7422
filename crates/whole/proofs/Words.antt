-- Signed words. A signed local is bits: `Holds w a x` says that the bits a of a signed integer of width w stand for the
-- number x, which the width holds. One law for each arity serves every operation at every width, so that a derivation
-- goes up the code, an operation a step, and no goal is rewritten: begin with `of` and `lit`, go on with `gives`, answer
-- an operation's need with `asks`, and end with `.reads`. Assumes nothing.
use Rattle.std.proofs.lemmas.Int.{fits_signed_from_abs}
use mathlib.Core.Path.{◌≡◌, sym, ap, ◌∙◌, subst}
use mathlib.Core.Bool.{Bool}
use Prim.Native.Nat.{ℕ, ◌<◌, ◌≤◌, ◌^◌}
use lib.Dec.{T, ltb, ltb→lt}
use lib.IntN.{ℤ, pos, nat_abs}
use lib.Signed.{nat_abs-le, non_neg}
use lib.Pow.{pow_pos}
use mir.Syntax.{Width, w32, w64}
use mir.Val.{bits, hbits, Fits, SFits, to_z, of_z}
use mir.Facts.{to_z-of_z, to_z_pos, sfits_widen}

pub record Holds (w : Width) (a : ℕ) (x : ℤ) : Type 0 where
  pub reads : to_z w a ≡ x
  pub holds : SFits w x

-- ---- where a word comes from
-- a parameter, a field, an element or a call's result
pub of : {w : Width} {x : ℤ} → SFits w x → Holds w (of_z w x) x
of f = record { reads = to_z-of_z f; holds = f }

-- an unsigned word made a signed one keeps its bits
pub from_unsigned : {w : Width} {n : ℕ} → n < 2 ^ hbits w → Holds w n (pos n)
from_unsigned {w} h = record { reads = to_z_pos w h; holds = record { sfits = h } }

-- a literal that is not negative: `lit 2 tt`
pub lit : {w : Width} (n : ℕ) → T (ltb n (2 ^ hbits w)) → Holds w n (pos n)
lit {w} n t = from_unsigned (ltb→lt n (2 ^ hbits w) t)

pub zero_is : {w : Width} → Holds w 0 (pos 0)
zero_is {w} = from_unsigned (pow_pos (hbits w))

-- the same bits, by another name for the number
pub to : {w : Width} {a : ℕ} {x y : ℤ} → x ≡ y → Holds w a x → Holds w a y
to {w} e p = record { reads = p.reads ∙ e; holds = subst (SFits w) e p.holds }

-- ---- operations on two words
-- the bits that an operation writes
abbrev pub wr : Width → (ℤ → ℤ → ℤ) → ℕ → ℕ → ℕ
wr w op a b = of_z w (op (to_z w a) (to_z w b))

module _ (op : ℤ → ℤ → ℤ) {w : Width} {a b : ℕ} {x y : ℤ} (p : Holds w a x) (q : Holds w b y) where
  same : op (to_z w a) (to_z w b) ≡ op x y
  same = λ i. op (p.reads i) (q.reads i)

  pub asks : SFits w (op x y) → SFits w (op (to_z w a) (to_z w b))
  asks f = subst (SFits w) (sym same) f

  pub gives : SFits w (op x y) → Holds w (wr w op a b) (op x y)
  gives f = record { reads = to_z-of_z (asks f) ∙ same; holds = f }

-- a test of two words, as one of their numbers
pub tested : (op : ℤ → ℤ → Bool) {w : Width} {a b : ℕ} {x y : ℤ} {t : Bool} → Holds w a x → Holds w b y → op (to_z w a) (to_z w b) ≡ t → op x y ≡ t
tested op p q e = sym (λ i. op (p.reads i) (q.reads i)) ∙ e

-- ---- casts between widths
pub cast : {w : Width} (v : Width) {a : ℕ} {x : ℤ} → Holds w a x → SFits v x → Holds v (of_z v (to_z w a)) x
cast v p f = to p.reads (of (subst (SFits v) (sym p.reads) f))

-- a 4-byte number as an i64
pub widened : {x : ℤ} → SFits w32 x → Holds w64 (of_z w64 (to_z w32 (of_z w32 x))) x
widened f = cast w64 (of f) (sfits_widen tt f)

-- a signed word made an unsigned one is its size
pub to_unsigned : {w : Width} {a n : ℕ} → Holds w a (pos n) → nat_abs (to_z w a) ≡ n
to_unsigned p = ap nat_abs p.reads

pub to_unsigned_asks : {w : Width} (v : Width) {a n : ℕ} → Holds w a (pos n) → n < 2 ^ bits v → T (non_neg (to_z w a)) × Fits v (nat_abs (to_z w a))
to_unsigned_asks v p h = subst (λ (z : ℤ). T (non_neg z) × Fits v (nat_abs z)) (sym p.reads) (tt, record { fits = h })

-- ---- a range, as a bound on the size in ℕ
pub small : {w : Width} (z : ℤ) → nat_abs z < 2 ^ hbits w → SFits w z
small {w} = fits_signed_from_abs w

pub sized : {w : Width} (z : ℤ) → SFits w z → nat_abs z ≤ 2 ^ hbits w
sized z f = nat_abs-le z f.sfits
