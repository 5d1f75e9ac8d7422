-- Document 01, 'The working rule', last paragraph: the exact value of an equation. Nothing is rounded.
use Rattle.std.specs.Prelude.{List, [], ◌∷◌, ℕ, zero, suc, ◌*◌, ◌<◌, ◌≤◌, ℤ, pos, nat_abs, ◌+ℤ◌, ◌-ℤ◌, ◌*ℤ◌}
use Rattle.equation.specs.Equation.{Term, term}

-- ---- a fraction of two whole numbers
pub record Fraction : Type 0 where
  pub top : ℤ
  pub bottom : ℕ

infix 90 ◌over◌
abbrev pub ◌over◌ : ℤ → ℕ → Fraction
a over b = record { top = a; bottom = b }

abbrev pub whole : ℤ → Fraction
whole n = n over 1

infixl 60 ◌plus◌
abbrev pub ◌plus◌ : Fraction → Fraction → Fraction
x plus y = (x.top *ℤ pos y.bottom +ℤ y.top *ℤ pos x.bottom) over (x.bottom * y.bottom)

infixl 70 ◌times◌
abbrev pub ◌times◌ : Fraction → Fraction → Fraction
x times y = (x.top *ℤ y.top) over (x.bottom * y.bottom)

-- a zeroth power is 1
infix 80 ◌to_the◌
unfoldable pub ◌to_the◌ : Fraction → ℕ → Fraction
x to_the zero = whole (pos 1)
x to_the (suc n) = x to_the n times x

-- ---- each term is its whole coefficient times its powers of exact U and V; the value is the sum of the terms
unfoldable pub exact_of : List Term → Fraction → Fraction → Fraction
exact_of [] exact_u exact_v = whole (pos 0)
exact_of (term c i j ∷ ts) exact_u exact_v = whole c times (exact_u to_the i times exact_v to_the j) plus exact_of ts exact_u exact_v

-- ---- a whole number is within h / n of a fraction, whose bottom is above zero
pub record Within (h n : ℕ) (f : Fraction) (x : ℤ) : Type 0 where
  pub proper : 0 < f.bottom
  pub near : n * nat_abs (x *ℤ pos f.bottom -ℤ f.top) ≤ h * f.bottom

-- and it is farther than that
pub record Beyond (h n : ℕ) (f : Fraction) (x : ℤ) : Type 0 where
  pub proper : 0 < f.bottom
  pub far : h * f.bottom < n * nat_abs (x *ℤ pos f.bottom -ℤ f.top)

-- ---- two fractions are within h / n of each other, and their bottoms are above zero
pub record NearTo (h n : ℕ) (f g : Fraction) : Type 0 where
  pub proper : (0 < f.bottom) × (0 < g.bottom)
  pub near : n * nat_abs (f.top *ℤ pos g.bottom -ℤ g.top *ℤ pos f.bottom) ≤ h * (f.bottom * g.bottom)
