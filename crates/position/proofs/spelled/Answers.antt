use Rattle.std.proofs.Common.{◌≡◌, ℕ, ◌/◌, ◌%◌, div-one, arith}
use Rattle.whole.specs.Places.{in_places}
use Rattle.whole.specs.Digits.{digits}
use Rattle.position.specs.Text.{spelled}
use Rattle.position.proofs.spelled.Goals as goal

-- the last two digits, of the rest by 100
tens_of_rest : (n : ℕ) → n % 100 / 10 % 10 ≡ n / 10 % 10
tens_of_rest n = omega arith

ones_of_rest : (n : ℕ) → n % 100 % 10 ≡ n % 10
ones_of_rest n = omega arith

pub returns : goal.returns
unfolding spelled digits in_places
returns c =
    simp (
      c.last_digit.ensures,
      c.last_digit-2.ensures,
      c.last_digit-3.ensures,
      c.last_digit-4.ensures,
      c.last_digit-5.ensures,
      c.last_digit-6.ensures,
      c.last_digit-7.ensures,
      c.last_digit-8.ensures,
      c.last_digit-9.ensures,
      c.last_digit-10.ensures,
      tens_of_rest,
      ones_of_rest,
      div-one,
    )
