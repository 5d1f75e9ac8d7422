-- Document 01, 'Points to hold against the page': the twelve, as one table. Stated over the crates' specs/ alone.
-- Assumes nothing.
use mathlib.Core.Path.{◌≡◌, refl}
use mathlib.Core.List.{[], ◌∷◌}
use lib.IntN.{pos, neg_ℤ, ◌+ℤ◌, ◌-ℤ◌}
use Rattle.whole.specs.Round.{round_div, scale}
use Rattle.kinds.specs.Answer.{gives, refused}
use Rattle.position.specs.Text.{latitude, read}
use Rattle.position.proofs.Demands as position
use Rattle.equation.specs.Powers.{power, powers_of}
use Rattle.equation.specs.Equation.{sum}
use Rattle.tables.specs.Page.{at, shift, geoid}
use Rattle.tables.specs.Cyprus.{cyprus}
use Rattle.tables.specs.Rule.{along}
use Rattle.datum.specs.Point.{answer_of}

pub record Twelve : Type 0 where
  -- the centres of codes 1 to 6
  pub code_1 : answer_of (pos 1) (at 35 0) (at 33 0) ≡ gives (shift (neg_ℤ (pos 384288)) (neg_ℤ (pos 110294)) (pos 24430))
  pub code_2 : answer_of (pos 2) (at 10 0) (at 8 0) ≡ gives (shift (pos 49461) (neg_ℤ (pos 262435)) (pos 20013))
  pub code_3 : answer_of (pos 3) (at 62 0) (at 208 0) ≡ gives (shift (neg_ℤ (pos 208611)) (neg_ℤ (pos 819369)) (pos 8352))
  pub code_4 : answer_of (pos 4) (at 25 0) (at 51 0) ≡ gives (shift (pos 247363) (neg_ℤ (pos 280439)) (neg_ℤ (pos 28376)))
  pub code_5 : answer_of (pos 5) (at 7 0) (at 80 0) ≡ gives (geoid (neg_ℤ (pos 979)))
  pub code_6 : answer_of (pos 6) (at 23 0) (at 57 0) ≡ gives (geoid (pos 7464))
  -- for code 1, u of a latitude that is 1,800,000 ms, 1 ms and -1 ms from the centre's
  pub half_a_degree : along cyprus.u (at 35 0 +ℤ pos 1800000) ≡ pos 39269908
  pub one_ms : along cyprus.u (at 35 0 +ℤ pos 1) ≡ pos 22
  pub minus_one_ms : along cyprus.u (at 35 0 -ℤ pos 1) ≡ neg_ℤ (pos 22)
  -- and the square of the first
  pub square : power scale (pos 39269908) 2 ≡ pos 15421257
  -- 900000.000N
  pub pole : read latitude (57 ∷ 48 ∷ 48 ∷ 48 ∷ 48 ∷ 48 ∷ 46 ∷ 48 ∷ 48 ∷ 48 ∷ 78 ∷ []) ≡ gives (pos 324000000)
  -- 000000.000S
  pub zero_south : read latitude (48 ∷ 48 ∷ 48 ∷ 48 ∷ 48 ∷ 48 ∷ 46 ∷ 48 ∷ 48 ∷ 48 ∷ 83 ∷ []) ≡ refused 3

pub twelve : Twelve
unfolding round_div power powers_of sum
twelve = record {
  code_1 = refl;
  code_2 = refl;
  code_3 = refl;
  code_4 = refl;
  code_5 = refl;
  code_6 = refl;
  half_a_degree = refl;
  one_ms = refl;
  minus_one_ms = refl;
  square = refl;
  pole = (position.examples).pole;
  zero_south = (position.examples).zero_south;
}
