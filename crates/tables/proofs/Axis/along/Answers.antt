use Rattle.std.proofs.Common.{ap, ◌∙◌, rules, arith, ◌*◌, ◌≤◌, nat_abs, ℤ, ◌-ℤ◌, ◌*ℤ◌}
use mir.Syntax.{w64}
use mir.Val.{SFits, of_z, to_z}
use Rattle.whole.specs.Round.{round_div}
use Rattle.whole.proofs.Sizes.{abs--, abs-*-≤}
use Rattle.whole.proofs.Words.{Holds, wr, of, asks, gives, small}
use Rattle.tables.proofs.Axis.along.Goals as goal

-- the factor times the ms, and that less the offset, as words
module _ (factor ms offset : ℤ) (f : nat_abs factor ≤ 1000000000) (m : nat_abs ms ≤ 4294967296) (o : nat_abs offset ≤ 1000000000000000000) where
  product_small : nat_abs (factor *ℤ ms) ≤ 1000000000 * 4294967296
  product_small = abs-*-≤ factor ms f m

  product_fits : SFits w64 (factor *ℤ ms)
  product_fits = small (factor *ℤ ms) (omega (arith, product_small))

  less_fits : SFits w64 (factor *ℤ ms -ℤ offset)
  less_fits = small (factor *ℤ ms -ℤ offset) (omega (arith, abs-- (factor *ℤ ms) offset, product_small))

  module _ (h : SFits w64 factor) (k : SFits w64 ms) (l : SFits w64 offset) where
    product_is : Holds w64 (wr w64 ◌*ℤ◌ (of_z w64 factor) (of_z w64 ms)) (factor *ℤ ms)
    product_is = gives ◌*ℤ◌ (of h) (of k) product_fits

    less_asks : SFits w64 (to_z w64 (wr w64 ◌*ℤ◌ (of_z w64 factor) (of_z w64 ms)) -ℤ to_z w64 (of_z w64 offset))
    less_asks = asks ◌-ℤ◌ product_is (of l) less_fits

    divided : Holds w64 (wr w64 ◌-ℤ◌ (wr w64 ◌*ℤ◌ (of_z w64 factor) (of_z w64 ms)) (of_z w64 offset)) (factor *ℤ ms -ℤ offset)
    divided = gives ◌-ℤ◌ product_is (of l) less_fits

pub overflow_sub-self : goal.overflow_sub-self
overflow_sub-self c =
    let a = c.args.self in
    let factor : SFits w64 a.factor = search rules in
    let offset : SFits w64 a.offset = search rules in
    less_asks a.factor c.args.ms a.offset c.requires.0.factor c.requires.1 c.requires.0.offset factor c.ranges.ms offset

pub returns : goal.returns
returns c =
    let a = c.args.self in
    let factor : SFits w64 a.factor = search rules in
    let offset : SFits w64 a.offset = search rules in
    (of {w = w64} (record { sfits = c.rounded.type_inv })).reads
    ∙ c.rounded.ensures
    ∙ ap (λ (x : ℤ). round_div x 3600000) (divided a.factor c.args.ms a.offset c.requires.0.factor c.requires.1 c.requires.0.offset factor c.ranges.ms offset).reads
