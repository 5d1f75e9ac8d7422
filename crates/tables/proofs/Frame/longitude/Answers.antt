use Rattle.std.proofs.Common.{◌≡◌, sym, ap, ◌∙◌, subst, rules, arith, ◌≤◌, pos, nat_abs, Bool, true, cond, ℤ, ◌-ℤ◌}
use lib.Signed.{le_z}
use mir.Syntax.{w32, w64}
use mir.Val.{SFits, of_z}
use Rattle.whole.proofs.Sizes.{abs--}
use Rattle.whole.proofs.Words.{Holds, wr, of, lit, gives, tested, small, sized}
use Rattle.tables.specs.Rule.{counted_from}
use Rattle.tables.proofs.Frame.longitude.Goals as goal

-- ms less a turn
module _ (ms : ℤ) (held : SFits w64 ms) (size : nat_abs ms ≤ 2147483648) where
  less_small : nat_abs (ms -ℤ pos 1296000000) ≤ 4294967296
  less_small = omega (arith, abs-- ms (pos 1296000000), size)

  less : Holds w64 (wr w64 ◌-ℤ◌ (of_z w64 ms) 1296000000) (ms -ℤ pos 1296000000)
  less = gives ◌-ℤ◌ (of held) (lit 1296000000 tt) (small (ms -ℤ pos 1296000000) (omega (arith, less_small)))

-- what is answered, of a west end and ms that are z: a number r that is no larger than it may be
answered : (west : ℤ) {r x z : ℤ} → r ≡ x -ℤ pos 1296000000 → nat_abs (x -ℤ pos 1296000000) ≤ 4294967296 → x ≡ z → le_z west (x -ℤ pos 1296000000) ≡ true
    → (r ≡ counted_from west z) × (nat_abs r ≤ 4294967296)
answered west {x = x} is small e h = (
  is ∙ ap (λ (t : Bool). cond t (x -ℤ pos 1296000000) x) (sym h) ∙ ap (counted_from west) e,
  subst (λ (y : ℤ). nat_abs y ≤ 4294967296) (sym is) small,
)

pub returns-then-self-turned : goal.returns-then-self-turned
returns-then-self-turned c =
    let west = c.args.self.west in
    let f : SFits w64 west = search rules in
    let narrow : SFits w32 c.ms.result = record { sfits = c.ms.type_inv } in
    let held : SFits w64 c.from-ms.result = record { sfits = c.from-ms.type_inv } in
    let is : c.from-ms.result ≡ c.ms.result = c.from-ms.ensures ∙ (of {w = w32} narrow).reads in
    let size : nat_abs c.from-ms.result ≤ 2147483648 = rw is (sized c.ms.result narrow) in
    answered west (less c.from-ms.result held size).reads (less_small c.from-ms.result held size) (is ∙ c.ms.ensures)
    (tested le_z (of {w = w64} {x = west} f) (less c.from-ms.result held size) c.if-self-turned.true)
