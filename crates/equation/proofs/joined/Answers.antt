use Rattle.std.proofs.Common.{◌≡◌, refl, ap, ◌∙◌, rules, arith, ◌+◌, ◌<◌, pos, nat_abs, get_or, Bool, true, false, not, cond, ℤ, ◌+ℤ◌}
use mathlib.Core.Bool.{beq}
use mir.Syntax.{w64}
use mir.Val.{SFits, of_z, to_z}
use Rattle.whole.specs.Sign.{with_sign}
use Rattle.whole.proofs.Sizes.{abs-+}
use Rattle.whole.proofs.Signs.{with_size}
use Rattle.whole.proofs.Words.{Holds, of, to, wr, asks, gives, small}
use Rattle.equation.proofs.joined.Goals as goal

-- four sums, with their signs, and what is summed of them on the way
module _ (u v : Bool) (a b d e : ℤ) (h : nat_abs a + nat_abs b + nat_abs d + nat_abs e < 9223372036854775808) where
  abbrev q : ℤ
  q = with_sign v b

  abbrev r : ℤ
  r = with_sign u d

  abbrev t : ℤ
  t = with_sign (cond u (not v) v) e

  two_fit : SFits w64 (a +ℤ q)
  two_fit = small (a +ℤ q) (omega (arith, abs-+ a q, with_size v b))

  three_fit : SFits w64 (a +ℤ q +ℤ r)
  three_fit = small (a +ℤ q +ℤ r) (omega (arith, abs-+ (a +ℤ q) r, abs-+ a q, with_size v b, with_size u d))

  all_fit : SFits w64 (a +ℤ q +ℤ r +ℤ t)
  all_fit =
      small (a +ℤ q +ℤ r +ℤ t)
      (omega (
        arith,
        abs-+ (a +ℤ q +ℤ r) t,
        abs-+ (a +ℤ q) r,
        abs-+ a q,
        with_size v b,
        with_size u d,
        with_size (cond u (not v) v) e,
      ))

-- what a call of `with_sign` answers, as a word
signed_is : (s : Bool) (x : ℤ) {y : ℤ} → SFits w64 x → SFits w64 y → y ≡ with_sign s (to_z w64 (of_z w64 x)) → Holds w64 (of_z w64 y) (with_sign s x)
signed_is s x f g e = to (e ∙ ap (with_sign s) (of {w = w64} {x = x} f).reads) (of g)

-- the words that are summed
module _ (u v : Bool) (a b d : ℤ) {x y : ℤ} (fa : SFits w64 a) (fb : SFits w64 b) (fd : SFits w64 d) (fx : SFits w64 x) (fy : SFits w64 y) (is_x : x ≡ with_sign v (to_z w64 (of_z w64 b))) (is_y : y ≡ with_sign u (to_z w64 (of_z w64 d))) where
  two_is : SFits w64 (a +ℤ with_sign v b) → Holds w64 (wr w64 ◌+ℤ◌ (of_z w64 a) (of_z w64 x)) (a +ℤ with_sign v b)
  two_is f = gives ◌+ℤ◌ (of fa) (signed_is v b fb fx is_x) f

  three_asks : SFits w64 (a +ℤ with_sign v b) → SFits w64 (a +ℤ with_sign v b +ℤ with_sign u d) → SFits w64 (to_z w64 (wr w64 ◌+ℤ◌ (of_z w64 a) (of_z w64 x)) +ℤ to_z w64 (of_z w64 y))
  three_asks f g = asks ◌+ℤ◌ (two_is f) (signed_is u d fd fy is_y) g

  three_is : SFits w64 (a +ℤ with_sign v b) → SFits w64 (a +ℤ with_sign v b +ℤ with_sign u d) → Holds w64 (wr w64 ◌+ℤ◌ (wr w64 ◌+ℤ◌ (of_z w64 a) (of_z w64 x)) (of_z w64 y)) (a +ℤ with_sign v b +ℤ with_sign u d)
  three_is f g = gives ◌+ℤ◌ (two_is f) (signed_is u d fd fy is_y) g

-- whether u and v differ
differ : (u v : Bool) → not (beq u v) ≡ cond u (not v) v
differ true true = refl
differ true false = refl
differ false true = refl
differ false false = refl

pub overflow_add-result-2 : goal.overflow_add-result-2
overflow_add-result-2 c =
    let a = get_or c.args.sums 0 (pos 0) in
    let b = get_or c.args.sums 1 (pos 0) in
    let d = get_or c.args.sums 2 (pos 0) in
    let e = get_or c.args.sums 3 (pos 0) in
    let fa : SFits w64 a = search rules in
    let fb : SFits w64 b = search rules in
    let fd : SFits w64 d = search rules in
    three_asks c.args.u c.args.v a b d fa fb fd (record { sfits = c.with_sign.type_inv }) (record { sfits = c.with_sign-2.type_inv }) c.with_sign.ensures c.with_sign-2.ensures
    (two_fit c.args.u c.args.v a b d e c.requires)
    (three_fit c.args.u c.args.v a b d e c.requires)

pub overflow_add-result-3 : goal.overflow_add-result-3
overflow_add-result-3 c =
    let a = get_or c.args.sums 0 (pos 0) in
    let b = get_or c.args.sums 1 (pos 0) in
    let d = get_or c.args.sums 2 (pos 0) in
    let e = get_or c.args.sums 3 (pos 0) in
    let fa : SFits w64 a = search rules in
    let fb : SFits w64 b = search rules in
    let fd : SFits w64 d = search rules in
    let fe : SFits w64 e = search rules in
    let three = three_is c.args.u c.args.v a b d fa fb fd (record { sfits = c.with_sign.type_inv }) (record { sfits = c.with_sign-2.type_inv }) c.with_sign.ensures c.with_sign-2.ensures
    (two_fit c.args.u c.args.v a b d e c.requires)
    (three_fit c.args.u c.args.v a b d e c.requires) in
    asks ◌+ℤ◌ three (signed_is (cond c.args.u (not c.args.v) c.args.v) e fe (record { sfits = c.with_sign-3.type_inv }) (c.with_sign-3.ensures ∙ ap (λ (s : Bool). with_sign s (to_z w64 (of_z w64 e))) (differ c.args.u c.args.v)))
    (all_fit c.args.u c.args.v a b d e c.requires)

pub returns : goal.returns
returns c =
    let a = get_or c.args.sums 0 (pos 0) in
    let b = get_or c.args.sums 1 (pos 0) in
    let d = get_or c.args.sums 2 (pos 0) in
    let e = get_or c.args.sums 3 (pos 0) in
    let fa : SFits w64 a = search rules in
    let fb : SFits w64 b = search rules in
    let fd : SFits w64 d = search rules in
    let fe : SFits w64 e = search rules in
    let three = three_is c.args.u c.args.v a b d fa fb fd (record { sfits = c.with_sign.type_inv }) (record { sfits = c.with_sign-2.type_inv }) c.with_sign.ensures c.with_sign-2.ensures
    (two_fit c.args.u c.args.v a b d e c.requires)
    (three_fit c.args.u c.args.v a b d e c.requires) in
    (gives ◌+ℤ◌ three (signed_is (cond c.args.u (not c.args.v) c.args.v) e fe (record { sfits = c.with_sign-3.type_inv }) (c.with_sign-3.ensures ∙ ap (λ (s : Bool). with_sign s (to_z w64 (of_z w64 e))) (differ c.args.u c.args.v)))
    (all_fit c.args.u c.args.v a b d e c.requires)).reads
