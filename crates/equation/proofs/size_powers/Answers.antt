use Rattle.std.proofs.Common.{◌≡◌, refl, sym, ap, ◌∙◌, rules, arith, ◌+◌, ◌-◌, ◌*◌, ◌<◌, ◌≤◌, ℕ, pos, nat_abs, length, take, set, List, [], ◌∷◌, ◌++◌, ℤ}
use native.Mathlib.Nat.{le_trans, mul-le-mul}
use native.Mathlib.Numerals.{add-one}
use lib.Dec.{leb, leb→le, lit<, lit≤}
use lib.ListN.{length-set}
use lib.Seq.{take-suc-set, take_all}
use mir.Syntax.{w64}
use mir.Val.{SFits, of_z, to_z}
use mir.Facts.{to_z-of_z}
use Rattle.whole.specs.Round.{round_half_up, scale}
use Rattle.whole.proofs.Below.{below}
use Rattle.whole.proofs.Words.{Holds, to, from_unsigned}
use Rattle.equation.specs.Powers.{power, powers_of}
use Rattle.equation.proofs.Steps.{limit, limit_next, limit_mono, power_pos}
use Rattle.equation.proofs.size_powers.Goals as goal

-- the size of u, as the code has it
size_is : {size : ℕ} (u : ℤ) → SFits w64 u → size ≡ nat_abs (to_z w64 (of_z w64 u)) → size ≡ nat_abs u
size_is u f e = e ∙ ap nat_abs {y = u} (to_z-of_z {w = w64} f)

-- how large the powers of a size can be
module _ (size : ℕ) (size_small : size ≤ 255000000) where
  small : (n : ℕ) → n < 10 → limit scale size n ≤ 1000000000000000000
  small n h =
      le_trans (limit_mono scale (lit< tt) size_small n)
      (leb→le (limit scale 255000000 n) 1000000000000000000
      (below 10 (λ n. leb (limit scale 255000000 n) 1000000000000000000) tt n h))

  -- what is divided for the next, up to the eighth
  divided : (n : ℕ) → n < 8 → limit scale size n * size ≤ 18446744073609551616
  divided n h =
      le_trans (mul-le-mul (limit_mono scale (lit< tt) size_small n) size_small)
      (leb→le (limit scale 255000000 n * 255000000) 18446744073609551616
      (below 8 (λ n. leb (limit scale 255000000 n * 255000000) 18446744073609551616) tt n h))

  as_signed : {n p : ℕ} → n < 10 → p ≡ limit scale size n → Holds w64 p (pos (limit scale size n))
  as_signed {n} h e = to (ap pos e) (from_unsigned (omega (arith, e, small n h)))

  -- and as a power of the size
  power_is : {n p : ℕ} → n < 10 → p ≡ limit scale size n → to_z w64 p ≡ power scale (pos size) n
  power_is {n} h e = (as_signed {n = n} h e).reads ∙ sym (power_pos scale size n)

-- the next power, of the one that is held
next : (size k : ℕ) {held : ℕ} → 2 ≤ k → held ≡ limit scale size (k - 1) → round_half_up (held * size) scale ≡ limit scale size k
next size k low last =
    let back : k - 1 + 1 ≡ k = omega (arith, low) in
    ap (λ (p : ℕ). round_half_up (p * size) scale) last
    ∙ sym (limit_next scale size (k - 1) (omega (arith, low)))
    ∙ ap (limit scale size) back

-- one power more, behind those that stand
one_more : (out : List ℤ) (size k : ℕ) {x : ℤ} → k < length out → take k out ≡ powers_of scale (pos size) k → x ≡ power scale (pos size) k → take (k + 1) (set out k x) ≡ powers_of scale (pos size) (k + 1)
unfolding powers_of
one_more out size k inside done is = rw (add-one k, take-suc-set, inside) (λ j. done j ++ (is j ∷ []))

pub loop-k-init : goal.loop-k-init
unfolding power powers_of
loop-k-init c =
    let f : SFits w64 c.args.u.0 = search rules in
    let s : c.unsigned_abs-size.result ≤ 255000000 = omega (arith, size_is c.args.u.0 f c.unsigned_abs-size.ensures.value) in
    record {
      last = refl;
      long = refl;
      done = (λ i. pos scale ∷ (as_signed c.unsigned_abs-size.result s {n = 1} (lit< tt) refl).reads i ∷ []);
    }

pub overflow_mul-power : goal.overflow_mul-power
overflow_mul-power c =
    let f : SFits w64 c.args.u.0 = search rules in
    let s : c.unsigned_abs-size.result ≤ 255000000 = omega (arith, size_is c.args.u.0 f c.unsigned_abs-size.ensures.value) in
    let p : c.loop-k.power * c.unsigned_abs-size.result ≤ 18446744073609551616 =
    rw c.loop-k.invariant.last (divided c.unsigned_abs-size.result s (c.loop-k.k - 1) (omega (arith, c.loop-k-test.true, c.loop-k.auto.k))) in
    record { fits = omega (arith, p) }

pub nearest-power-requires : goal.nearest-power-requires
nearest-power-requires c =
    let f : SFits w64 c.args.u.0 = search rules in
    let s : c.unsigned_abs-size.result ≤ 255000000 = omega (arith, size_is c.args.u.0 f c.unsigned_abs-size.ensures.value) in
    let p : c.loop-k.power * c.unsigned_abs-size.result ≤ 18446744073609551616 =
    rw c.loop-k.invariant.last (divided c.unsigned_abs-size.result s (c.loop-k.k - 1) (omega (arith, c.loop-k-test.true, c.loop-k.auto.k))) in
    (lit< tt, omega (arith, p))

pub overflow_cast-out-in-loop-k : goal.overflow_cast-out-in-loop-k
overflow_cast-out-in-loop-k c =
    let f : SFits w64 c.args.u.0 = search rules in
    let s : c.unsigned_abs-size.result ≤ 255000000 = omega (arith, size_is c.args.u.0 f c.unsigned_abs-size.ensures.value) in
    let is : c.nearest-power.result ≡ limit scale c.unsigned_abs-size.result c.loop-k.k =
    c.nearest-power.ensures ∙ next c.unsigned_abs-size.result c.loop-k.k c.loop-k.auto.k c.loop-k.invariant.last in
    record { sfits = omega (arith, is, small c.unsigned_abs-size.result s c.loop-k.k (omega (arith, c.loop-k-test.true))) }

pub loop-k-preserved : goal.loop-k-preserved
loop-k-preserved c =
    let f : SFits w64 c.args.u.0 = search rules in
    let size = c.unsigned_abs-size.result in
    let k = c.loop-k.k in
    let i = c.loop-k.invariant in
    let s : size ≤ 255000000 = omega (arith, size_is c.args.u.0 f c.unsigned_abs-size.ensures.value) in
    let is : c.nearest-power.result ≡ limit scale size k = c.nearest-power.ensures ∙ next size k c.loop-k.auto.k i.last in
    let one-back : k ≡ k + 1 - 1 = omega arith in
    let low_k : k < 10 = omega (arith, c.loop-k-test.true) in
    record {
      last = is ∙ ap (limit scale size) one-back;
      long = simp length-set i.long;
      done = one_more c.loop-k.out size k (omega (arith, i.long, low_k)) i.done (power_is size s {n = k} low_k is);
    }

-- after the loop
nine : {k : ℕ} → k ≤ 9 → 9 ≤ k → k ≡ 9
nine h l = omega arith

pub scaled-requires : goal.scaled-requires
scaled-requires c =
    let f : SFits w64 c.args.u.0 = search rules in
    let size = c.unsigned_abs-size.result in
    let s : size ≤ 255000000 = omega (arith, size_is c.args.u.0 f c.unsigned_abs-size.ensures.value) in
    let end : c.loop-k.k ≡ 9 = nine (c.loop-k.auto.k-end (lit≤ tt)) c.loop-k-test.false in
    let eighth : c.loop-k.power ≡ limit scale size 8 = c.loop-k.invariant.last ∙ ap (λ (n : ℕ). limit scale size (n - 1)) end in
    (omega (arith, eighth, small size s 8 (lit< tt)), omega (arith, s))

pub overflow_cast-out-2 : goal.overflow_cast-out-2
overflow_cast-out-2 c =
    let f : SFits w64 c.args.u.0 = search rules in
    let size = c.unsigned_abs-size.result in
    let s : size ≤ 255000000 = omega (arith, size_is c.args.u.0 f c.unsigned_abs-size.ensures.value) in
    let end : c.loop-k.k ≡ 9 = nine (c.loop-k.auto.k-end (lit≤ tt)) c.loop-k-test.false in
    let eighth : c.loop-k.power ≡ limit scale size 8 = c.loop-k.invariant.last ∙ ap (λ (n : ℕ). limit scale size (n - 1)) end in
    let ninth : c.scaled.result ≡ limit scale size 9 = c.scaled.ensures ∙ next size 9 (lit≤ tt) eighth in
    record { sfits = omega (arith, ninth, small size s 9 (lit< tt)) }

pub returns : goal.returns
returns c =
    let f : SFits w64 c.args.u.0 = search rules in
    let size = c.unsigned_abs-size.result in
    let e = c.loop-k.invariant in
    let out = c.loop-k.out in
    let s : size ≤ 255000000 = omega (arith, size_is c.args.u.0 f c.unsigned_abs-size.ensures.value) in
    let end : c.loop-k.k ≡ 9 = nine (c.loop-k.auto.k-end (lit≤ tt)) c.loop-k-test.false in
    let eighth : c.loop-k.power ≡ limit scale size 8 = e.last ∙ ap (λ (n : ℕ). limit scale size (n - 1)) end in
    let ninth : c.scaled.result ≡ limit scale size 9 = c.scaled.ensures ∙ next size 9 (lit≤ tt) eighth in
    sym (take_all 10 (set out 9 (to_z w64 c.scaled.result)) (simp length-set (omega (arith, e.long))))
    ∙ one_more out size 9 (omega (arith, e.long)) (ap (λ (n : ℕ). take n out) (sym end) ∙ e.done ∙ ap (powers_of scale (pos size)) end)
    (power_is size s {n = 9} (lit< tt) ninth)
    ∙ ap (λ (n : ℕ). powers_of scale (pos n) 10) (size_is c.args.u.0 f c.unsigned_abs-size.ensures.value)
