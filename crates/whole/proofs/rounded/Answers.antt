use Rattle.std.proofs.Common.{◌≡◌, sym, ap, ◌∙◌, ℕ, Bool, true, false, refl, ◌<◌, ◌+◌, ◌/◌, arith}
use native.Mathlib.Nat.{div-add-mod, mul-le-mul_right}
use lib.IntN.{ℤ, pos, nat_abs}
use lib.Signed.{lt_z}
use mir.Syntax.{w64}
use Rattle.whole.specs.Round.{round_half_up, round_div}
use Rattle.whole.specs.Sign.{with_sign}
use Rattle.whole.proofs.Rounding.{half_up_whole, round_below, round_from}
use Rattle.whole.proofs.Words.{of, to, from_unsigned, sized}
use Rattle.whole.proofs.rounded.Goals as goal

-- a rounding by its size and its sign
by_sign : (n : ℤ) (d : ℕ) → with_sign (lt_z n (pos 0)) (pos (round_half_up (nat_abs n) d)) ≡ round_div n d
by_sign n d = go (lt_z n (pos 0)) refl
  where
    go : (t : Bool) → lt_z n (pos 0) ≡ t → with_sign t (pos (round_half_up (nat_abs n) d)) ≡ round_div n d
    go true e = sym (round_below n d e)
    go false e = sym (round_from n d e)

pub returns : goal.returns
returns c =
    let n = c.args.n in
    let d = c.args.d in
    let is : c.nearest.result ≡ round_half_up (nat_abs n) d =
    c.nearest.ensures ∙ ap (λ (m : ℕ). round_half_up m d) (c.size.ensures ∙ ap nat_abs (of {w = w64} c.ranges.n).reads) in
    let below : c.nearest.result < 9223372036854775808 =
    omega (
      arith,
      half_up_whole (nat_abs n) {d = d} (omega (arith, c.requires.0)),
      sized {w = w64} _ c.ranges.n,
      div-add-mod (nat_abs n + d / 2) d,
      mul-le-mul_right ((nat_abs n + d / 2) / d) c.requires.0,
    ) in
    let q = to (ap pos is) (from_unsigned {w = w64} below) in
    (of {w = w64} (record { sfits = c.with_sign.type_inv })).reads
    ∙ c.with_sign.ensures
    ∙ (λ i. with_sign (lt_z ((of {w = w64} c.ranges.n).reads i) (pos 0)) (q.reads i))
    ∙ by_sign n d
