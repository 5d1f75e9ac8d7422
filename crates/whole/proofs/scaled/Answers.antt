use Rattle.std.proofs.Common.{◌≡◌, sym, ap, ◌∙◌, ℕ, ◌+◌, ◌-◌, ◌*◌, ◌/◌, ◌%◌, arith}
use lib.Dec.{lit<}
use Rattle.whole.specs.Round.{round_half_up, scale}
use Rattle.whole.proofs.Rounding.{half_up_split}
use Rattle.whole.proofs.scaled.Goals as goal

pub returns : goal.returns
returns c =
    let p = c.args.p in
    let u = c.args.u in
    let rest : p - p / scale * scale ≡ p % scale = omega arith in
    ap (λ (n : ℕ). p / scale * u + n) (c.nearest.ensures ∙ ap (λ (n : ℕ). round_half_up (n * u) scale) rest)
    ∙ sym (half_up_split p u (lit< tt))
