use Rattle.std.proofs.Common.{◌≡◌, ◌+◌, ◌-◌, ap, ◌∙◌, ℕ, take, drop, arith}
use Rattle.numbers.proofs.Numbers.{unsigned_read, are_bytes_lem, part_below}
use Rattle.numbers.proofs.unsigned.Goals as goal

pub returns-clause-value : goal.returns-clause-value
returns-clause-value g c =
    let t = c.args.bytes.now in
    let long : c.args.at + g.row.N - c.args.at ≡ g.row.N = omega arith in
    let is = c.from_be_bytes.ensures ∙ unsigned_read c.args.at g.row.N t c.requires.0 c.requires.1 (c.copy_from_slice.ensures.after ∙ ap (λ (n : ℕ). take n (drop c.args.at t)) long) in
    omega (arith, is)

pub returns-clause-upper_bound : goal.returns-clause-upper_bound
returns-clause-upper_bound g c =
    rw (returns-clause-value g c)
    (part_below c.args.at g.row.N c.args.bytes.now c.requires.0 (are_bytes_lem c.args.bytes.now (λ i. (c.type_inv.bytes i).fits)))
