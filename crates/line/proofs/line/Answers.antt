use Rattle.std.proofs.Common.{ℕ, List, length, ap, ◌∙◌}
use Rattle.kinds.specs.Answer.{Answer, counted, lent}
use Rattle.line.proofs.Calls.{numbers_are}
use Rattle.line.proofs.line.Goals as goal

pub returns : goal.returns
returns c =
    let out = c.args.out.now in
    let w = c.line_in.ensures in
    let e = numbers_are c.args.text.now (length out) in
    record { result_value = w.result_value ∙ ap counted e; out_after = w.out_after ∙ ap (λ (a : Answer (List ℕ)). lent a out) e }
