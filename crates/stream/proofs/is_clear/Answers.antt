use Rattle.std.proofs.Common.{rules, ◌≡◌, length, eqb-true}
use Rattle.stream.proofs.Finding.{word_clear}
use Rattle.stream.proofs.is_clear.Goals as goal

pub returns : goal.returns
returns c =
    let long : length c.args.bytes ≡ 8 = search rules in
    λ e. word_clear c.args.bytes long (search rules) c.from_le_bytes-word.ensures (eqb-true _ 0 e)
