use Rattle.std.proofs.Common.{arith, sym, ◌∙◌, ◌≡◌, ◌%◌, length}
use Rattle.stream.proofs.Finding.{told, tells_all, tell_both, piece_clear, piece_long, found_in, one_more, found_behind, none_behind}
use Rattle.stream.proofs.by_pieces.Goals as goal
use Rattle.stream.proofs.by_pieces.Goals.{then-not-clear+in_default, else-not-clear}

pub returns-in-Some : goal.returns-in-Some
returns-in-Some g c =
    found_in c.args.bytes.now (omega arith) _ c.as_chunks.ensures.front_len c.loop-i.invariant c.as_chunks.ensures.front c.loop-i-test.true c.index-pieces-i.is
    (c.requires.finds _ _ c.in-Some.ensures)

pub loop-i-preserved : goal.loop-i-preserved
loop-i-preserved g c =
    let whole : length c.index-pieces-i.result % 8 ≡ 0 = omega (
      arith,
      piece_long c.args.bytes.now (omega arith) _ c.as_chunks.ensures.front_len c.loop-i.invariant c.as_chunks.ensures.front c.loop-i-test.true c.index-pieces-i.is,
    ) in
    one_more c.args.bytes.now (omega arith) _ c.as_chunks.ensures.front_len c.loop-i.invariant c.as_chunks.ensures.front c.loop-i-test.true c.index-pieces-i.is
    (elim c.if-not-clear.branch [ then-not-clear+in_default w ↦ c.requires.finds _ _ w.in_default.ensures | else-not-clear w ↦ sym (piece_clear _ whole c.as_chunks-in-loop-i.ensures.front (told _ w.if-not-clear.false (search (arith, tells_all, tell_both)))) ])

pub returns-in_err-find_in : goal.returns-in_err-find_in
returns-in_err-find_in g c =
    c.from_residual.ensures
    ∙ none_behind c.args.bytes.now (omega arith) _ c.as_chunks.ensures.front_len c.loop-i.invariant c.as_chunks.ensures.back c.loop-i.auto.i-end c.loop-i-test.false
    (c.requires.finds _ _ c.in_err-find_in.ensures)

pub returns : goal.returns
returns g c =
    found_behind c.args.bytes.now (omega arith) _ c.as_chunks.ensures.front_len c.loop-i.invariant c.as_chunks.ensures.back c.loop-i.auto.i-end c.loop-i-test.false
    (c.requires.finds _ _ c.in_ok-find_in.ensures)
