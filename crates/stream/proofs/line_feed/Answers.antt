use Rattle.std.proofs.Common.{◌∙◌, arith}
use Rattle.stream.proofs.Finding.{part_whole, told, found_near, found_far, none_far}
use Rattle.stream.proofs.line_feed.Goals as goal

pub returns-in-Some-find : goal.returns-in-Some-find
returns-in-Some-find c = found_near c.args.bytes.now c.in-Some.near.now c.in-Some.rest.now c.in-Some.ensures.cases.0 c.in-Some.ensures.cases.1 c.in-Some.ensures.cases.2 c.as_chunks.ensures.front c.as_chunks.ensures.front_len c.as_chunks.ensures.back (told _ c.if-not-are_clear.false c.are_clear.ensures) c.in-Some-find.ensures

pub returns-in_err-by_pieces : goal.returns-in_err-by_pieces
returns-in_err-by_pieces c = c.from_residual.ensures ∙ none_far c.args.bytes.now c.in-Some.near.now c.in-Some.rest.now c.in-Some.ensures.cases.0 c.in-Some.ensures.cases.1 c.in-Some.ensures.cases.2 c.as_chunks.ensures.front c.as_chunks.ensures.front_len c.as_chunks.ensures.back (told _ c.if-not-are_clear.false c.are_clear.ensures) c.in_default-find.ensures (grind (arith, part_whole, c.in_err-by_pieces.ensures))

pub returns : goal.returns
returns c = found_far c.args.bytes.now c.in-Some.near.now c.in-Some.rest.now c.in-Some.ensures.cases.0 c.in-Some.ensures.cases.1 c.in-Some.ensures.cases.2 c.as_chunks.ensures.front c.as_chunks.ensures.front_len c.as_chunks.ensures.back (told _ c.if-not-are_clear.false c.are_clear.ensures) c.in_default-find.ensures (grind (arith, part_whole, c.in_ok-by_pieces.ensures))
