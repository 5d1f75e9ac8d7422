-- What was written for a part goes on from what was written before it.
use Rattle.std.proofs.Common.{arith, rules, ◌+◌, ◌≤◌, length, length-take}
use Rattle.lines.proofs.Pieces.{none, none_written, few, some_fed, none_past, onward, onward_written}
use Rattle.lines.proofs.answer.Goals as goal

pub loop-from-init : goal.loop-from-init
loop-from-init g c = record { within = omega arith; answered = none _; written = none_written _ _ _ }

pub overflow_add-to : goal.overflow_add-to
overflow_add-to g c =
    let i = c.loop-from.invariant in
    let past : c.loop-from.from + c.feed-fed.result.taken ≤ length c.args.piece.now = none_past c.args.piece.now c.loop-from.from i.answered _ _ c.feed-fed.ensures.taken_value i.within in
    omega arith

pub slice_bounds-write-end : goal.slice_bounds-write-end
slice_bounds-write-end g c =
    let i = c.loop-from.invariant in
    let past : c.loop-from.from + c.feed-fed.result.taken ≤ length c.args.piece.now = none_past c.args.piece.now c.loop-from.from i.answered _ _ c.feed-fed.ensures.taken_value i.within in
    search rules

pub overflow_add-handed : goal.overflow_add-handed
overflow_add-handed g c =
    let i = c.loop-from.invariant in
    let further = onward c.args.piece.now c.loop-from.from i.answered _ _ c.feed-fed.ensures.taken_value _ _ c.feed-fed.ensures.reading_value c.in_ok-handed.ensures.value in
    omega (arith, few further, length-take (c.loop-from.from + c.feed-fed.result.taken) c.args.piece.now)

pub loop-from-smaller : goal.loop-from-smaller
loop-from-smaller g c =
    let i = c.loop-from.invariant in
    omega (arith, some_fed c.args.piece.now c.loop-from.from i.answered _ _ c.feed-fed.ensures.taken_value c.loop-from-test.true c.requires.0 (omega arith))

pub loop-from-preserved : goal.loop-from-preserved
loop-from-preserved g c =
    let i = c.loop-from.invariant in
    let fed = c.feed-fed.ensures.taken_value in
    record {
      within = none_past c.args.piece.now c.loop-from.from i.answered _ _ fed i.within;
      answered = onward c.args.piece.now c.loop-from.from i.answered _ _ fed _ _ c.feed-fed.ensures.reading_value c.in_ok-handed.ensures.value;
      written = onward_written c.args.piece.now c.loop-from.from i.answered _ _ fed _ _ _ i.written c.in_ok-handed.ensures.written;
    }
