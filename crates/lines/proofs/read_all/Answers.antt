-- What a turn read follows what was read before it; the last turn leaves nothing to be taken, or read nothing.
use Rattle.std.proofs.Common.{arith, ◌≡◌, ◌⊎◌, [], ◌++◌, take, min, sym, subst, inl, inr}
use Rattle.std.specs.Io.KnownBytes.{IsAtEnd}
use Rattle.std.proofs.KnownBytes.{Consumes-nil, Consumes-trans}
use Rattle.stream.specs.Stream.{started}
use Rattle.stream.specs.declared.Reading.{Reading}
use Rattle.lines.specs.Answered.{Answered}
use Rattle.lines.proofs.Pieces.{none, none_written, more, more_written, few, none_of, whole, lines_written}
use Rattle.lines.proofs.read_all.Goals as goal

pub loop-turn-init : goal.loop-turn-init
loop-turn-init g c = record {
  more = rw c.start-reading.ensures (omega arith);
  taken = [];
  answered = subst (λ (r : Reading). Answered (started c.args.form) [] r 0) (sym c.start-reading.ensures) (none _);
  consumed = Consumes-nil _;
  written = none_written _ _ _;
}

pub overflow_add-handed : goal.overflow_add-handed
overflow_add-handed g c = let a = more c.loop-turn.invariant.answered c.in_ok-turn.ensures.answered.1 in omega (arith, few a, a.left)

pub overflow_add-result : goal.overflow_add-result
overflow_add-result g c =
    let a = more c.loop-turn.invariant.answered c.in_ok-turn.ensures.answered.1 in
    omega (arith, few a, a.left, c.in_ok-last.ensures.in_bounds)

pub returns-then-min-eq0-clause-ended : goal.returns-then-min-eq0-clause-ended
returns-then-min-eq0-clause-ended g c =
    let i = c.loop-turn.invariant in
    let a = more i.answered c.in_ok-turn.ensures.answered.1 in
    record {
      input = i.taken ++ take c.in_ok-turn.turn.count c.read.new.input;
      long = omega (arith, a.left);
      ends = λ h. omega (arith, h, c.if-min-eq0.true, c.min.ensures, c.left.ensures);
      all = whole _ _ a c.in_ok-last.ensures.value;
    }

pub returns-then-min-eq0-clause-written : goal.returns-then-min-eq0-clause-written
returns-then-min-eq0-clause-written g c =
    let i = c.loop-turn.invariant in
    let t = c.in_ok-turn.ensures in
    let a = more i.answered t.answered.1 in
    let reads = Consumes-trans _ _ _ _ _ i.consumed t.consumed in
    let none : min c.in_ok-turn.turn.count c.in_ok-turn.turn.reading.left ≡ 0 = omega (arith, c.if-min-eq0.true, c.min.ensures, c.left.ensures) in
    let ended : (c.in_ok-turn.turn.reading.left ≡ 0) ⊎ IsAtEnd (g.R.Read.remaining c.read.new.reader) = elim (none_of _ _ none) [ inl e ↦ inl e | inr e ↦ inr (t.end e) ] in
    lines_written c.args.form _ a _ _ reads ended _ _ _ (more_written i.answered _ _ _ _ i.written t.written) c.in_ok-last.ensures.written

pub loop-turn-preserved : goal.loop-turn-preserved
loop-turn-preserved g c =
    let i = c.loop-turn.invariant in
    let t = c.in_ok-turn.ensures in
    record {
      more = omega arith;
      taken = i.taken ++ take c.in_ok-turn.turn.count c.read.new.input;
      answered = more i.answered t.answered.1;
      consumed = Consumes-trans _ _ _ _ _ i.consumed t.consumed;
      written = more_written i.answered _ _ _ _ i.written t.written;
    }
