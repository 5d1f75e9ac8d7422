-- The bytes that end the input are those of a line feed.
use Rattle.std.proofs.Common.{◌≡◌, ℕ, List, [], ◌∷◌, length, arith, sym, subst, IfOk, OnOk}
use lib.Seq.{length-take-le}
use Rattle.std.specs.Io.KnownBytes.{Appends}
use Rattle.stream.specs.Stream.{held, answers}
use Rattle.lines.proofs.Pieces.{last_fed, last_put}
use Rattle.lines.proofs.end.Goals as goal

pub slice_bounds-line_feed-end : goal.slice_bounds-line_feed-end
slice_bounds-line_feed-end g c = (last_fed _ _ _ c.finish-fed.ensures.taken_value (omega arith)).0

pub slice_bounds-write-end : goal.slice_bounds-write-end
slice_bounds-write-end g c = sym (length-take-le _ (10 ∷ []) (last_fed _ _ _ c.finish-fed.ensures.taken_value (omega arith)).0)

pub write-requires : goal.write-requires
write-requires g c =
    let p = c.finish-fed.ensures in
    last_put c.args.reading.form (held c.args.reading.begun) _ _ p.taken_value (omega arith) _ _ _ p.put_value p.out_after

pub returns-clause-value : goal.returns-clause-value
returns-clause-value g c =
    let all = (last_fed _ _ _ c.finish-fed.ensures.taken_value (omega arith)).1 in
    subst (λ (l : List ℕ). IfOk c.write.result (λ (bytes : ℕ). bytes ≡ length (answers c.args.reading.form (held c.args.reading.begun) l))) all c.write.ensures.value

pub returns-clause-written : goal.returns-clause-written
returns-clause-written g c =
    let all = (last_fed _ _ _ c.finish-fed.ensures.taken_value (omega arith)).1 in
    subst (λ (l : List ℕ). OnOk c.write.result (Appends (g.W.Write.contents c.args.writer.now) (g.W.Write.contents c.write.new.writer) (answers c.args.reading.form (held c.args.reading.begun) l))) all c.write.ensures.written
