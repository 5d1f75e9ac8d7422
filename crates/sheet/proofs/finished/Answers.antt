use Rattle.std.proofs.Common.{arith}
use Rattle.layout.proofs.Reading.{laid}
use Rattle.sheet.proofs.Calls.{unlisted, no_room, all_written}
use Rattle.sheet.proofs.finished.Goals as goal

pub returns-then-not-all : goal.returns-then-not-all
returns-then-not-all c =
    let t = unlisted _ (laid _ _ c.requires) c.as_chunks.ensures.front c.listed.ensures c.all_listed-all.ensures _ c.if-not-all.true in
    record { result_value = t.0; res_after = t.1 }

pub returns-then-res-bytes : goal.returns-then-res-bytes
returns-then-res-bytes c =
    let t = no_room _ (laid _ _ c.requires) c.as_chunks.ensures.front c.listed.ensures c.all_listed-all.ensures _ c.if-not-all.false c.if-res-bytes.true in
    record { result_value = t.0; res_after = t.1 }

pub returns : goal.returns
returns c =
    let t = all_written _ (laid _ _ c.requires) c.as_chunks.ensures.front c.listed.ensures c.all_listed-all.ensures _ c.if-not-all.false (λ i. omega (arith, c.type_inv.sheet i)) c.if-res-bytes.false c.put.ensures in
    record { result_value = t.0; res_after = t.1 }
