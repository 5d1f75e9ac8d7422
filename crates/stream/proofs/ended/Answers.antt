use Rattle.std.proofs.Common.{sym}
use lib.Seq.{length-take-le}
use Rattle.stream.proofs.Keeping.{kept_within}
use Rattle.stream.proofs.Printing.{printed_kept, room_alike, put_alike}
use Rattle.stream.proofs.ended.Goals as goal

pub slice_bounds-bytes-end : goal.slice_bounds-bytes-end
slice_bounds-bytes-end c = kept_within _ _ c.extended-whole.ensures

pub slice_bounds-printed-end : goal.slice_bounds-printed-end
slice_bounds-printed-end c = sym (length-take-le _ _ (kept_within _ _ c.extended-whole.ensures))

pub printed-requires-2 : goal.printed-requires-2
printed-requires-2 c = room_alike (sym (printed_kept _ _ _ c.extended-whole.ensures)) c.requires

pub returns : goal.returns
returns c =
    let w = put_alike (printed_kept _ _ _ c.extended-whole.ensures) _ _ _ (c.printed-2.ensures.value, c.printed-2.ensures.out_after) in
    record { value = w.0; out_after = w.1 }
