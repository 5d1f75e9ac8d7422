use Rattle.std.proofs.Common.{◌≡◌, length, rules}
use Rattle.stream.proofs.Feeding.{closed}
use Rattle.stream.proofs.finish.Goals as goal

pub returns : goal.returns
returns c =
    let long : length c.args.reading.begun.bytes ≡ 27 = search rules in
    let f = c.feed-fed.ensures in
    let w =
    closed c.args.reading c.args.out.now _ _ long c.min-left.ensures
    (f.taken_value, (f.reading_value, (f.put_value, (f.out_after, f.put_in_bounds)))) in
    record { taken_value = w.0; reading_value = w.1.0; put_value = w.1.1.0; out_after = w.1.1.1.0; put_in_bounds = w.1.1.1.1 }
