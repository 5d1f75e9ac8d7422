-- What was read into the rest of a buffer follows what was read before it.
use Rattle.std.proofs.Common.{◌≡◌, ℕ, ◌+◌, ◌≤◌, List, ◌++◌, length, take, drop, sym, ap, ◌∙◌, subst, le_refl, drop_at, length-take-le, Option}
use Rattle.std.proofs.Math.Seq.{take-add, take-append-le}
use Rattle.std.proofs.lemmas.Slice.{take-put_mid_below}
use Rattle.std.specs.Io.KnownBytes.{Consumes}
use Rattle.std.proofs.KnownBytes.{Consumes-trans}
use borrow.Rule.Slice.PartMut.{put_mid, post_of}

module _ (from room count : ℕ) (buffer read : List ℕ) (within : from ≤ length buffer) (fits : count ≤ length read) where
  joined : take from buffer ++ take count read ≡ take (from + count) (put_mid from room buffer read)
  joined =
      let after = post_of from room buffer in
      let front = take-put_mid_below from room buffer read from (le_refl from) within in
      let back = ap (take count) (drop_at (take from buffer) (read ++ after) from (length-take-le from buffer within)) ∙ take-append-le count read after fits in
      sym (take-add from count (put_mid from room buffer read) ∙ ap (λ l. l ++ take count (drop from (put_mid from room buffer read))) front ∙ ap (λ l. take from buffer ++ l) back)

  pub onward : (given before after : Option (List ℕ)) → Consumes given before (take from buffer) → Consumes before after (take count read)
      → Consumes given after (take (from + count) (put_mid from room buffer read))
  onward given before after one other = subst (Consumes given after) joined (Consumes-trans given before after _ _ one other)
