use Rattle.std.proofs.Common.{ap, ◌∙◌, List, ℕ, arith}
use lib.IntN.{ℤ}
use Rattle.whole.proofs.Words.{of}
use Rattle.numbers.specs.Numbers.{in_bytes, complement}
use Rattle.sheet.proofs.Points.{record_room, record_is}
use Rattle.sheet.proofs.in_record.Goals as goal

abbrev bytes : ℤ → List ℕ
bytes x = in_bytes 4 (complement x)

pub slice_bounds-record-end-3 : goal.slice_bounds-record-end-3
slice_bounds-record-end-3 c =
    omega (
      arith,
      record_room c.args.refusal c.args.first c.args.second
          (c.copy_from_slice.ensures.after ∙ c.in_four_signed.ensures ∙ ap bytes (of c.ranges.first).reads)
          (c.copy_from_slice-2.ensures.after ∙ c.in_four_signed-2.ensures ∙ ap bytes (of c.ranges.second).reads),
    )

pub returns : goal.returns
returns c =
    record_is c.args.refusal c.args.first c.args.second c.args.third
    (c.copy_from_slice.ensures.after ∙ c.in_four_signed.ensures ∙ ap bytes (of c.ranges.first).reads)
    (c.copy_from_slice-2.ensures.after ∙ c.in_four_signed-2.ensures ∙ ap bytes (of c.ranges.second).reads)
    (c.copy_from_slice-3.ensures.after ∙ c.in_four_signed-3.ensures ∙ ap bytes (of c.ranges.third).reads)
