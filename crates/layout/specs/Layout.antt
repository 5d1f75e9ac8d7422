-- What the reading of a sheet answers: its two counts, or the first refusal before its points' codes are looked up.
use Rattle.std.specs.Prelude.{List, ℕ, ℤ, Result}
use Rattle.kinds.specs.Answer.{Answer, gives, in_order}
use Rattle.kinds.specs.Cases.{said}
use Rattle.kinds.specs.declared.Refusal.{Refusal}
use Rattle.layout.specs.Sheet.{datums, count, serial_tests, count_tests}
use Rattle.layout.specs.declared.Layout.{Layout}

abbrev pub layout_answer : Result Layout Refusal → Answer Layout
layout_answer = said

abbrev pub counts : List ℕ → Layout
counts bytes = record { datums = datums bytes; points = count bytes }

-- after the serial's tests
unfoldable pub laid_out : List ℕ → Answer Layout
laid_out bytes = in_order (count_tests bytes) (gives (counts bytes))

unfoldable pub read_of : ℤ → List ℕ → Answer Layout
read_of unit bytes = in_order (serial_tests unit bytes) (laid_out bytes)
