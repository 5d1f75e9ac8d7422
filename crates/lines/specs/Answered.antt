-- What the promises of `lines` say of the bytes that stand in its buffer after a read: that they are answered, and how an input ends.
use Rattle.std.specs.Prelude.{◌≡◌, List, ℕ, ◌+◌, ◌<◌, length, take, Option, IfSome}
use Rattle.std.specs.Io.KnownBytes.{Appends}
use mathlib.Core.List.{flat_map}
use Rattle.stream.specs.Stream.{printed, begun_after, lines, limit, output, held, kept, answers}
use Rattle.line.specs.declared.Form.{Form}
use Rattle.stream.specs.declared.Reading.{Reading}
use Rattle.lines.specs.declared.Turn.{Turn}

-- bytes are answered, from one reading to another: the form stays, the line that is begun is the one after them, what may still be
-- taken is less by them, and as many bytes were handed over to be written as their answers have
pub record Answered (before : Reading) (bytes : List ℕ) (after : Reading) (handed : ℕ) : Type 0 where
  pub form : after.form ≡ before.form
  pub line : kept (held after.begun) ≡ kept (begun_after (held before.begun) bytes)
  pub left : after.left + length bytes ≡ before.left
  pub count : handed ≡ length (answers before.form (held before.begun) bytes)

-- an input is answered to its end, which is before the limit only where the last read gave no byte: as many bytes were handed over
-- as the output has of an input that is as long as what was taken. Which bytes it has, no contract can say of a descriptor
pub record Ended (form : Form) (last : Turn) (handed : ℕ) : Type 0 where
  pub input : List ℕ
  pub long : length input + last.reading.left ≡ limit
  pub ends : 0 < last.reading.left → last.count ≡ 0
  pub all : handed ≡ length (output form input)

-- ---- where the bytes of a reader and of a writer are known
-- what an output has between its head and its foot
abbrev pub answered_lines : Form → List ℕ → List ℕ
answered_lines form input = flat_map (printed form) (lines (take limit input))

-- of the bytes that a reader had, the lines are written to a writer that held the old ones
abbrev pub WritesLines : Form → Option (List ℕ) → Option (List ℕ) → Option (List ℕ) → Type 0
WritesLines form given old new = IfSome given (λ input. Appends old new (answered_lines form input))

-- and the whole output
abbrev pub WritesOutput : Form → Option (List ℕ) → Option (List ℕ) → Option (List ℕ) → Type 0
WritesOutput form given old new = IfSome given (λ input. Appends old new (output form input))
