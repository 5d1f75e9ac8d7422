-- What stands at each edge of an output: before the first line, and after the last.
use Rattle.std.specs.Prelude.{List, ℕ}
use Rattle.line.specs.declared.Form.{Form}
use Rattle.stream.specs.Stream.{head, foot}
use Rattle.lines.specs.declared.Edge.{Edge}
use Rattle.lines.specs.declared.Edge.TheVariants.{Head, Foot}

abbrev pub edge_text : Edge → Form → List ℕ
edge_text Head form = head form
edge_text Foot form = foot form
