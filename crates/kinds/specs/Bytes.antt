-- The bytes of a text, a sheet or a result.
use Rattle.std.specs.Prelude.{List, ℕ, take, drop}
use mathlib.Core.List as list
use Prim.Native.Char.{code}
use Prim.Native.String.{String, [], ◌∷◌}

-- n bytes from a place on
abbrev pub part : ℕ → ℕ → List ℕ → List ℕ
part from n bytes = take n (drop from bytes)

-- those of a text in ASCII
abbrev pub ascii : String → List ℕ
ascii [] = list.[]
ascii (first ∷ rest) = list.◌∷◌ (code first) (ascii rest)
