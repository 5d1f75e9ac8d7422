-- What the private functions of this crate promise one another.
use Rattle.std.specs.Prelude.{◌≡◌, Bool, true, List, ℕ, zero, suc, eqb, Option, None, All}
use Rattle.std.specs.List.{position}
use Rattle.line.specs.Line.{line_feed}

-- where the first such byte is among some bytes, if one is
abbrev pub first : ℕ → List ℕ → Option ℕ
first byte bytes = position (λ other. eqb other byte) bytes

-- where the first line feed is
abbrev pub first_feed : List ℕ → Option ℕ
first_feed bytes = first line_feed bytes

-- none is among them
abbrev pub Clear : List ℕ → Type 0
Clear bytes = first_feed bytes ≡ None

-- nor among those of some words
abbrev pub AllClear : List (List ℕ) → Type 0
AllClear words = All Clear words

-- a test of some words says so only where that is so
unfoldable pub Tells : Bool → List (List ℕ) → Type 0
Tells clear words = clear ≡ true → AllClear words

-- where the bytes from a place on end that may be taken: at most there, and at the place where there is room for no line more
abbrev pub end_for : ℕ → ℕ → ℕ → ℕ
end_for zero from most = from
end_for (suc lines) from most = most
