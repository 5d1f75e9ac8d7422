-- Document 01, 'The line program': a line as it is made. The answer does not use this: it is what the reading of `Line` is held
-- to.
use Rattle.std.specs.Prelude.{List, ◌∷◌, ◌++◌, ℕ, ℤ}
use Rattle.whole.specs.Digits.{byte_of}
use Rattle.position.specs.Text.{latitude, longitude, text}
use Rattle.line.specs.Line.{space}

-- 'code digit, space, latitude text, space, longitude text'
unfoldable pub line_bytes : ℕ → ℤ → ℤ → List ℕ
line_bytes digit north east = byte_of digit ∷ space ∷ (text latitude north ++ (space ∷ text longitude east))
