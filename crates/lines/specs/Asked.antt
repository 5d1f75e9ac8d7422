-- Document 02, wish 1: what the program is asked for by its arguments.
use Rattle.std.specs.Prelude.{Bool, true, false, ◌&&◌, cond, List, [], ◌∷◌, ℕ, eqb, ltb, Option, Some, None}
use Rattle.kinds.specs.Bytes.{ascii}
use Rattle.line.specs.declared.Form.{Form}
use Rattle.line.specs.declared.Form.TheVariants.{Numbers, Waypoints}

abbrev pub is_same : List ℕ → List ℕ → Bool
is_same [] [] = true
is_same [] (y ∷ ys) = false
is_same (x ∷ xs) [] = false
is_same (x ∷ xs) (y ∷ ys) = eqb x y && is_same xs ys

-- without an argument numbers, by `--gpx` alone waypoints: of how many words there are, the program's name among them, and of the one
-- after the name
abbrev pub asked : ℕ → List ℕ → Option Form
asked words next = cond (ltb words 2) (Some Numbers) (cond (eqb words 2 && is_same next (ascii "--gpx")) (Some Waypoints) None)
