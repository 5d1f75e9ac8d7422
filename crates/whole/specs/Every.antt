-- A test of every one of a list.
use Rattle.std.specs.Prelude.{Bool, true, ◌&&◌, List, [], ◌∷◌}

abbrev pub every : {A : Type 0} → (A → Bool) → List A → Bool
every test [] = true
every test (one ∷ rest) = test one && every test rest
