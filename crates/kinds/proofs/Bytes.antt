-- A part of a list of bytes: how long it is, and byte by byte as code reads it. Assumes nothing.
use mathlib.Core.Path.{◌≡◌, ap, ◌∙◌}
use mathlib.Core.List.{List, [], ◌∷◌}
use Prim.Native.Nat.{ℕ, suc, ◌+◌, ◌<◌, ◌≤◌}
use native.Mathlib.Omega.{arith}
use lib.ListN.{length, get_or, take, drop, length-drop}
use lib.Seq.{length-take-le, drop-cons}
use Rattle.kinds.specs.Bytes.{part}

-- the byte at a place
abbrev pub at : List ℕ → ℕ → ℕ
at t i = get_or t i 0

pub length_part : (from n : ℕ) (t : List ℕ) → from + n ≤ length t → length (part from n t) ≡ n
length_part from n t h = length-take-le n (drop from t) (simp length-drop (omega arith))

pub part_next : (from n : ℕ) (t : List ℕ) → from < length t → part from (suc n) t ≡ at t from ∷ part (suc from) n t
part_next from n t h = ap (take (suc n)) (drop-cons t from 0 h)

module _ (from : ℕ) (t : List ℕ) where
  pub part_one : from + 1 ≤ length t → part from 1 t ≡ at t from ∷ []
  part_one h = part_next from 0 t (omega arith)

  pub part_two : from + 2 ≤ length t → part from 2 t ≡ at t from ∷ at t (from + 1) ∷ []
  part_two h =
      let one : from + 1 ≡ suc from = omega arith in
      rw one (part_next from 1 t (omega arith) ∙ ap (λ (l : List ℕ). at t from ∷ l) (part_next (suc from) 0 t (omega arith)))
