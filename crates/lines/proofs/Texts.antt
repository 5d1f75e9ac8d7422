-- How long an output is, and what the arguments ask for. Assumes nothing.
use mathlib.Core.Path.{◌≡◌, refl, ap}
use mathlib.Core.Bool.{Bool, ◌&&◌, cond}
use mathlib.Core.List.{List, [], ◌∷◌, ◌++◌, flat_map}
use Prim.Native.Nat.{ℕ, ◌+◌, ◌*◌, ◌≤◌}
use native.Mathlib.Omega.{arith}
use lib.Dec.{eqb}
use lib.ListN.{length, take, length-append, length-take}
use lib.Pointwise.{pointwise}
use borrow.Author.Tests.{le-ltb}
use Rattle.kinds.specs.Bytes.{ascii}
use Rattle.line.specs.declared.Form.{Form}
use Rattle.line.specs.declared.Form.TheVariants.{Numbers, Waypoints}
use Rattle.stream.specs.Stream.{printed, head, foot, ended, begun_after, last, lines, limit, output, answers}
use Rattle.stream.proofs.Printing.{printed_short, flat_pieces, answers_short}
use Rattle.lines.specs.Asked.{is_same, asked}
use Rattle.std.specs.Prelude.{Some, None}

-- ---- what stands before the first line and after the last
head_short : (form : Form) → length (head form) ≤ 121
head_short Numbers = omega arith
head_short Waypoints = omega arith

foot_short : (form : Form) → length (foot form) ≤ 7
foot_short Numbers = omega arith
foot_short Waypoints = omega arith

-- and what is printed for a last line and in all
last_short : (form : Form) (line : List ℕ) → length (flat_map (printed form) (last line)) ≤ 48
unfolding flat_map
last_short form [] = omega arith
last_short form (x ∷ line) = omega (arith, length-append (printed form (x ∷ line)) [], printed_short form (x ∷ line))

pub output_short : (form : Form) (input : List ℕ) → length (output form input) ≤ 176 + 48 * limit
unfolding answers
output_short form input =
    let taken : List ℕ = take limit input in
    let line : List ℕ = begun_after [] taken in
    let text : List ℕ = flat_map (printed form) (lines taken) in
    omega (
      arith,
      length-append (head form ++ text) (foot form),
      length-append (head form) text,
      ap length (flat_pieces form (ended [] taken) (last line)),
      length-append (answers form [] taken) (flat_map (printed form) (last line)),
      answers_short form [] taken,
      length-take limit input,
      last_short form line,
      head_short form,
      foot_short form,
    )

-- ---- two words
as_compared : (a b : List ℕ) → is_same a b ≡ pointwise eqb a b
as_compared [] [] = refl
as_compared [] (y ∷ ys) = refl
as_compared (x ∷ xs) [] = refl
as_compared (x ∷ xs) (y ∷ ys) = ap (λ (t : Bool). eqb x y && t) (as_compared xs ys)

-- ---- what is asked for
module _ (words : ℕ) (next : List ℕ) where
  pub word_asked : 2 ≤ words → {same : Bool} → same ≡ pointwise eqb next (ascii "--gpx") → cond (eqb words 2 && same) (Some Waypoints) None ≡ asked words next
  word_asked h is-same = simp (le-ltb words 2 h, as_compared next (ascii "--gpx"), is-same)
