-- The lines of an input: over two pieces of it, over bytes with no line feed among them, and how lines and input determine each
-- other. Assumes nothing.
use mathlib.Core.Path.{◌≡◌, refl, sym, ap, ◌∙◌}
use mathlib.Core.Bool.{true, false, not}
use mathlib.Core.List.{List, [], ◌∷◌, ◌++◌, flat_map, append-nil, append_assoc}
use Prim.Native.Nat.{ℕ, zero, suc, ◌-◌}
use native.Mathlib.Omega.{arith}
use lib.Dec.{eqb}
use lib.ListN.{length, take}
use lib.Seq.{append_snoc}
use borrow.Author.Tests.{eqb-true, not-true}
use Rattle.whole.specs.Every.{every}
use Rattle.whole.proofs.Bools.{both, joined, by_test}
use Rattle.whole.proofs.Every.{every_joined}
use Rattle.line.specs.Line.{line_feed, unbroken}
use Rattle.stream.specs.Stream.{terminated, ended, begun_after}

-- ---- an input in two pieces
pub ended_pieces : (begun xs ys : List ℕ) → ended begun (xs ++ ys) ≡ ended begun xs ++ ended (begun_after begun xs) ys
unfolding ended begun_after
ended_pieces begun [] ys = refl
ended_pieces begun (x ∷ xs) ys = by_test (eqb x line_feed) (λ t. simp t (ap (λ (l : List (List ℕ)). begun ∷ l) (ended_pieces [] xs ys))) (λ t. simp t (ended_pieces (begun ++ x ∷ []) xs ys))

pub begun_pieces : (begun xs ys : List ℕ) → begun_after begun (xs ++ ys) ≡ begun_after (begun_after begun xs) ys
unfolding begun_after
begun_pieces begun [] ys = refl
begun_pieces begun (x ∷ xs) ys = by_test (eqb x line_feed) (λ t. simp t (begun_pieces [] xs ys)) (λ t. simp t (begun_pieces (begun ++ x ∷ []) xs ys))

-- the first n bytes of both
pub first_pieces : (n : ℕ) (xs ys : List ℕ) → take n xs ++ take (n - length (take n xs)) ys ≡ take n (xs ++ ys)
first_pieces zero xs ys = refl
first_pieces (suc n) [] ys = let e : suc n - 0 ≡ suc n = omega arith in ap (λ (k : ℕ). take k ys) e
first_pieces (suc n) (x ∷ xs) ys =
    let e : suc n - suc (length (take n xs)) ≡ n - length (take n xs) = omega arith in
    ap (λ (k : ℕ). x ∷ (take n xs ++ take k ys)) e ∙ ap (λ (l : List ℕ). x ∷ l) (first_pieces n xs ys)

-- ---- bytes with no line feed among them
no_feed : (x : ℕ) (l : List ℕ) → unbroken (x ∷ l) ≡ true → (eqb x line_feed ≡ false) × (unbroken l ≡ true)
no_feed x l h = let p = both _ (unbroken l) h in (not-true _ p.0, p.1)

longer : (begun : List ℕ) (x : ℕ) → unbroken begun ≡ true → eqb x line_feed ≡ false → unbroken (begun ++ x ∷ []) ≡ true
longer begun x h t = every_joined _ begun (x ∷ []) h (joined (ap not t) refl)

pub none_ends : (begun l : List ℕ) → unbroken l ≡ true → ended begun l ≡ []
unfolding ended
none_ends begun [] h = refl
none_ends begun (x ∷ l) h = let p = no_feed x l h in simp p.0 (none_ends (begun ++ x ∷ []) l p.1)

pub goes_on : (begun l : List ℕ) → unbroken l ≡ true → begun_after begun l ≡ begun ++ l
unfolding begun_after
goes_on begun [] h = sym (append-nil begun)
goes_on begun (x ∷ l) h = let p = no_feed x l h in simp p.0 (goes_on (begun ++ x ∷ []) l p.1 ∙ append_snoc begun x l)

-- and then one
module _ (begun l rest : List ℕ) (h : unbroken l ≡ true) where
  pub line_ends : ended begun (l ++ line_feed ∷ rest) ≡ (begun ++ l) ∷ ended [] rest
  unfolding ended
  line_ends = ended_pieces begun l (line_feed ∷ rest) ∙ simp (none_ends begun l h, goes_on begun l h)

  pub begins_anew : begun_after begun (l ++ line_feed ∷ rest) ≡ begun_after [] rest
  unfolding begun_after
  begins_anew = begun_pieces begun l (line_feed ∷ rest)

-- ---- lines, each with its line feed
-- they are the input
pub input_again : (begun input : List ℕ) → terminated (ended begun input) ++ begun_after begun input ≡ begun ++ input
unfolding ended begun_after flat_map
input_again begun [] = sym (append-nil begun)
input_again begun (x ∷ input) =
    by_test (eqb x line_feed)
    (λ t.
    simp t
    (append_assoc (begun ++ line_feed ∷ []) (terminated (ended [] input)) (begun_after [] input)
    ∙ append_assoc begun (line_feed ∷ []) (terminated (ended [] input) ++ begun_after [] input)
    ∙ λ i. begun ++ sym (eqb-true x line_feed t) i ∷ input_again [] input i))
    (λ t. simp t (input_again (begun ++ x ∷ []) input ∙ append_snoc begun x input))

-- none has a line feed in it
pub ended_unbroken : (begun input : List ℕ) → unbroken begun ≡ true → every unbroken (ended begun input) ≡ true
unfolding ended
ended_unbroken begun [] h = refl
ended_unbroken begun (x ∷ input) h =
    by_test (eqb x line_feed)
    (λ t. simp t (joined h (ended_unbroken [] input refl)))
    (λ t. simp t (ended_unbroken (begun ++ x ∷ []) input (longer begun x h t)))

pub begun_unbroken : (begun input : List ℕ) → unbroken begun ≡ true → unbroken (begun_after begun input) ≡ true
unfolding begun_after
begun_unbroken begun [] h = h
begun_unbroken begun (x ∷ input) h =
    by_test (eqb x line_feed)
    (λ t. simp t (begun_unbroken [] input refl))
    (λ t. simp t (begun_unbroken (begun ++ x ∷ []) input (longer begun x h t)))

-- and an input that is such lines is read as these
module _ (t : List ℕ) (h : unbroken t ≡ true) where
  pub ended_of : (ls : List (List ℕ)) → every unbroken ls ≡ true → ended [] (terminated ls ++ t) ≡ ls
  unfolding flat_map
  ended_of [] k = none_ends [] t h
  ended_of (l ∷ ls) k =
      let p = both (unbroken l) (every unbroken ls) k in
      ap (ended []) (append_assoc (l ++ line_feed ∷ []) (terminated ls) t ∙ append_snoc l line_feed (terminated ls ++ t))
      ∙ line_ends [] l (terminated ls ++ t) p.0
      ∙ ap (λ (ls : List (List ℕ)). l ∷ ls) (ended_of ls p.1)

  pub begun_of : (ls : List (List ℕ)) → every unbroken ls ≡ true → begun_after [] (terminated ls ++ t) ≡ t
  unfolding flat_map
  begun_of [] k = goes_on [] t h
  begun_of (l ∷ ls) k =
      let p = both (unbroken l) (every unbroken ls) k in
      ap (begun_after []) (append_assoc (l ++ line_feed ∷ []) (terminated ls) t ∙ append_snoc l line_feed (terminated ls ++ t))
      ∙ begins_anew [] l (terminated ls ++ t) p.0
      ∙ begun_of ls p.1
