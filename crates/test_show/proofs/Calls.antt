-- Calls of a function that prints: one, and one after several.
use Rattle.std.proofs.Common.{◌≡◌, ℕ, ◌+◌, ◌<◌, List, [], ◌∷◌, ◌++◌, length, take, get_or, refl, sym, ap, subst, ◌∙◌, MutBor, Result, Ok}
use Rattle.std.proofs.lemmas.List.{take_more}
use Rattle.std.proofs.lemmas.Fn.{FoldsTo-push}
use Rattle.test_show.specs.Shown.{Shows, ShowsEach}

module _ {W T R : Type 0} (post : MutBor W → T → R → MutBor W → Type 0) where
  -- a call that its promise tells of
  pub called : {lent : MutBor W} {one : T} {r s : R} {left : MutBor W} → post lent one r left → r ≡ s → Shows post lent.now one s left.now
  called {lent = lent} {one = one} {left = left} met is = record { lent = lent; lends = refl; left = left; met = subst (λ r. post lent one r left) is met; leaves = refl }

-- the next of several, after those before it
pub next_shown : {W T E : Type 0} (post : MutBor W → T → Result (Unit {0}) E → MutBor W → Type 0) (several : List T) (i : ℕ) → i < length several → (one : T) → one ≡ get_or several i one
    → (old before after : W) → ShowsEach post old (take i several) before → Shows post before one (Ok tt) after → ShowsEach post old (take (i + 1) several) after
next_shown post several i within one is old before after shown shows =
    let longer = take_more several i one within ∙ ap (λ x. take i several ++ x ∷ []) (sym is) in
    subst (λ several. ShowsEach post old several after) (sym longer) (FoldsTo-push _ old (take i several) before one after shown shows)
