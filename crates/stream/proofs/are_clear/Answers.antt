use Rattle.std.proofs.Common.{rules, tests, ◌≡◌, true, List, ℕ, subst, arith}
use Rattle.std.proofs.lemmas.Fn.{fold_over, slice_gives, fronts}
use Rattle.stream.specs.Inside.{Clear, AllClear, Tells}
use Rattle.stream.proofs.Finding.{tested_next}
use Rattle.stream.proofs.are_clear.Goals as goal

pub returns : goal.returns
unfolding Tells
returns c = subst (λ (words : List (List ℕ)). c.fold.result ≡ true → AllClear words) c.iter.ensures.rest
    (fold_over fronts (λ y. y.now) _ (λ words clear. clear ≡ true → AllClear words) _
    (λ ys a x b f' j k.
    let one : b ≡ true → (a ≡ true) × Clear x.now = search (rules, tests) in
    (λ e. tested_next ys x.now (j (one e).0) (one e).1, search rules))
    _ _ _ _ (slice_gives c.iter.result) (λ e k d h. absurd (omega arith)) c.fold.ensures.ran)
