use Rattle.std.proofs.Common.{true, false, sym}
use Rattle.position.proofs.OneWord.{tested}
use Rattle.position.proofs.Digits.of.Goals as goal

pub returns-then-not-word-more : goal.returns-then-not-word-more
returns-then-not-word-more c =
    sym (tested c.args.text.now c.told-text c.fits-text {b = false} (simp (← c.figures-word.ensures, ← c.wrapping_add_u64-more.ensures.value) c.if-not-word-more.true))

pub returns-then-not-is_digit : goal.returns-then-not-is_digit
returns-then-not-is_digit c =
    simp (← tested c.args.text.now c.told-text c.fits-text {b = true} (simp (← c.figures-word.ensures, ← c.wrapping_add_u64-more.ensures.value) c.if-not-word-more.false), ← c.is_digit.ensures, ← c.is_digit-2.ensures) c.if-not-is_digit.true

pub invariant_of-result-clause-are : goal.invariant_of-result-clause-are
invariant_of-result-clause-are c =
    simp (← tested c.args.text.now c.told-text c.fits-text {b = true} (simp (← c.figures-word.ensures, ← c.wrapping_add_u64-more.ensures.value) c.if-not-word-more.false), ← c.is_digit.ensures, ← c.is_digit-2.ensures) c.if-not-is_digit.false
