-- What an answer says of the tests before it, and how what is said determines the answer. Assumes nothing.
use mathlib.Core.Path.{◌≡◌, refl, sym, ap, ◌∙◌}
use mathlib.Core.Bool.{Bool, true, false, not, ◌&&◌, cond, false≢true}
use mathlib.Core.List.{List, [], ◌∷◌, ◌++◌}
use mathlib.Core.Logic.{◌↔◌, ◌⊎◌, inl, inr, ⊎_elim}
use Prim.Native.Nat.{ℕ, zero, suc, ◌<◌}
use native.Mathlib.Omega.{arith}
use lib.Dec.{eqb}
use borrow.Author.Tests.{eq-eqb}
use Rattle.whole.proofs.Bools.{both}
use Rattle.kinds.specs.Answer.{Answer, gives, refused, provided, Test, ◌else◌, in_order, AllHold, FirstFails, following, refusal_of, number_of}
use Rattle.std.specs.Prelude.{Result, Ok, Err}
use Rattle.std.specs.Result.{IsErrAnd}
use Rattle.std.proofs.lemmas.Result.{err_from_is_err_and}
use Rattle.kinds.specs.Cases.{answered}
use Rattle.kinds.specs.declared.Refusal.{Refusal}
use Rattle.kinds.specs.declared.Refusal.TheVariants.{Length, Kind, Range, Code, Family, Area, Room, Foreign, Sheet}

module _ {A : Type 0} where
  pub not_both : {y : A} {n : ℕ} → gives y ≡ refused n → ⊥
  not_both h = let z : ◌≡◌ {A = ℕ} 0 1 = cc in omega arith

  pub same_value : {x y : A} → gives x ≡ gives y → x ≡ y
  same_value h = cc

  -- a value was given: the test held
  pub passed : (b : Bool) (n : ℕ) (a : Answer A) {y : A} → provided b n a ≡ gives y → (b ≡ true) × (a ≡ gives y)
  passed true n a h = (refl, h)
  passed false n a h = absurd (not_both (sym h))

  -- a value that was tested was refused: the test failed, and the number is the test's
  pub failed : (b : Bool) (n : ℕ) (x : A) {m : ℕ} → provided b n (gives x) ≡ refused m → (b ≡ false) × (m ≡ n)
  failed true n x h = absurd (not_both h)
  failed false n x h = (refl, cc)

  same_number : {n m : ℕ} → ◌≡◌ {A = Answer A} (refused n) (refused m) → n ≡ m
  same_number h = cc

  -- the test's own number, which nothing behind it gives: the test failed
  pub own : (b : Bool) (n : ℕ) (a : Answer A) → (a ≡ refused n → ⊥) → provided b n a ≡ refused n → b ≡ false
  own true n a h e = absurd (h e)
  own false n a h e = refl

  -- a number is the test's own, or comes from behind it
  pub own_or_behind : (b : Bool) (n m : ℕ) (a : Answer A) → provided b n a ≡ refused m → (m ≡ n) ⊎ (a ≡ refused m)
  own_or_behind true n m a e = inr e
  own_or_behind false n m a e = inl (sym (same_number e))

  -- another's number: the test held, and what is behind it gave the number
  pub behind : (b : Bool) (n m : ℕ) (a : Answer A) → (n ≡ m → ⊥) → provided b n a ≡ refused m → (b ≡ true) × (a ≡ refused m)
  behind true n m a h e = (refl, e)
  behind false n m a h e = absurd (h (same_number e))

-- ---- tests in their order
module _ {A : Type 0} where
  pub all_held : (tests : List Test) (a : Answer A) {w : A} → in_order tests a ≡ gives w → AllHold tests × (a ≡ gives w)
  all_held [] a h = (tt, h)
  all_held ((b else n) ∷ tests) a h =
      let p = passed b n (in_order tests a) h in
      let rest = all_held tests a p.1 in
      ((p.0, rest.0), rest.1)

  -- where they hold, they stand before nothing
  pub held : (tests : List Test) (a : Answer A) → AllHold tests → in_order tests a ≡ a
  held [] a h = refl
  held ((b else n) ∷ tests) a h = ap (λ (b : Bool). provided b n (in_order tests a)) h.0 ∙ held tests a h.1

  -- a refusal is that of the first that fails, or of what they stand before
  pub first_or_behind : (tests : List Test) (a : Answer A) (n : ℕ) → in_order tests a ≡ refused n → FirstFails tests n ⊎ (AllHold tests × (a ≡ refused n))
  first_or_behind [] a n h = inr (tt, h)
  first_or_behind ((true else m) ∷ tests) a n h = ⊎_elim (λ f. inl (inr (refl, f))) (λ p. inr ((refl, p.0), p.1)) (first_or_behind tests a n h)
  first_or_behind ((false else m) ∷ tests) a n h = inl (inl (refl, same_number h))

  pub first_failed : (tests : List Test) (v : A) (n : ℕ) → in_order tests (gives v) ≡ refused n → FirstFails tests n
  first_failed tests v n h = ⊎_elim (λ f. f) (λ p. absurd (not_both p.1)) (first_or_behind tests (gives v) n h)

  -- whatever they stand before
  pub fails : (tests : List Test) (a : Answer A) (n : ℕ) → FirstFails tests n → in_order tests a ≡ refused n
  fails [] a n f = absurd f
  fails ((b else m) ∷ tests) a n (inl f) = ap (λ (b : Bool). provided b m (in_order tests a)) f.0 ∙ ap refused f.1
  fails ((b else m) ∷ tests) a n (inr f) = ap (λ (b : Bool). provided b m (in_order tests a)) f.0 ∙ fails tests a n f.1

  pub in_two : (first second : List Test) (a : Answer A) → in_order (first ++ second) a ≡ in_order first (in_order second a)
  in_two [] second a = refl
  in_two ((b else n) ∷ first) second a = ap (provided b n) (in_two first second a)

-- what is computed of the number of each test holds of the number of the first that fails
abbrev pub of_numbers : (ℕ → Bool) → List Test → Bool
of_numbers P [] = true
of_numbers P ((b else m) ∷ tests) = P m && of_numbers P tests

pub first_number : (P : ℕ → Bool) (tests : List Test) (n : ℕ) → of_numbers P tests ≡ true → FirstFails tests n → P n ≡ true
first_number P [] n p f = absurd f
first_number P ((b else m) ∷ tests) n p (inl f) = ap P (sym f.1) ∙ (both (P m) (of_numbers P tests) p).0
first_number P ((b else m) ∷ tests) n p (inr f) = first_number P tests n (both (P m) (of_numbers P tests) p).1 f.1

-- the number is that of one of them
abbrev pub OneOf : List Test → ℕ → Type 0
OneOf [] n = ⊥
OneOf ((b else m) ∷ []) n = n ≡ m
OneOf ((b else m) ∷ test ∷ tests) n = (n ≡ m) ⊎ OneOf (test ∷ tests) n

pub one_of : (tests : List Test) (n : ℕ) → FirstFails tests n → OneOf tests n
one_of [] n f = f
one_of ((b else m) ∷ []) n (inl f) = sym f.1
one_of ((b else m) ∷ []) n (inr f) = absurd f.1
one_of ((b else m) ∷ test ∷ tests) n (inl f) = inl (sym f.1)
one_of ((b else m) ∷ test ∷ tests) n (inr f) = inr (one_of (test ∷ tests) n f.1)

-- ---- the test at a place: those before it hold, and it does not
abbrev pub FailsAt : List Test → ℕ → Type 0
FailsAt [] k = ⊥
FailsAt ((b else m) ∷ tests) zero = b ≡ false
FailsAt ((b else m) ∷ tests) (suc k) = (b ≡ true) × FailsAt tests k

abbrev pub number_at : List Test → ℕ → ℕ
number_at [] k = 0
number_at ((b else m) ∷ tests) zero = m
number_at ((b else m) ∷ tests) (suc k) = number_at tests k

-- no other test has its number
abbrev pub apart : List Test → ℕ → Bool
apart [] k = true
apart ((b else m) ∷ tests) zero = of_numbers (λ n. not (eqb n m)) tests
apart ((b else m) ∷ tests) (suc k) = not (eqb m (number_at tests k)) && apart tests k

unlike : (n m : ℕ) → n ≡ m → not (eqb n m) ≡ true → ⊥
unlike n m e h = false≢true (sym (ap not (eq-eqb n m e)) ∙ h)

at_first : (tests : List Test) (k : ℕ) → FailsAt tests k → FirstFails tests (number_at tests k)
at_first [] k f = f
at_first ((b else m) ∷ tests) zero f = inl (f, refl)
at_first ((b else m) ∷ tests) (suc k) f = inr (f.0, at_first tests k f.1)

first_at : (tests : List Test) (k : ℕ) → apart tests k ≡ true → FirstFails tests (number_at tests k) → FailsAt tests k
first_at [] k h f = f
first_at ((b else m) ∷ tests) zero h (inl f) = f.0
first_at ((b else m) ∷ tests) zero h (inr f) = absurd (unlike m m refl (first_number (λ n. not (eqb n m)) tests m h f.1))
first_at ((b else m) ∷ tests) (suc k) h (inl f) = absurd (unlike m (number_at tests k) f.1 (both (not (eqb m (number_at tests k))) (apart tests k) h).0)
first_at ((b else m) ∷ tests) (suc k) h (inr f) = (f.0, first_at tests k (both (not (eqb m (number_at tests k))) (apart tests k) h).1 f.1)

-- so its number is given exactly then
pub fails_at : {A : Type 0} (tests : List Test) (v : A) (k : ℕ) → apart tests k ≡ true → (in_order tests (gives v) ≡ refused (number_at tests k)) ↔ FailsAt tests k
fails_at tests v k h = (
  (λ e. first_at tests k h (first_failed tests v (number_at tests k) e)),
  (λ f. fails tests (gives v) (number_at tests k) (at_first tests k f)),
)

-- what follows from a tested answer is tested
pub following_tests : {A B : Type 0} (tests : List Test) (a : Answer A) (next : A → Answer B) → following (in_order tests a) next ≡ in_order tests (following a next)
following_tests [] a next = refl
following_tests ((true else n) ∷ tests) a next = following_tests tests a next
following_tests ((false else n) ∷ tests) a next = refl

-- what follows from what is made of a value follows from the value
pub followed_on : {A B C : Type 0} (a : Answer A) (made : A → B) (next : B → Answer C) → following (following a (λ v. gives (made v))) next ≡ following a (λ v. next (made v))
followed_on (gives v) made next = refl
followed_on (refused n) made next = refl

-- ---- an answer by what is said of it
-- the refusal that has a number
abbrev pub refusal : ℕ → Refusal
refusal n = cond (eqb n 1) Length (cond (eqb n 2) Kind (cond (eqb n 3) Range (cond (eqb n 4) Code (cond (eqb n 5) Family (cond (eqb n 6) Area (cond (eqb n 7) Room (cond (eqb n 8) Foreign Sheet)))))))

pub number_back : (r : Refusal) → refusal (number_of r) ≡ r
number_back Length = refl
number_back Kind = refl
number_back Range = refl
number_back Code = refl
number_back Family = refl
number_back Area = refl
number_back Room = refl
number_back Foreign = refl
number_back Sheet = refl

pub same_refusal : (r s : Refusal) → number_of r ≡ number_of s → r ≡ s
same_refusal r s h = sym (number_back r) ∙ ap refusal h ∙ number_back s

-- a result by what it says, where `made` makes the value of what `says` says of it
module _ {T A : Type 0} (says : T → A) (made : A → T) (back : (x : T) → made (says x) ≡ x) where
  abbrev rebuilt : Answer A → Result T Refusal
  rebuilt (gives v) = Ok (made v)
  rebuilt (refused n) = Err (refusal n)

  again : (r : Result T Refusal) → rebuilt (answered says r) ≡ r
  again (Ok x) = ap Ok (back x)
  again (Err r) = ap Err (number_back r)

  pub determined : (a b : Result T Refusal) → answered says a ≡ answered says b → a ≡ b
  determined a b h = sym (again a) ∙ ap rebuilt h ∙ again b

-- the result at the exit of a `?` is refused as what was asked
pub handed_on : {T A : Type 0} (says : T → A) (r : Result T Refusal) (e : Refusal) → IsErrAnd r (λ y. y ≡ e) → answered says r ≡ refused (number_of e)
handed_on says r e h = let p = err_from_is_err_and r h in ap (answered says) p.1 ∙ ap (λ (y : Refusal). refused (number_of y)) p.2

-- ---- 0 is the number of no refusal
-- an answer whose refusals are above 0 has a value where its number is 0
pub told : {A : Type 0} (a : Answer A) → ((n : ℕ) → a ≡ refused n → 0 < n) → refusal_of a ≡ 0 → (v : A) × (a ≡ gives v)
told (gives v) above h = (v, refl)
told (refused n) above h = absurd (omega (arith, above n refl, h))

-- a number that is one of some is above 0 where they are
pub is : {n : ℕ} (x : ℕ) → 0 < x → n ≡ x → 0 < n
is x h e = omega (arith, h, e)

pub is_or : {n : ℕ} (x : ℕ) {B : Type 0} → 0 < x → (B → 0 < n) → (n ≡ x) ⊎ B → 0 < n
is_or x h rest (inl e) = is x h e
is_or x h rest (inr b) = rest b
