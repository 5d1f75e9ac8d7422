-- The codes that a sheet lists: whether they rise, and what is among them. Assumes nothing.
use mathlib.Core.Path.{◌≡◌, refl, sym, ap, ◌∙◌}
use mathlib.Core.Bool.{Bool, true, false, ◌&&◌, ◌||◌, or-true, and-true, and-false, false≢true}
use mathlib.Core.List.{List, [], ◌∷◌}
use Prim.Native.Nat.{ℕ, zero, suc, ◌+◌, ◌<◌, ◌≤◌}
use native.Mathlib.Numerals.{add-one}
use native.Mathlib.Omega.{arith}
use lib.Dec.{eqb, leb, ltb}
use lib.ListN.{length, drop, drop_of_length-le}
use lib.Seq.{drop-cons}
use borrow.Author.Tests.{eq-eqb, ne_eqb, eqb-true, ltb-true, lt-ltb, le-ltb, leb-true, le-leb}
use Rattle.whole.proofs.Bools.{both, joined, either}
use Rattle.kinds.proofs.Bytes.{at}
use Rattle.layout.specs.Sheet.{rise, is_listed}

-- ---- whether they rise, a code at a time
-- the last of them is tested for all: what is below it is at most 6 where it is
limit_last : (before code : ℕ) (rest : Bool) → before < code → (leb code 6 && rest) ≡ (leb before 6 && (leb code 6 && rest))
limit_last before code rest h = go (leb code 6) refl
  where
    go : (b : Bool) → leb code 6 ≡ b → (b && rest) ≡ (leb before 6 && (b && rest))
    go true e =
        let k : leb before 6 ≡ true = le-leb before 6 (omega (arith, h, leb-true code 6 e)) in
        simp k
    go false e = sym (and-false (leb before 6))

module _ (before i : ℕ) (codes : List ℕ) where
  abbrev next : Bool
  next = ltb before (at codes i) && leb (at codes i) 6

  rise_next : i < length codes → rise before (drop i codes) ≡ (next && rise (at codes i) (drop (i + 1) codes))
  unfolding rise
  rise_next h = ap (rise before) (drop-cons codes i 0 h) ∙ ap (λ (k : ℕ). next && rise (at codes i) (drop k codes)) (sym (add-one i))

  -- whether those from place i on do, above one that is in range
  abbrev pub rises_on : Bool
  rises_on = leb before 6 && rise before (drop i codes)

  pub rise_stops : i < length codes → at codes i ≤ before → false ≡ rises_on
  rise_stops h t = sym (ap (λ (b : Bool). leb before 6 && b) (rise_next h ∙ simp (le-ltb before (at codes i) t)) ∙ and-false (leb before 6))

  pub rise_goes : i < length codes → before < at codes i → (leb (at codes i) 6 && rise (at codes i) (drop (i + 1) codes)) ≡ rises_on
  rise_goes h t =
      limit_last before (at codes i) (rise (at codes i) (drop (i + 1) codes)) t
      ∙ sym (ap (λ (b : Bool). leb before 6 && b) (rise_next h ∙ simp (lt-ltb before (at codes i) t)))

  pub rise_ends : length codes ≤ i → leb before 6 ≡ rises_on
  unfolding rise
  rise_ends h = sym (ap (λ (l : List ℕ). leb before 6 && rise before l) (drop_of_length-le codes h) ∙ and-true (leb before 6))

-- what the first says
rise_first : (before code : ℕ) (rest : List ℕ) → rise before (code ∷ rest) ≡ true → (before < code) × ((code ≤ 6) × (rise code rest ≡ true))
unfolding rise
rise_first before code rest h =
    let r = both (ltb before code && leb code 6) (rise code rest) h in
    let c = both (ltb before code) (leb code 6) r.0 in
    (ltb-true before code c.0, (leb-true code 6 c.1, r.1))

-- what rises is above what was before, up to 6
pub six : (before : ℕ) (codes : List ℕ) → rise before codes ≡ true → (i : ℕ) → i < length codes → (before < at codes i) × (at codes i ≤ 6)
six before [] h i k = absurd (omega arith)
six before (code ∷ rest) h zero k =
    let r = rise_first before code rest h in
    (r.0, r.1.0)
six before (code ∷ rest) h (suc i) k =
    let r = rise_first before code rest h in
    let s = six code rest r.1.1 i (omega arith) in
    (omega (arith, r.0, s.0), s.1)

-- and each above those before it
pub risen : (before : ℕ) (codes : List ℕ) → rise before codes ≡ true → (i j : ℕ) → i < j → j < length codes → at codes i < at codes j
risen before [] h i j k more = absurd (omega arith)
risen before (code ∷ rest) h i zero k more = absurd (omega arith)
risen before (code ∷ rest) h zero (suc j) k more = (six code rest (rise_first before code rest h).1.1 j (omega arith)).0
risen before (code ∷ rest) h (suc i) (suc j) k more = risen code rest (rise_first before code rest h).1.1 i j (omega arith) (omega arith)

-- and what does so rises
pub rises : (before : ℕ) (codes : List ℕ) → ((i : ℕ) → i < length codes → (before < at codes i) × (at codes i ≤ 6)) → ((i j : ℕ) → i < j → j < length codes → at codes i < at codes j) → rise before codes ≡ true
unfolding rise
rises before [] within above = refl
rises before (code ∷ rest) within above =
    let first = within 0 (omega arith) in
    joined (joined (lt-ltb before code first.0) (le-leb code 6 first.1))
    (rises code rest (λ i more. (above 0 (suc i) (omega arith) (omega (arith, more)), (within (suc i) (omega (arith, more))).1)) (λ i j k more. above (suc i) (suc j) (omega (arith, k)) (omega (arith, more))))

-- ---- what is listed
-- it stands somewhere among them, and what stands among them is listed
pub listed_at : (codes : List ℕ) (p : ℕ) → is_listed codes p ≡ true → (i : ℕ) × ((i < length codes) × (at codes i ≡ p))
unfolding is_listed
listed_at [] p h = absurd (false≢true h)
listed_at (code ∷ rest) p h =
    either (eqb code p) (is_listed rest p) h (λ e. (0, (omega arith, eqb-true code p e)))
    (λ e.
    let there = listed_at rest p e in
    (suc there.0, (omega (arith, there.1.0), there.1.1)))

pub at_listed : (codes : List ℕ) (i : ℕ) → i < length codes → is_listed codes (at codes i) ≡ true
unfolding is_listed
at_listed [] i h = absurd (omega arith)
at_listed (code ∷ rest) zero h = ap (λ (b : Bool). b || is_listed rest code) (eq-eqb code code refl)
at_listed (code ∷ rest) (suc i) h = ap (λ (b : Bool). eqb code (at rest i) || b) (at_listed rest i (omega arith)) ∙ or-true (eqb code (at rest i))

-- of codes that rise, what is listed is 1 to 6
pub listed_six : (before : ℕ) (codes : List ℕ) → rise before codes ≡ true → (p : ℕ) → is_listed codes p ≡ true → (before < p) × (p ≤ 6)
listed_six before codes h p k =
    let there = listed_at codes p k in
    let s = six before codes h there.0 there.1.0 in
    (omega (arith, s.0, there.1.1), omega (arith, s.1, there.1.1))

-- and what is above 6 is not
pub beyond : (before : ℕ) (codes : List ℕ) → rise before codes ≡ true → (p : ℕ) → 6 < p → is_listed codes p ≡ false
unfolding is_listed
beyond before [] h p k = refl
beyond before (code ∷ rest) h p k =
    let r = rise_first before code rest h in
    (λ i. ne_eqb code p (λ e. omega (arith, r.1.0, k, e)) i || is_listed rest p) ∙ beyond code rest r.1.1 p k
