-- Whole answers and their floats: what is known of the ones by the others. Assumes nothing.
use mathlib.Core.Path.{◌≡◌, refl, sym, ap, subst}
use mathlib.Core.Bool.{true}
use Prim.Native.Nat.{ℕ, ◌+◌, ◌*◌, ◌^◌, ◌≤◌, ◌<◌}
use native.Mathlib.Omega.{arith}
use lib.Dec.{T, leb, leb→le, lit<, lit≤}
use lib.IntN.{ℤ, nat_abs}
use lib.Ieee.{Float}
use lib.Ieee.Bits.{is_true}
use Rattle.whole.proofs.Words.{sized}
use Rattle.kinds.specs.Answer.{Answer, gives, refused}
use Rattle.kinds.specs.Kinds.{is_four_bytes}
use Rattle.kinds.proofs.Answers.{not_both, same_value}
use Rattle.kinds.proofs.Tested.{of_four_bytes}
use Rattle.equation.specs.Exact.{Fraction, Within, NearTo}
use Rattle.equation.proofs.Fractions.{within_wider, near_wider, within_both}
use Rattle.tables.specs.Page.{Family, shift, geoid, of_each, each, Each}
use Rattle.datum.specs.Exact.{AllWithin, demanded}
use Rattle.tables.proofs.Families.{each_by, shift_so, geoid_so}
use Rattle.datum.proofs.Errors.{no_narrower, all_nearer}
use Rattle.floating.specs.Floats.{◌divided_by◌, per_second, per_metre, seconds, metres, in_floats, answer_in_floats}
use Rattle.floating.specs.Value.{in_units, all_in_units, FloatsWithin}
use Rattle.floating.proofs.Quotients.{quotient_near, same_whole}

-- ---- of numbers of at most 2 ^ 31 in size, as 4 bytes hold
abbrev Held : ℤ → Type 0
Held n = nat_abs n ≤ 2147483648

pub held : (n : ℤ) → is_four_bytes n ≡ true → Held n
held n h = sized n (of_four_bytes n h)

all_held : (values : Family ℤ) → each is_four_bytes values ≡ true → Each Held values
all_held values h = each_by is_four_bytes (λ n t. held n (is_true (is_four_bytes n) t)) values (subst T (sym h) tt)

-- ---- no two have one float
module _ (n m : ℤ) (h : Held n) (k : Held m) where
  pub same_seconds : seconds n ≡ seconds m → n ≡ m
  same_seconds = same_whole per_second (lit< tt) (lit≤ tt) n m h k

  pub same_metres : metres n ≡ metres m → n ≡ m
  same_metres = same_whole per_metre (lit< tt) (lit≤ tt) n m h k

same_values : (v w : Family ℤ) → Each Held v → Each Held w → in_floats v ≡ in_floats w → v ≡ w
same_values (shift a b c) (shift d e f) h k s =
    let x : seconds a ≡ seconds d = cc in
    let y : seconds b ≡ seconds e = cc in
    let z : metres c ≡ metres f = cc in
    λ i. shift (same_seconds a d h.0 k.0 x i) (same_seconds b e h.1 k.1 y i) (same_metres c f h.2 k.2 z i)
same_values (geoid a) (geoid b) h k s = ap geoid (same_metres a b h k cc)
same_values (shift a b c) (geoid d) h k s = absurd (let z : ◌≡◌ {A = ℕ} 0 1 = cc in omega arith)
same_values (geoid a) (shift d e f) h k s = absurd (let z : ◌≡◌ {A = ℕ} 0 1 = cc in omega arith)

-- ---- how near to an exact value
-- a float is as near as its whole answer, but for a thousandth of a unit
float_near : (units h : ℕ) → 0 < units → units ≤ 2 ^ 53 → {f : Fraction} (n : ℤ) → Held n → Within h 1000 f n
    → NearTo (h + 1) 1000 f (in_units units (n divided_by units))
float_near units h p d {f} n held w = within_both f (in_units units (n divided_by units)) w (within_wider 1 1000 (lit< tt) (lit≤ tt) (quotient_near units p d n held))

pub floats_near : (bounds : Family ℕ) (exacts : Family Fraction) (values : Family ℤ) → each is_four_bytes values ≡ true
    → AllWithin 1000 bounds exacts values → FloatsWithin 1000 (of_each (λ h. h + 1) bounds) exacts (in_floats values)
floats_near bounds exacts values four = go bounds values (all_held values four)
  where
    go : (bounds : Family ℕ) (values : Family ℤ) → Each Held values → AllWithin 1000 bounds exacts values → FloatsWithin 1000 (of_each (λ h. h + 1) bounds) exacts (in_floats values)
    go (shift h i j) (shift a b c) p =
        shift_so exacts
        (λ d_lat d_lon d_h w. (
          float_near per_second h (lit< tt) (lit≤ tt) a p.0 w.0,
          float_near per_second i (lit< tt) (lit≤ tt) b p.1 w.1,
          float_near per_metre j (lit< tt) (lit≤ tt) c p.2 w.2,
        ))
    go (geoid h) (geoid a) p = geoid_so exacts (λ n w. float_near per_metre h (lit< tt) (lit≤ tt) a p w)
    go (shift h i j) (geoid a) p = λ w. w
    go (geoid h) (shift a b c) p = λ w. w

-- what is demanded of floats is what is demanded of the whole values
pub float_demand : (values : Family ℤ) → demanded (in_floats values) ≡ demanded values
float_demand (shift a b c) = refl
float_demand (geoid n) = refl

-- wider bounds, in other parts of a unit
pub floats_wider : (n m : ℕ) → 0 < n → (narrow wide : Family ℕ) (exacts : Family Fraction) (floats : Family Float) → T (no_narrower n m narrow wide)
    → FloatsWithin n narrow exacts floats → FloatsWithin m wide exacts floats
floats_wider n m p narrow wide exacts floats =
    all_nearer (λ h o. leb (m * h) (o * n)) (λ h o f g t w. near_wider o m p (leb→le (m * h) (o * n) t) w) narrow wide exacts (all_in_units floats)

-- ---- of an answer
pub gave : (whole : Answer (Family ℤ)) {floats : Family Float} → answer_in_floats whole ≡ gives floats → (values : Family ℤ) × ((whole ≡ gives values) × (in_floats values ≡ floats))
gave (gives values) h = (values, (refl, same_value h))
gave (refused n) h = absurd (not_both (sym h))

pub same_answers : (v w : Answer (Family ℤ)) → ((values : Family ℤ) → v ≡ gives values → each is_four_bytes values ≡ true)
    → ((values : Family ℤ) → w ≡ gives values → each is_four_bytes values ≡ true) → answer_in_floats v ≡ answer_in_floats w → v ≡ w
same_answers (gives a) (gives b) h k s = ap gives (same_values a b (all_held a (h a refl)) (all_held b (k b refl)) (same_value s))
same_answers (refused n) (refused m) h k s = ap refused cc
same_answers (gives a) (refused m) h k s = absurd (not_both s)
same_answers (refused n) (gives b) h k s = absurd (not_both (sym s))

pub was_refused : (whole : Answer (Family ℤ)) {n : ℕ} → answer_in_floats whole ≡ refused n → whole ≡ refused n
was_refused (gives values) h = absurd (not_both h)
was_refused (refused m) h = ap refused cc
