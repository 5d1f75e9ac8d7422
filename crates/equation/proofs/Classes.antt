-- The classes of a table's terms: one term more, how large their sums are, and the sum of all by theirs. Assumes nothing.
use mathlib.Core.Path.{◌≡◌, refl, sym, ap, ◌∙◌, subst}
use mathlib.Core.Bool.{Bool, true, false, not, cond, ◌&&◌}
use mathlib.Core.List.{List, [], ◌∷◌, ◌++◌}
use Prim.Native.Nat.{ℕ, zero, suc, ◌+◌, ◌*◌, ◌%◌, ◌<◌, ◌≤◌, zero-le}
use native.Mathlib.Nat.{le_refl, le_trans}
use native.Mathlib.Omega.{arith}
use lib.Dec.{eqb}
use lib.ListN.{length, get_or, set, length-set}
use lib.Seq.{get_or-set_other}
use lib.IntN.{ℤ, pos, nat_abs, ◌+ℤ◌, ◌*ℤ◌, +ℤ_assoc, +ℤ_comm, +ℤ_idl, +ℤ_idr}
use lib.Signed.{lt_z}
use Rattle.std.specs.Prelude.{◌≢◌}
use Rattle.whole.specs.Round.{round_div, scale}
use Rattle.whole.specs.Sign.{with_sign}
use Rattle.whole.proofs.Ring.{by_diff, diff_cong, ring}
use Rattle.whole.proofs.Sizes.{abs-+}
use Rattle.whole.proofs.Rounding.{round_neg}
use Rattle.whole.proofs.Signs.{with_none, with_size, with-+, with-*}
use Rattle.equation.specs.Powers.{powers_of}
use Rattle.equation.specs.Equation.{Term, term, product, sum}
use Rattle.equation.specs.Room.{EachFits, sizes, RoomFrom}
use Rattle.equation.specs.Inside.{coded, terms, size_powers, class_of, value, with_term, class_sums, spread, joined}
use Rattle.equation.specs.declared.Term as code
use Rattle.equation.proofs.Steps.{powers_at, power_by_size}
use Rattle.equation.proofs.Sums.{size, size_is, sizes_first}

-- before any term
abbrev pub no_sums : List ℤ
no_sums = pos 0 ∷ pos 0 ∷ pos 0 ∷ pos 0 ∷ []

-- ---- what holds of the four classes holds of every term's
by_parities : (P : ℕ → ℕ → Type 0) → P 0 0 → P 0 1 → P 1 0 → P 1 1 → (i j : ℕ) → P (i % 2) (j % 2)
by_parities P a b c d i j = go (i % 2) (j % 2) (omega arith) (omega arith)
  where
    go : (x y : ℕ) → x < 2 → y < 2 → P x y
    go zero zero h k = a
    go zero (suc zero) h k = b
    go (suc zero) zero h k = c
    go (suc zero) (suc zero) h k = d
    go (suc (suc x)) y h k = absurd (omega arith)
    go zero (suc (suc y)) h k = absurd (omega arith)
    go (suc zero) (suc (suc y)) h k = absurd (omega arith)

by_class : (P : ℕ → Type 0) → P 0 → P 1 → P 2 → P 3 → (t : Term) → P (class_of t)
by_class P a b c d (term _ i j) = by_parities (λ x y. P (x * 2 + y)) a b c d i j

-- ---- how large
-- a sum that is stored is as large as it was
stored : (l : List ℤ) (n : ℕ) (y : ℤ) → nat_abs (get_or (set l n y) n (pos 0)) ≤ nat_abs y
stored [] n y = zero-le
stored (x ∷ xs) zero y = le_refl (nat_abs y)
stored (x ∷ xs) (suc n) y = stored xs n y

-- of the four no one is larger than all
pub in_spread : (sums : List ℤ) (n : ℕ) → n < 4 → nat_abs (get_or sums n (pos 0)) ≤ spread sums
in_spread sums zero h = omega arith
in_spread sums (suc zero) h = omega arith
in_spread sums (suc (suc zero)) h = omega arith
in_spread sums (suc (suc (suc zero))) h = omega arith
in_spread sums (suc (suc (suc (suc n)))) h = absurd (omega arith)

module _ (pu pv : List ℤ) where
  spread_next : (sums : List ℤ) (t : Term) → spread (with_term sums t pu pv) ≤ spread sums + size t pu pv
  spread_next sums t =
      subst (λ (m : ℕ). spread (with_term sums t pu pv) ≤ spread sums + m) (size_is t pu pv)
      (by_class (λ n. spread (more n) ≤ spread sums + nat_abs v)
      (omega (arith, grown 0, kept 0 1 (omega arith), kept 0 2 (omega arith), kept 0 3 (omega arith)))
      (omega (arith, grown 1, kept 1 0 (omega arith), kept 1 2 (omega arith), kept 1 3 (omega arith)))
      (omega (arith, grown 2, kept 2 0 (omega arith), kept 2 1 (omega arith), kept 2 3 (omega arith)))
      (omega (arith, grown 3, kept 3 0 (omega arith), kept 3 1 (omega arith), kept 3 2 (omega arith)))
      t)
    where
      v : ℤ
      v = value t pu pv

      more : ℕ → List ℤ
      more n = set sums n (get_or sums n (pos 0) +ℤ v)

      grown : (n : ℕ) → nat_abs (get_or (more n) n (pos 0)) ≤ nat_abs (get_or sums n (pos 0)) + nat_abs v
      grown n = le_trans (stored sums n (get_or sums n (pos 0) +ℤ v)) (abs-+ (get_or sums n (pos 0)) v)

      kept : (n k : ℕ) → k ≢ n → nat_abs (get_or (more n) k (pos 0)) ≡ nat_abs (get_or sums k (pos 0))
      kept n k h = ap nat_abs (get_or-set_other sums n k (get_or sums n (pos 0) +ℤ v) (pos 0) h)

  pub spread_after : (sums : List ℤ) (ts : List Term) → spread (class_sums sums ts pu pv) ≤ spread sums + sizes ts pu pv
  unfolding class_sums sizes
  spread_after sums [] = omega arith
  spread_after sums (t ∷ ts) =
      omega (arith, spread_after (with_term sums t pu pv) ts, spread_next sums t, sizes_first pu pv t ts)

  -- ---- room for a term, and for a part of a table, with what is left
  pub room_next : (sums : List ℤ) (t : Term) (ts : List Term) → RoomFrom sums (t ∷ ts) pu pv → RoomFrom (with_term sums t pu pv) ts pu pv
  unfolding EachFits
  room_next sums t ts r = record { each = r.each.1; within = omega (arith, spread_next sums t, sizes_first pu pv t ts, r.within) }

  fits_front : (a b : List code.Term) → EachFits (terms (a ++ b)) pu pv → EachFits (terms a) pu pv
  unfolding EachFits
  fits_front [] b e = tt
  fits_front (t ∷ a) b e = (e.0, fits_front a b e.1)

  sizes_front : (a b : List code.Term) → sizes (terms a) pu pv ≤ sizes (terms (a ++ b)) pu pv
  unfolding sizes
  sizes_front [] b = zero-le
  sizes_front (t ∷ a) b = omega (arith, sizes_first pu pv (coded t) (terms a), sizes_first pu pv (coded t) (terms (a ++ b)), sizes_front a b)

  pub room_front : (sums : List ℤ) (a b : List code.Term) → RoomFrom sums (terms (a ++ b)) pu pv → RoomFrom sums (terms a) pu pv
  room_front sums a b r = record { each = fits_front a b r.each; within = omega (arith, sizes_front a b, r.within) }

  pub room_back : (sums : List ℤ) (a b : List code.Term) → RoomFrom sums (terms (a ++ b)) pu pv → RoomFrom (class_sums sums (terms a) pu pv) (terms b) pu pv
  unfolding class_sums
  room_back sums [] b r = r
  room_back sums (t ∷ a) b r = room_back (with_term sums (coded t) pu pv) a b (room_next sums (coded t) (terms (a ++ b)) r)

  pub sums_back : (sums : List ℤ) (a b : List code.Term) → class_sums sums (terms (a ++ b)) pu pv ≡ class_sums (class_sums sums (terms a) pu pv) (terms b) pu pv
  unfolding class_sums
  sums_back sums [] b = refl
  sums_back sums (t ∷ a) b = sums_back (with_term sums (coded t) pu pv) a b

-- ---- the sum of all
-- what holds of any four numbers
by_four : (P : List ℤ → Type 0) → ((p q r s : ℤ) → P (p ∷ q ∷ r ∷ s ∷ [])) → (sums : List ℤ) → length sums ≡ 4 → P sums
by_four P f (p ∷ q ∷ r ∷ s ∷ []) h = f p q r s
by_four P f [] h = absurd (omega arith)
by_four P f (p ∷ []) h = absurd (omega arith)
by_four P f (p ∷ q ∷ []) h = absurd (omega arith)
by_four P f (p ∷ q ∷ r ∷ []) h = absurd (omega arith)
by_four P f (p ∷ q ∷ r ∷ s ∷ t ∷ rest) h = absurd (omega arith)

pub joined_size : (a b : Bool) (sums : List ℤ) → nat_abs (joined a b sums) ≤ spread sums
joined_size a b sums =
    let p = get_or sums 0 (pos 0) in
    let q = with_sign b (get_or sums 1 (pos 0)) in
    let r = with_sign a (get_or sums 2 (pos 0)) in
    let s = with_sign (cond a (not b) b) (get_or sums 3 (pos 0)) in
    omega (
      arith,
      abs-+ (p +ℤ q +ℤ r) s,
      abs-+ (p +ℤ q) r,
      abs-+ p q,
      with_size b (get_or sums 1 (pos 0)),
      with_size a (get_or sums 2 (pos 0)),
      with_size (cond a (not b) b) (get_or sums 3 (pos 0)),
    )

-- at u and v, by the powers of their sizes
module _ (u v : ℤ) where
  abbrev a : Bool
  a = lt_z u (pos 0)

  abbrev b : Bool
  b = lt_z v (pos 0)

  abbrev pu : List ℤ
  pu = powers_of scale u 10

  abbrev pv : List ℤ
  pv = powers_of scale v 10

  -- the sign of a term, by whether its powers are odd
  abbrev sign : ℕ → ℕ → Bool
  sign x y = cond (eqb x 1 && a) (not (eqb y 1 && b)) (eqb y 1 && b)

  at : (u : ℤ) (i : ℕ) → i < 10 → get_or (powers_of scale u 10) i (pos 0) ≡ with_sign (eqb (i % 2) 1 && lt_z u (pos 0)) (get_or (size_powers u) i (pos 0))
  at u i h =
      powers_at scale u (pos 0) 10 i h
      ∙ power_by_size scale u i
      ∙ ap (with_sign (eqb (i % 2) 1 && lt_z u (pos 0))) (sym (powers_at scale (pos (nat_abs u)) (pos 0) 10 i h))

  round_with : (below : Bool) (x : ℤ) → round_div (with_sign below x) scale ≡ with_sign below (round_div x scale)
  round_with true x = round_neg x scale
  round_with false x = refl

  term_by_size : (c : ℤ) (i j : ℕ) → i < 10 → j < 10 → value (term c i j) pu pv ≡ with_sign (sign (i % 2) (j % 2)) (value (term c i j) (size_powers u) (size_powers v))
  term_by_size c i j h k =
      ap (λ (x : ℤ). c *ℤ x)
      ((λ n. round_div (at u i h n *ℤ at v j k n) scale)
      ∙ ap (λ (x : ℤ). round_div x scale) (with-* (eqb (i % 2) 1 && a) (eqb (j % 2) 1 && b) (get_or (size_powers u) i (pos 0)) (get_or (size_powers v) j (pos 0)))
      ∙ round_with (sign (i % 2) (j % 2)) (get_or (size_powers u) i (pos 0) *ℤ get_or (size_powers v) j (pos 0)))
      ∙ with-* false (sign (i % 2) (j % 2)) c (product scale i j (size_powers u) (size_powers v))

  -- a term is in one class, whose sign it has
  joined_next : (sums : List ℤ) → length sums ≡ 4 → (x : ℤ) (i j : ℕ)
      → joined a b (set sums (i % 2 * 2 + j % 2) (get_or sums (i % 2 * 2 + j % 2) (pos 0) +ℤ x)) ≡ with_sign (sign (i % 2) (j % 2)) x +ℤ joined a b sums
  joined_next =
      by_four (λ sums. (x : ℤ) (i j : ℕ) → joined a b (set sums (i % 2 * 2 + j % 2) (get_or sums (i % 2 * 2 + j % 2) (pos 0) +ℤ x)) ≡ with_sign (sign (i % 2) (j % 2)) x +ℤ joined a b sums)
      (λ p q r s x.
      by_parities
      (λ m n. joined a b (set (p ∷ q ∷ r ∷ s ∷ []) (m * 2 + n) (get_or (p ∷ q ∷ r ∷ s ∷ []) (m * 2 + n) (pos 0) +ℤ x)) ≡ with_sign (sign m n) x +ℤ joined a b (p ∷ q ∷ r ∷ s ∷ []))
      (first p x (with_sign b q) (with_sign a r) (with_sign (cond a (not b) b) s))
      ((λ i. p +ℤ with-+ b q x i +ℤ with_sign a r +ℤ with_sign (cond a (not b) b) s)
      ∙ second p (with_sign b q) (with_sign b x) (with_sign a r) (with_sign (cond a (not b) b) s))
      ((λ i. p +ℤ with_sign b q +ℤ with-+ a r x i +ℤ with_sign (cond a (not b) b) s)
      ∙ third p (with_sign b q) (with_sign a r) (with_sign a x) (with_sign (cond a (not b) b) s)
      ∙ (λ i. with_sign (so a i) x +ℤ (p +ℤ with_sign b q +ℤ with_sign a r +ℤ with_sign (cond a (not b) b) s)))
      ((λ i. p +ℤ with_sign b q +ℤ with_sign a r +ℤ with-+ (cond a (not b) b) s x i)
      ∙ fourth p (with_sign b q) (with_sign a r) (with_sign (cond a (not b) b) s) (with_sign (cond a (not b) b) x)))
    where
      so : (t : Bool) → t ≡ cond t true false
      so true = refl
      so false = refl

      first : (p x q r s : ℤ) → p +ℤ x +ℤ q +ℤ r +ℤ s ≡ x +ℤ (p +ℤ q +ℤ r +ℤ s)
      first p x q r s = rw (by_diff p, by_diff x, by_diff q, by_diff r, by_diff s) (simp ring (diff_cong _ _ _ _ (omega arith)))

      second : (p q x r s : ℤ) → p +ℤ (q +ℤ x) +ℤ r +ℤ s ≡ x +ℤ (p +ℤ q +ℤ r +ℤ s)
      second p q x r s = rw (by_diff p, by_diff x, by_diff q, by_diff r, by_diff s) (simp ring (diff_cong _ _ _ _ (omega arith)))

      third : (p q r x s : ℤ) → p +ℤ q +ℤ (r +ℤ x) +ℤ s ≡ x +ℤ (p +ℤ q +ℤ r +ℤ s)
      third p q r x s = rw (by_diff p, by_diff x, by_diff q, by_diff r, by_diff s) (simp ring (diff_cong _ _ _ _ (omega arith)))

      fourth : (p q r s x : ℤ) → p +ℤ q +ℤ r +ℤ (s +ℤ x) ≡ x +ℤ (p +ℤ q +ℤ r +ℤ s)
      fourth p q r s x = rw (by_diff p, by_diff x, by_diff q, by_diff r, by_diff s) (simp ring (diff_cong _ _ _ _ (omega arith)))

  joined_after : (sums : List ℤ) → length sums ≡ 4 → (ts : List Term) → EachFits ts (size_powers u) (size_powers v) → joined a b (class_sums sums ts (size_powers u) (size_powers v)) ≡ sum scale ts pu pv +ℤ joined a b sums
  unfolding sum class_sums EachFits
  joined_after sums h [] e = sym (+ℤ_idl (joined a b sums))
  joined_after sums h (term c i j ∷ ts) e =
      joined_after (with_term sums (term c i j) (size_powers u) (size_powers v)) (length-set sums (class_of (term c i j)) _ ∙ h) ts e.1
      ∙ ap (λ (x : ℤ). sum scale ts pu pv +ℤ x) (joined_next sums h (value (term c i j) (size_powers u) (size_powers v)) i j ∙ ap (λ (x : ℤ). x +ℤ joined a b sums) (sym (term_by_size c i j e.0.0 e.0.1)))
      ∙ sym (+ℤ_assoc (sum scale ts pu pv) (value (term c i j) pu pv) (joined a b sums))
      ∙ ap (λ (x : ℤ). x +ℤ joined a b sums) (+ℤ_comm (sum scale ts pu pv) (value (term c i j) pu pv))

  pub sum_joined : (ts : List Term) → EachFits ts (size_powers u) (size_powers v) → sum scale ts pu pv ≡ joined a b (class_sums no_sums ts (size_powers u) (size_powers v))
  sum_joined ts e =
      sym
      (joined_after no_sums refl ts e
      ∙ (λ i. sum scale ts pu pv +ℤ (pos 0 +ℤ with_none b i +ℤ with_none a i +ℤ with_none (cond a (not b) b) i))
      ∙ +ℤ_idr (sum scale ts pu pv))

  -- and how large it is
  pub sum_spread : (ts : List Term) → EachFits ts (size_powers u) (size_powers v) → nat_abs (sum scale ts pu pv) ≤ sizes ts (size_powers u) (size_powers v)
  sum_spread ts e =
      rw (sum_joined ts e)
      (omega (
        arith,
        joined_size a b (class_sums no_sums ts (size_powers u) (size_powers v)),
        spread_after (size_powers u) (size_powers v) no_sums ts,
      ))
