-- The powers: which stands where, how large it can be, and its sign. Assumes nothing.
use mathlib.Core.Path.{◌≡◌, refl, sym, ap, ◌∙◌}
use mathlib.Core.Bool.{Bool, true, false, not, ◌&&◌}
use mathlib.Core.List.{[], ◌∷◌, ◌++◌}
use Prim.Native.Nat.{ℕ, zero, suc, ◌+◌, ◌*◌, ◌%◌, ◌<◌, ◌≤◌, zero-le}
use native.Mathlib.Nat.{le_refl, mul-le-mul, not-suc-le-zero}
use native.Mathlib.Numerals.{add-one}
use native.Mathlib.Omega.{arith}
use lib.Dec.{ltb, eqb}
use borrow.Author.Tests.{ltb-true, ltb-false, le-ltb}
use lib.ListN.{length, get_or, length-append, get_or-append}
use lib.Seq.{get_or_at}
use lib.IntN.{ℤ, pos, negsuc, nat_abs, ◌*ℤ◌}
use lib.Signed.{non_neg, lt_z}
use Rattle.whole.specs.Round.{round_half_up, round_div}
use Rattle.whole.specs.Sign.{with_sign}
use Rattle.whole.proofs.Signs.{signed, alike, by_sign, signed-*, signed_round, signed_with}
use Rattle.whole.proofs.Rounding.{half_up_mono, product_size}
use Rattle.equation.specs.Powers.{power, powers_of}

-- the sign of the nth power, of a number whose sign is s: below zero the odd ones are below zero, and no other
abbrev sign : Bool → ℕ → Bool
sign s zero = true
sign s (suc n) = alike (sign s n) s

above : (n : ℕ) → sign true n ≡ true
above zero = refl
above (suc n) = ap (λ (s : Bool). alike s true) (above n)

sign_is : (u : ℤ) (n : ℕ) → sign (non_neg u) n ≡ not (eqb (n % 2) 1 && lt_z u (pos 0))
sign_is (pos a) n = above n ∙ sym (never (eqb (n % 2) 1)) ∙ ap (λ (t : Bool). not (eqb (n % 2) 1 && t)) (sym (le-ltb a 0 zero-le))
  where
    never : (t : Bool) → not (t && false) ≡ true
    never true = refl
    never false = refl
sign_is (negsuc a) n = below n ∙ ap not (sym (still (eqb (n % 2) 1)))
  where
    still : (t : Bool) → (t && true) ≡ t
    still true = refl
    still false = refl

    twice : (s : Bool) → alike (alike s false) false ≡ s
    twice true = refl
    twice false = refl

    same : (n : ℕ) → n % 2 ≡ suc (suc n) % 2
    same n = omega arith

    below : (n : ℕ) → sign false n ≡ not (eqb (n % 2) 1)
    below zero = refl
    below (suc zero) = refl
    below (suc (suc n)) = twice (sign false n) ∙ below n ∙ ap (λ (m : ℕ). not (eqb m 1)) (same n)

module _ (scale : ℕ) where
  -- ---- which stands where
  pub power_next : (u : ℤ) (n : ℕ) → 1 ≤ n → power scale u (n + 1) ≡ round_div (power scale u n *ℤ u) scale
  unfolding power
  power_next u zero h = absurd (not-suc-le-zero h)
  power_next u (suc n) h = ap (power scale u) (add-one (suc n))

  pub length_powers : (u : ℤ) (n : ℕ) → length (powers_of scale u n) ≡ n
  unfolding powers_of
  length_powers u zero = refl
  length_powers u (suc n) = length-append (powers_of scale u n) (power scale u n ∷ []) ∙ ap (λ (m : ℕ). m + 1) (length_powers u n) ∙ add-one n

  pub powers_at : (u d : ℤ) (n k : ℕ) → k < n → get_or (powers_of scale u n) k d ≡ power scale u k
  unfolding powers_of
  powers_at u d zero k h = absurd (not-suc-le-zero h)
  powers_at u d (suc n) k h = go (λ l. powers_at u d n k l) (ltb k n) refl
    where
      go : (k < n → get_or (powers_of scale u n) k d ≡ power scale u k) → (t : Bool) → ltb k n ≡ t → get_or (powers_of scale u n ++ (power scale u n ∷ [])) k d ≡ power scale u k
      go ih true e = get_or-append (powers_of scale u n) (power scale u n ∷ []) d k (omega (arith, ltb-true k n e, length_powers u n)) ∙ ih (ltb-true k n e)
      go ih false e =
          let same : n ≡ k = omega (arith, ltb-false k n e) in
          get_or_at (powers_of scale u n) (power scale u n) [] d k (length_powers u n ∙ same) ∙ ap (power scale u) same

  -- ---- how large it can be
  -- the largest size of the nth power, of a number whose size is at most m
  abbrev pub limit : ℕ → ℕ → ℕ
  limit m zero = scale
  limit m (suc zero) = m
  limit m (suc (suc n)) = round_half_up (limit m (suc n) * m) scale

  pub power_size : 0 < scale → (u : ℤ) {m : ℕ} → nat_abs u ≤ m → (n : ℕ) → nat_abs (power scale u n) ≤ limit m n
  unfolding power
  power_size p u h zero = le_refl scale
  power_size p u h (suc zero) = h
  power_size p u h (suc (suc n)) = product_size (power scale u (suc n)) u p (power_size p u h (suc n)) h

  pub limit_next : (m n : ℕ) → 1 ≤ n → limit m (n + 1) ≡ round_half_up (limit m n * m) scale
  limit_next m zero h = absurd (not-suc-le-zero h)
  limit_next m (suc n) h = ap (limit m) (add-one (suc n))

  pub limit_mono : 0 < scale → {a b : ℕ} → a ≤ b → (n : ℕ) → limit a n ≤ limit b n
  limit_mono p h zero = le_refl scale
  limit_mono p h (suc zero) = h
  limit_mono p h (suc (suc n)) = half_up_mono p (mul-le-mul (limit_mono p h (suc n)) h)

  -- ---- a power by its sign and its size
  power_signed : (u : ℤ) (n : ℕ) → power scale u n ≡ signed (sign (non_neg u) n) (limit (nat_abs u) n)
  unfolding power
  power_signed u zero = refl
  power_signed u (suc zero) = by_sign u
  power_signed u (suc (suc n)) = (λ i. round_div (power_signed u (suc n) i *ℤ by_sign u i) scale) ∙ simp (signed-*, signed_round)

  pub power_pos : (m n : ℕ) → power scale (pos m) n ≡ pos (limit m n)
  power_pos m n = power_signed (pos m) n ∙ ap (λ (s : Bool). signed s (limit m n)) (above n)

  -- where u is below zero the odd powers are, and no other
  pub power_by_size : (u : ℤ) (n : ℕ) → power scale u n ≡ with_sign (eqb (n % 2) 1 && lt_z u (pos 0)) (power scale (pos (nat_abs u)) n)
  power_by_size u n =
      power_signed u n
      ∙ ap (λ (s : Bool). signed s (limit (nat_abs u) n)) (sign_is u n)
      ∙ signed_with (eqb (n % 2) 1 && lt_z u (pos 0)) (limit (nat_abs u) n)
      ∙ ap (with_sign (eqb (n % 2) 1 && lt_z u (pos 0))) (sym (power_pos (nat_abs u) n))
