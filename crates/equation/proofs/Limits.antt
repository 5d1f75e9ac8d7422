-- The limits of a table: what one computed test shows of its sum at every u and v within limits. Assumes nothing.
use mathlib.Core.Bool.{Bool, true, ◌&&◌}
use mathlib.Core.List.{List, [], ◌∷◌}
use Prim.Native.Nat.{ℕ, ◌+◌, ◌*◌, ◌<◌, ◌≤◌, ◌^◌, zero-le}
use native.Mathlib.Nat.{le_refl, le_trans, lt_of_le_of_lt, add-le-add, mul-le-mul}
use lib.Dec.{T, ltb, ltb→lt, lit<}
use lib.ListN.{get_or}
use lib.IntN.{ℤ, pos, nat_abs}
use lib.Signed.{non_neg}
use mir.Facts.{and_yes}
use Rattle.whole.specs.Round.{round_half_up, scale}
use Rattle.whole.proofs.Sizes.{abs-*-≤, abs_round}
use Rattle.whole.proofs.Rounding.{half_up_mono, product_size}
use Rattle.equation.specs.Powers.{powers_of}
use Rattle.equation.specs.Equation.{Term, term, among_ten, product, equation_of}
use Rattle.equation.specs.Room.{Fitting, EachFits, sizes, Room}
use Rattle.equation.specs.Inside.{size_powers}
use Rattle.equation.proofs.Steps.{limit, power_size, power_pos, powers_at}
use Rattle.equation.proofs.Classes.{sum_spread}

-- ---- the test, of the limits mu of u and mv of v
-- a term's powers are among the ten, and 64 bits hold what is divided
abbrev term_keeps : ℕ → ℕ → Term → Bool
term_keeps mu mv (term c i j) = among_ten (term c i j) && ltb (limit scale mu i * limit scale mv j) 9223372036854775808

abbrev terms_keep : ℕ → ℕ → List Term → Bool
terms_keep mu mv [] = true
terms_keep mu mv (t ∷ ts) = term_keeps mu mv t && terms_keep mu mv ts

-- the largest that the terms' sizes come to
abbrev reach : ℕ → ℕ → List Term → ℕ
reach mu mv [] = 0
reach mu mv (term c i j ∷ ts) = nat_abs c * round_half_up (limit scale mu i * limit scale mv j) scale + reach mu mv ts

-- 64 bits hold the sum, and 4 bytes what is left of it once divided
abbrev pub keeps : ℕ → ℕ → ℕ → List Term → Bool
keeps divisor mu mv ts = terms_keep mu mv ts && (ltb (reach mu mv ts) 9223372036854775808 && ltb (round_half_up (reach mu mv ts) divisor) 2147483648)

-- ---- what it shows
module _ {mu mv : ℕ} (u v : ℤ) (hu : nat_abs u ≤ mu) (hv : nat_abs v ≤ mv) where
  abbrev pu : List ℤ
  pu = size_powers u

  abbrev pv : List ℤ
  pv = size_powers v

  at : (u : ℤ) {m : ℕ} → nat_abs u ≤ m → (i : ℕ) → i < 10 → nat_abs (get_or (size_powers u) i (pos 0)) ≤ limit scale m i
  at u h i k = rw (powers_at scale (pos (nat_abs u)) (pos 0) 10 i k) (power_size scale (lit< tt) (pos (nat_abs u)) h i)

  at_u : (i : ℕ) → i < 10 → nat_abs (get_or pu i (pos 0)) ≤ limit scale mu i
  at_u = at u hu

  at_v : (j : ℕ) → j < 10 → nat_abs (get_or pv j (pos 0)) ≤ limit scale mv j
  at_v = at v hv

  not_negative : (u : ℤ) (i : ℕ) → i < 10 → T (non_neg (get_or (size_powers u) i (pos 0)))
  not_negative u i h = rw (powers_at scale (pos (nat_abs u)) (pos 0) 10 i h, power_pos scale (nat_abs u) i) tt

  term_fits : (t : Term) → T (term_keeps mu mv t) → Fitting t pu pv
  term_fits (term c i j) h =
      let a = and_yes (among_ten (term c i j)) (ltb (limit scale mu i * limit scale mv j) 9223372036854775808) h in
      let b = and_yes (ltb i 10) (ltb j 10) a.0 in
      let i-low = ltb→lt i 10 b.0 in
      let j-low = ltb→lt j 10 b.1 in (
        i-low,
        j-low,
        not_negative u i i-low,
        not_negative v j j-low,
        lt_of_le_of_lt (abs-*-≤ (get_or pu i (pos 0)) (get_or pv j (pos 0)) (at_u i i-low) (at_v j j-low))
            (ltb→lt (limit scale mu i * limit scale mv j) 9223372036854775808 a.1),
      )

  size_reach : (c : ℤ) (i j : ℕ) → Fitting (term c i j) pu pv → nat_abs c * nat_abs (product scale i j pu pv) ≤ nat_abs c * round_half_up (limit scale mu i * limit scale mv j) scale
  size_reach c i j f =
      mul-le-mul (le_refl (nat_abs c)) (product_size (get_or pu i (pos 0)) (get_or pv j (pos 0)) (lit< tt) (at_u i f.0) (at_v j f.1))

  terms_fit : (ts : List Term) → T (terms_keep mu mv ts) → EachFits ts pu pv
  unfolding EachFits
  terms_fit [] h = tt
  terms_fit (t ∷ ts) h =
      let a = and_yes (term_keeps mu mv t) (terms_keep mu mv ts) h in
      (term_fits t a.0, terms_fit ts a.1)

  sizes_reach : (ts : List Term) → EachFits ts pu pv → sizes ts pu pv ≤ reach mu mv ts
  unfolding EachFits sizes
  sizes_reach [] e = zero-le
  sizes_reach (term c i j ∷ ts) e = add-le-add (size_reach c i j e.0) (sizes_reach ts e.1)

  module _ (divisor : ℕ) (ts : List Term) (h : T (keeps divisor mu mv ts)) where
    abbrev in_64_bits : Bool
    in_64_bits = ltb (reach mu mv ts) 9223372036854775808

    abbrev in_4_bytes : Bool
    in_4_bytes = ltb (round_half_up (reach mu mv ts) divisor) 2147483648

    fit : EachFits ts pu pv
    fit = terms_fit ts (and_yes (terms_keep mu mv ts) (in_64_bits && in_4_bytes) h).0

    sums : T in_64_bits × T in_4_bytes
    sums = and_yes in_64_bits in_4_bytes (and_yes (terms_keep mu mv ts) (in_64_bits && in_4_bytes) h).1

    -- no number on the way passes 64 bits
    pub room : Room ts pu pv
    room = record {
      each = fit;
      within = lt_of_le_of_lt (sizes_reach ts fit) (ltb→lt (reach mu mv ts) 9223372036854775808 sums.0);
    }

    -- and the answer fits 4 bytes
    pub in_four_bytes : 0 < divisor → nat_abs (equation_of divisor ts (powers_of scale u 10) (powers_of scale v 10)) < 2 ^ 31
    in_four_bytes p =
        lt_of_le_of_lt (rw abs_round (half_up_mono p (le_trans (sum_spread u v ts fit) (sizes_reach ts fit))))
        (ltb→lt (round_half_up (reach mu mv ts) divisor) 2147483648 sums.1)
