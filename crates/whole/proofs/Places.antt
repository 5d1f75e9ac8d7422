-- A number in places of a base, and the number that places say, at any base and width. Assumes nothing.
use mathlib.Core.Path.{◌≡◌, refl, sym, ap, ◌∙◌}
use mathlib.Core.Bool.{true}
use mathlib.Core.List.{List, [], ◌∷◌}
use Prim.Native.Nat.{ℕ, zero, suc, ◌+◌, ◌*◌, ◌/◌, ◌%◌, ◌<◌, ◌^◌}
use native.Mathlib.Nat.{pow-zero, pow-suc, mod-lt, mod-eq_of_lt, mod-one, div-add-mod', div-eq_of_lt, mul-add-div_right, mul-add-mod_self_right, mul-le-mul_right}
use native.Mathlib.Omega.{arith}
use lib.Dec.{ltb}
use lib.ListN.{length}
use borrow.Author.Tests.{ltb-true, lt-ltb}
use Rattle.whole.specs.Every.{every}
use Rattle.whole.specs.Places.{from_places, in_places}
use Rattle.whole.proofs.Bools.{both, joined}

pub in_places_long : (base w n : ℕ) → length (in_places base w n) ≡ w
unfolding in_places
in_places_long base zero n = refl
in_places_long base (suc w) n = ap suc (in_places_long base w n)

module _ (base : ℕ) (some : 0 < base) where
  power_pos : (w : ℕ) → 0 < base ^ w
  power_pos zero = omega (arith, pow-zero base)
  power_pos (suc w) = omega (arith, power_pos w, pow-suc base w, mul-le-mul_right (base ^ w) some)

  -- the place where base ^ w is D, and what is below it
  at_place : (n D : ℕ) → 0 < D → n / D % base * D + n % D ≡ n % (D * base)
  at_place n D h =
      sym (mod-eq_of_lt (omega (arith, mod-lt n h, mul-le-mul_right D (mod-lt (n / D) some))))
      ∙ sym (mul-add-mod_self_right (n / D / base) (D * base) (n / D % base * D + n % D))
      ∙ ap (λ (m : ℕ). m % (D * base)) (omega (arith, div-add-mod' n D, ap (λ (q : ℕ). q * D) (div-add-mod' (n / D) base)))

  -- ---- a number in places
  pub places_below : (w n : ℕ) → every (λ place. ltb place base) (in_places base w n) ≡ true
  unfolding in_places
  places_below zero n = refl
  places_below (suc w) n = joined (lt-ltb (n / base ^ w % base) base (mod-lt (n / base ^ w) some)) (places_below w n)

  -- its places say it, as far as they go
  from_in : (w n : ℕ) → from_places base (in_places base w n) ≡ n % base ^ w
  unfolding in_places from_places
  from_in zero n = sym (ap (λ (m : ℕ). n % m) (pow-zero base) ∙ mod-one n)
  from_in (suc w) n = simp (in_places_long base w n, from_in w n, at_place n (base ^ w) (power_pos w), pow-suc base w)

  pub from_in_places : (w n : ℕ) → n < base ^ w → from_places base (in_places base w n) ≡ n
  from_in_places w n h = from_in w n ∙ mod-eq_of_lt h

  -- ---- the number that places say
  pub from_below : (s : List ℕ) → every (λ place. ltb place base) s ≡ true → from_places base s < base ^ length s
  unfolding from_places
  from_below [] h = omega (arith, pow-zero base)
  from_below (b ∷ s) h =
      let p = both (ltb b base) (every (λ place. ltb place base) s) h in
      omega (arith, from_below s p.1, mul-le-mul_right (base ^ length s) (ltb-true b base p.0), pow-suc base (length s))

  -- a place before them is no matter
  more : (w a n : ℕ) → in_places base w (a * base ^ w + n) ≡ in_places base w n
  unfolding in_places
  more zero a n = refl
  more (suc w) a n =
      let e : a * base ^ suc w + n ≡ a * base * base ^ w + n = omega (arith, ap (λ (p : ℕ). a * p) (pow-suc base w)) in
      simp (e, mul-add-div_right (power_pos w) (a * base) n, mul-add-mod_self_right a base (n / base ^ w), more w (a * base) n)

  -- said in as many places, it is these places
  pub in_from_places : (s : List ℕ) → every (λ place. ltb place base) s ≡ true → in_places base (length s) (from_places base s) ≡ s
  unfolding in_places from_places
  in_from_places [] h = refl
  in_from_places (b ∷ s) h =
      let p = both (ltb b base) (every (λ place. ltb place base) s) h in
      let below : b < base = ltb-true b base p.0 in
      let e : (b * base ^ length s + from_places base s) / base ^ length s ≡ b = mul-add-div_right (power_pos (length s)) b (from_places base s) ∙ omega (arith, div-eq_of_lt (from_below s p.1)) in
      simp (e, mod-eq_of_lt below, more (length s) b (from_places base s), in_from_places s p.1)
