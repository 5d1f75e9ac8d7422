-- How far the answer of an equation can be from its exact value: one computed test, and the one theorem about it, over any
-- table, any limits of u and v, any scale, any last divisor and any bound. The test is in `Budget`. Assumes nothing.
use mathlib.Core.Path.{◌≡◌, refl, sym, ap, ◌∙◌, subst}
use mathlib.Core.Bool.{Bool, true, false, ◌&&◌}
use mathlib.Core.List.{List, [], ◌∷◌}
use Prim.Native.Nat.{ℕ, zero, suc, ◌+◌, ◌-◌, ◌*◌, ◌/◌, ◌≤◌, ◌<◌}
use native.Mathlib.Nat.{le_trans, le_of_lt, lt-mul-div-succ, mul-pos, mul-le-mul_left, mul-le-mul_right}
use lib.Dec.{T, leb→le, le→leb, ltb, ltb→lt, lit<}
use lib.IntN.{ℤ, pos, nat_abs, ◌*ℤ◌, *ℤ_comm}
use mir.Facts.{and_yes}
use Rattle.whole.specs.Round.{round_div, scale}
use Rattle.whole.proofs.Bools.{three}
use Rattle.whole.proofs.Rounding.{round_exact}
use Rattle.equation.specs.Powers.{power, powers_of}
use Rattle.equation.specs.Equation.{Term, term, among_ten, product, sum}
use Rattle.equation.specs.Exact.{Fraction, ◌over◌, ◌times◌, ◌to_the◌, exact_of, Within, Beyond}
use Rattle.equation.proofs.Steps.{limit, power_size, powers_at}
use Rattle.equation.proofs.Budget.{in_ten, product_error, power_error, term_error, sum_error, divisors, at_most}
use Rattle.equation.proofs.Fractions.{exact_proper}
pub use Rattle.equation.proofs.Budget.{bounded}
use Rattle.equation.proofs.Nearness.{Near, near_zero, near_one, near_one_times, near_times_one, near_quotient, near_product, near_sum, near_answer}

-- what passes with a bound passes with a larger one
pub bounded_wider : (s fine du dv divisor mu mv n : ℕ) {g h : ℕ} (ts : List Term) → g ≤ h → T (bounded s fine du dv divisor mu mv g n ts) → T (bounded s fine du dv divisor mu mv h n ts)
bounded_wider s fine du dv divisor mu mv n {g} {h} ts l test =
    let t = and_yes (divisors s fine du dv divisor) (in_ten ts && at_most s fine divisor mu mv g n ts) test in
    let r = and_yes (in_ten ts) (at_most s fine divisor mu mv g n ts) t.1 in
    joined (divisors s fine du dv divisor) (in_ten ts && at_most s fine divisor mu mv h n ts) t.0
    (joined (in_ten ts) (at_most s fine divisor mu mv h n ts) r.0
    (le→leb error (2 * divisor * h * fine)
    (le_trans (leb→le error (2 * divisor * g * fine) r.1) (mul-le-mul_right fine (mul-le-mul_left (2 * divisor) l)))))
  where
    error : ℕ
    error = n * (fine * divisor + 2 * sum_error s fine mu mv ts)

    joined : (a b : Bool) → T a → T b → T (a && b)
    joined true b h k = k
    joined false b h k = absurd h

-- ---- what it shows
above : (n : ℕ) {m : ℕ} → 0 < m → n ≤ m * (n / m + 1)
above n h = le_of_lt (lt-mul-div-succ n h)

module _ {s fine : ℕ} (hs : 0 < s) (hfine : 0 < fine) where
  -- a product of numbers of known sizes
  multiplied : {x y : ℤ} {f g : Fraction} {e d : ℕ} (m n : ℕ) → nat_abs x ≤ m → nat_abs y ≤ n → Near s fine x f e → Near s fine y g d → Near s fine (round_div (x *ℤ y) s) (f times g) (product_error s fine e d m n)
  multiplied {e = e} {d = d} m n hm hn hx hy =
      near_product hs hfine m n (product_error s fine e d m n) hm hn (above (fine * fine * s + 2 * (fine * (e * n + m * d) + e * d)) (mul-pos (mul-pos (lit< tt) hfine) hs)) hx hy

  -- a power
  raised : {u : ℤ} {f : Fraction} {m : ℕ} → nat_abs u ≤ m → Near s fine u f (fine - fine / 2) → (n : ℕ) → Near s fine (power s u n) (f to_the n) (power_error s fine m n)
  unfolding power ◌to_the◌
  raised h near zero = near_one
  raised h near (suc zero) = near_one_times near
  raised {u} {f} {m} h near (suc (suc n)) = multiplied (limit s m (suc n)) m (power_size s hs u h (suc n)) h (raised h near (suc n)) near

  module _ {mu mv : ℕ} {u v : ℤ} {f g : Fraction} (hu : nat_abs u ≤ mu) (hv : nat_abs v ≤ mv) (near-u : Near s fine u f (fine - fine / 2)) (near-v : Near s fine v g (fine - fine / 2)) where
    -- a term's product
    term_near : (i j : ℕ) → Near s fine (round_div (power s u i *ℤ power s v j) s) (f to_the i times g to_the j) (term_error s fine mu mv i j)
    unfolding power ◌to_the◌
    term_near zero j =
        subst (λ (x : ℤ). Near s fine x (f to_the 0 times g to_the j) (power_error s fine mv j)) (sym (ap (λ (x : ℤ). round_div x s) (*ℤ_comm (pos s) (power s v j)) ∙ round_exact (power s v j) hs))
        (near_one_times (raised hv near-v j))
    term_near (suc i) zero =
        subst (λ (x : ℤ). Near s fine x (f to_the (suc i) times g to_the 0) (power_error s fine mu (suc i))) (sym (round_exact (power s u (suc i)) hs))
        (near_times_one (raised hu near-u (suc i)))
    term_near (suc i) (suc j) =
        multiplied (limit s mu (suc i)) (limit s mv (suc j)) (power_size s hs u hu (suc i)) (power_size s hs v hv (suc j)) (raised hu near-u (suc i)) (raised hv near-v (suc j))

    -- the same of the powers as they stand in their lists
    product_near : (i j : ℕ) → i < 10 → j < 10 → Near s fine (product s i j (powers_of s u 10) (powers_of s v 10)) (f to_the i times g to_the j) (term_error s fine mu mv i j)
    product_near i j hi hj =
        subst (λ (x : ℤ). Near s fine (round_div x s) (f to_the i times g to_the j) (term_error s fine mu mv i j))
        (λ n. sym (powers_at s u (pos 0) 10 i hi) n *ℤ sym (powers_at s v (pos 0) 10 j hj) n) (term_near i j)

    -- the sum
    sum_near : (ts : List Term) → T (in_ten ts) → Near s fine (sum s ts (powers_of s u 10) (powers_of s v 10)) (exact_of ts f g) (sum_error s fine mu mv ts)
    unfolding sum exact_of
    sum_near [] h = near_zero
    sum_near (term c i j ∷ ts) h =
        let a = and_yes (among_ten (term c i j)) (in_ten ts) h in
        let b = and_yes (ltb i 10) (ltb j 10) a.0 in
        near_sum c (product_near i j (ltb→lt i 10 b.0) (ltb→lt j 10 b.1)) (sum_near ts a.1)

-- the answer, of u = a / du and v = b / dv rounded: it is within h nths of a unit of the exact value, which the scale over the
-- last divisor carries into the answer's unit
pub answer_near : (s fine du dv divisor mu mv h n : ℕ) (ts : List Term) (a b : ℤ) → nat_abs (round_div a du) ≤ mu → nat_abs (round_div b dv) ≤ mv → T (bounded s fine du dv divisor mu mv h n ts)
    → Within h n (exact_of ts (a over (du * s)) (b over (dv * s)) times (pos s over divisor)) (round_div (sum s ts (powers_of s (round_div a du) 10) (powers_of s (round_div b dv) 10)) divisor)
answer_near s fine du dv divisor mu mv h n ts a b hu hv test =
    let t = and_yes (divisors s fine du dv divisor) (in_ten ts && at_most s fine divisor mu mv h n ts) test in
    let r = and_yes (in_ten ts) (at_most s fine divisor mu mv h n ts) t.1 in
    let p = and_yes (ltb 0 s && ltb 0 fine) (ltb 0 du && (ltb 0 dv && ltb 0 divisor)) t.0 in
    let q = and_yes (ltb 0 s) (ltb 0 fine) p.0 in
    let o = three (ltb 0 du) (ltb 0 dv) (ltb 0 divisor) p.1 in
    let hs = ltb→lt 0 s q.0 in
    let hfine = ltb→lt 0 fine q.1 in
    let hu' = ltb→lt 0 du o.0 in
    let hv' = ltb→lt 0 dv o.1 in
    near_answer hfine h n (ltb→lt 0 divisor o.2) (exact_proper (a over (du * s)) (b over (dv * s)) (mul-pos hu' hs) (mul-pos hv' hs) ts)
    (leb→le (n * (fine * divisor + 2 * sum_error s fine mu mv ts)) (2 * divisor * h * fine) r.1)
    (sum_near hs hfine hu hv (near_quotient a hu') (near_quotient b hv') ts r.0)

-- ---- what the test has to charge: at two points the answer is 5 units off, so that it must refuse a bound of 4
-- u or v is the quotient by d, and the scale and the last divisor are document 01's
abbrev answer : ℕ → ℤ → ℤ → List Term → ℤ
answer d a b ts = round_div (sum scale ts (powers_of scale (round_div a d) 10) (powers_of scale (round_div b d) 10)) scale

abbrev value : ℕ → ℤ → ℤ → List Term → Fraction
value d a b ts = exact_of ts (a over (d * scale)) (b over (d * scale))

pub record Charged : Type 0 where
  -- the coefficient: 1,000,000,000 U, where u is 1 / 2, rounded to 1
  pub coefficient_far : Beyond 4 1 (value 2 (pos 1) (pos 0) (term (pos 1000000000) 1 0 ∷ [])) (answer 2 (pos 1) (pos 0) (term (pos 1000000000) 1 0 ∷ []))
  pub coefficient_refused : bounded scale 1000000 2 2 scale 1 0 4 1 (term (pos 1000000000) 1 0 ∷ []) ≡ false
  -- the rounding of a product: 1,000,000,000 U V, where u times v is half the scale
  pub product_far : Beyond 4 1 (value 1 (pos 10000) (pos 5000) (term (pos 1000000000) 1 1 ∷ [])) (answer 1 (pos 10000) (pos 5000) (term (pos 1000000000) 1 1 ∷ []))
  pub product_refused : bounded scale 1000000 1 1 scale 10000 5000 4 1 (term (pos 1000000000) 1 1 ∷ []) ≡ false

pub charged : Charged
unfolding round_div power powers_of sum exact_of ◌to_the◌
charged = record {
  coefficient_far = record { proper = lit< tt; far = lit< tt };
  coefficient_refused = refl;
  product_far = record { proper = lit< tt; far = lit< tt };
  product_refused = refl;
}
