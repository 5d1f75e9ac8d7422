-- What is kept of a line that is begun: its first 27 bytes, and what they are once more bytes have come. Assumes nothing.
use mathlib.Core.Path.{◌≡◌, refl, sym, ap, ◌∙◌, subst}
use mathlib.Core.List.{List, [], ◌∷◌, ◌++◌}
use Prim.Native.Nat.{ℕ, zero, suc, ◌+◌, ◌-◌, ◌≤◌, min}
use native.Mathlib.Omega.{arith}
use lib.ListN.{length, take, drop, replicate, length-append, length-take, length-drop, length-replicate, replicate-append-replicate, take-append-drop}
use lib.Seq.{length-take-le, take_at, drop_at, take-take, take-append-add, take-append_seam}
use borrow.Rule.Slice.PartMut.{put_mid}
use Rattle.kinds.proofs.Writing.{grown}
use Rattle.stream.specs.Stream.{held, kept}
use Rattle.stream.specs.declared.Begun.{Begun}

-- ---- the first bytes of a line, and more
pub take_again : (n : ℕ) (l m : List ℕ) → take n (take n l ++ m) ≡ take n (l ++ m)
take_again zero l m = refl
take_again (suc n) [] m = refl
take_again (suc n) (x ∷ l) m = ap (λ (t : List ℕ). x ∷ t) (take_again n l m)

pub held_kept : (line : List ℕ) → held (kept line) ≡ take 27 line
unfolding kept
held_kept line =
    let t : List ℕ = take 27 line in
    ap (λ (n : ℕ). take n (take 27 (line ++ replicate 27 0))) (sym (length-take 27 line))
    ∙ ap (take (length t)) (sym (take_again 27 line (replicate 27 0)))
    ∙ take-take (length t) 27 (t ++ replicate 27 0) (omega (arith, length-take 27 line))
    ∙ take-append_seam t (replicate 27 0)

pub kept_cut : (line : List ℕ) → kept (take 27 line) ≡ kept line
unfolding kept
kept_cut line =
    let e : min 27 (length (take 27 line)) ≡ min 27 (length line) = omega (arith, length-take 27 line) in
    λ i. record { bytes = take_again 27 line (replicate 27 0) i; count = e i }

pub kept_within : (begun : Begun) (line : List ℕ) → begun ≡ kept line → begun.count ≤ length begun.bytes
unfolding kept
kept_within begun line h = rw h (simp (length-take, length-append) (omega arith))

-- ---- zeros behind them
zeros : (z n j k : ℕ) → j + k ≡ n → take k (replicate n z) ≡ drop j (replicate n z)
zeros z n j k e =
    let f : k + j ≡ n = omega arith in
    ap (λ (n : ℕ). take k (replicate n z)) (sym f)
    ∙ ap (take k) (sym (replicate-append-replicate k j z))
    ∙ take_at (replicate k z) (replicate j z) k (length-replicate k z)
    ∙ sym (drop_at (replicate j z) (replicate k z) j (length-replicate j z))
    ∙ ap (drop j) (replicate-append-replicate j k z)
    ∙ ap (λ (n : ℕ). drop j (replicate n z)) e

filled : (n : ℕ) (l : List ℕ) → take n (l ++ replicate n 0) ≡ take n l ++ drop (length (take n l)) (replicate n 0)
filled n l =
    let t : List ℕ = take n l in
    let e : length t + (n - length t) ≡ n = omega (arith, length-take n l) in
    sym (take_again n l (replicate n 0))
    ∙ ap (λ (j : ℕ). take j (t ++ replicate n 0)) (sym e)
    ∙ take-append-add t (replicate n 0) (n - length t)
    ∙ ap (λ (r : List ℕ). t ++ r) (zeros 0 n (length t) (n - length t) e)

-- ---- more bytes have come
pub take_min : (n : ℕ) (l : List ℕ) → take (min n (length l)) l ≡ take n l
take_min n l = ap (λ (k : ℕ). take k l) (sym (length-take n l)) ∙ ap (take (length (take n l))) (sym (take-append-drop n l)) ∙ take-append_seam (take n l) (drop n l)

abbrev blank : List ℕ
blank = replicate 27 0

-- of the bytes that are held, `first`
module _ (begun : Begun) (long : length begun.bytes ≡ 27) (first : ℕ) (is-first : first ≡ min begun.count 27) where
  pub first_within : first ≤ length begun.bytes
  first_within = omega arith

  pub first_long : length (take first begun.bytes) ≡ first
  first_long = length-take-le first begun.bytes first_within

  first_is : take first begun.bytes ≡ held begun
  first_is =
      let e : first ≡ min begun.count (length begun.bytes) = omega arith in
      ap (λ (n : ℕ). take n begun.bytes) e ∙ take_min begun.count begun.bytes

  -- and of those that have come, `second`
  module _ (more : List ℕ) (second : ℕ) (is-second : second ≡ min (length more) (27 - first)) where
    second_long : length (take second more) ≡ second
    second_long = length-take-le second more (omega arith)

    both_are : take 27 (held begun ++ more) ≡ take first begun.bytes ++ take second more
    both_are =
        let p : List ℕ = take first begun.bytes in
        let e : 27 ≡ length p + (27 - first) = omega (arith, first_long) in
        let f : second ≡ min (27 - first) (length more) = omega arith in
        ap (λ (l : List ℕ). take 27 (l ++ more)) (sym first_is)
        ∙ ap (λ (n : ℕ). take n (p ++ more)) e
        ∙ take-append-add p more (27 - first)
        ∙ ap (λ (l : List ℕ). p ++ l) (sym (take_min (27 - first) more) ∙ ap (λ (n : ℕ). take n more) (sym f))

    -- one has the first, before zeros; two is what is lent of it behind these, with the second
    module _ (one : List ℕ) {r : ℕ} (is-r : r ≡ length (take first begun.bytes)) (is_one : one ≡ take first begun.bytes ++ drop r blank) where
      one_is : one ≡ take first begun.bytes ++ drop first blank
      one_is = is_one ∙ ap (λ (n : ℕ). take first begun.bytes ++ drop n blank) (is-r ∙ first_long)

      one_long : length (take first begun.bytes ++ drop first blank) ≡ 27
      one_long = omega (arith, length-append (take first begun.bytes) (drop first blank), length-drop first blank, first_long)

      pub extended_is : (two : List ℕ) {n : ℕ} → n ≡ length (take second more) → two ≡ take second more ++ drop n (take (27 - first) (drop first one))
          → record { bytes = put_mid first (27 - first) one two; count = first + second } ≡ kept (held begun ++ more)
      unfolding kept
      extended_is two is-n is-two =
          let p : List ℕ = take first begun.bytes in
          let q : List ℕ = take second more in
          let all : length (take 27 (held begun ++ more)) ≡ first + second = omega (arith, ap length both_are, length-append p q, first_long, second_long) in
          let bytes : put_mid first (27 - first) one two ≡ take 27 ((held begun ++ more) ++ blank) =
          rw (is-two, is-n, second_long, one_is)
          (subst (λ (n : ℕ). put_mid first (n - first) (p ++ drop first blank) (q ++ drop second (take (n - first) (drop first (p ++ drop first blank)))) ≡ (p ++ q) ++ drop (first + second) blank) one_long (grown p blank q first second first_long)
          ∙ (λ i. sym both_are i ++ drop (sym all i) blank)
          ∙ sym (filled 27 (held begun ++ more))) in
          let count : first + second ≡ min 27 (length (held begun ++ more)) = sym all ∙ length-take 27 (held begun ++ more) in
          λ i. record { bytes = bytes i; count = count i }
