-- Bytes tested a word at a time: a digit is 0x30 to 0x39, so without the bits of 0x30 it is below 16, and still is with 6 more.
-- Many bytes are tested at once; where the first test holds, no 6 carries into the next byte. Assumes nothing.
use Rattle.std.proofs.Common.{◌≡◌, ℕ, zero, suc, ◌+◌, ◌*◌, ◌/◌, ◌%◌, ◌^◌, ◌<◌, Bool, true, false, not, ◌&&◌, ◌||◌, T, eqb, ltb, List, [], ◌∷◌, length, sym, refl, ap, ◌∙◌, subst, lt_of_le_of_lt, mul-le-mul_right, mod-eq_of_lt, add-mul, pow-suc, mul-suc, arith, pow-add, ltb-true, lt-ltb, eq-eqb, ne_eqb, eqb-true}
use mathlib.Core.Bool.{and-false, false≢true}
use native.Mathlib.Nat.{pow-zero, mul-add-div_right, mul-add-mod_self_right, div-eq_of_lt}
use lib.Bits.{bit_and, bit_xor, and_block, and_le_l, xor_block, xor_lt}
use borrow.Author.Tests.{eqb-false}
use Rattle.whole.specs.Every.{every}
use Rattle.whole.specs.Digits.{is_digit, digit_of}
use Rattle.whole.proofs.Bools.{both, joined}
use Rattle.whole.proofs.Below.{all_below, below}
use Rattle.position.specs.Text.{full_stop}

-- ---- what a byte must be
pub data Kind : Type 0 where
  figure : Kind
  stop : Kind

abbrev pub is : Kind × ℕ → Bool
is (figure, b) = is_digit b
is (stop, b) = eqb b full_stop

abbrev pub mask : Kind × ℕ → ℕ
mask (figure, b) = 240
mask (stop, b) = 255

abbrev pub form : Kind × ℕ → ℕ
form (figure, b) = 48
form (stop, b) = 46

abbrev pub six : Kind × ℕ → ℕ
six (figure, b) = 6
six (stop, b) = 0

abbrev pub byte : Kind × ℕ → ℕ
byte p = p.1

-- what is left of it, and with 6 more
abbrev pub left : Kind × ℕ → ℕ
left p = bit_xor (byte p) (form p)

abbrev more : Kind × ℕ → ℕ
more p = left p + six p

abbrev none : {A : Type 0} → A → ℕ
none p = 0

-- what it says
abbrev pub figure_of : Kind × ℕ → ℕ
figure_of (figure, b) = digit_of b
figure_of (stop, b) = 0

abbrev pub small : {A : Type 0} → (A → ℕ) → A → Bool
small f p = ltb (f p) 256

abbrev looks : (Kind × ℕ → ℕ) → Kind × ℕ → Bool
looks f p = eqb (bit_and (f p) (mask p)) 0

-- ---- one byte, by all 256
by_all : (f : Kind × ℕ → Bool) → T (all_below 256 (λ b. f (figure, b))) → T (all_below 256 (λ b. f (stop, b))) → (p : Kind × ℕ) → small byte p ≡ true → T (f p)
by_all f t u (figure, b) h = below 256 (λ n. f (figure, n)) t b (ltb-true b 256 h)
by_all f t u (stop, b) h = below 256 (λ n. f (stop, n)) u b (ltb-true b 256 h)

abbrev pub same : Bool → Bool → Bool
same true y = y
same false y = not y

pub same_is : (x y : Bool) → T (same x y) → x ≡ y
same_is true true t = refl
same_is true false t = absurd t
same_is false true t = absurd t
same_is false false t = refl

-- it passes both tests if it is of its kind
one_is : (p : Kind × ℕ) → small byte p ≡ true → (looks left p && looks more p) ≡ is p
one_is p h = same_is (looks left p && looks more p) (is p) (by_all (λ q. same (looks left q && looks more q) (is q)) tt tt p h)

implied : (x y : Bool) → T (not x || y) → x ≡ true → y ≡ true
implied true true t l = refl
implied true false t l = absurd t
implied false y t l = absurd (false≢true l)

-- and after the first its 6 does not carry
no_carry : (p : Kind × ℕ) → small byte p ≡ true → looks left p ≡ true → small more p ≡ true
no_carry p h = implied (looks left p) (small more p) (by_all (λ q. not (looks left q) || small more q) tt tt p h)

-- what is left of one that is of its kind is what it says
left_says : (p : Kind × ℕ) → small byte p ≡ true → is p ≡ true → left p ≡ figure_of p
unfolding digit_of
left_says p h l = eqb-true (left p) (figure_of p) (implied (is p) (eqb (left p) (figure_of p)) (by_all (λ q. not (is q) || eqb (left q) (figure_of q)) tt tt p h) l)

left_small : (p : Kind × ℕ) → small byte p ≡ true → small left p ≡ true
left_small (k, b) h = lt-ltb (left (k, b)) 256 (xor_lt 8 b (form (k, b)) (ltb-true b 256 h) (form_lt k))
  where
    form_lt : (j : Kind) → form (j, b) < 256
    form_lt figure = omega arith
    form_lt stop = omega arith

-- ---- words
-- the number in bytes, each said of one of a list
abbrev pub word : {A : Type 0} → (A → ℕ) → List A → ℕ
word f [] = 0
word f (p ∷ ps) = f p * 256 ^ length ps + word f ps

word_below : {A : Type 0} (f : A → ℕ) (ps : List A) → every (small f) ps ≡ true → word f ps < 256 ^ length ps
word_below f [] h = omega (arith, pow-zero 256)
word_below f (p ∷ ps) h =
    let b = both (small f p) (every (small f) ps) h in
    omega (arith, word_below f ps b.1, mul-le-mul_right (256 ^ length ps) (ltb-true (f p) 256 b.0), pow-suc 256 (length ps))

word_sum : (ps : List (Kind × ℕ)) → word left ps + word six ps ≡ word more ps
word_sum [] = refl
word_sum (p ∷ ps) = omega (arith, word_sum ps, add-mul (left p) (six p) (256 ^ length ps))

eights : (n : ℕ) → 2 ^ (8 * n) ≡ 256 ^ n
eights zero = refl
eights (suc n) = ap (λ (m : ℕ). 2 ^ m) (mul-suc 8 n) ∙ pow-add 2 (8 * n) 8 ∙ ap (λ (m : ℕ). m * 256) (eights n) ∙ sym (pow-suc 256 n)

pub high : (P n m : ℕ) → m < P → (n * P + m) / P ≡ n
high P n m h = mul-add-div_right (omega arith) n m ∙ omega (arith, div-eq_of_lt h)

pub low : (n m : ℕ) → m < 256 → (n * 256 + m) % 256 ≡ m
low n m h = mul-add-mod_self_right n 256 m ∙ mod-eq_of_lt h

-- a test of two words is a test of their first bytes and of the rest
module _ (a b P r s : ℕ) (hr : r < P) (hs : s < P) where
  eqb_block : eqb (a * P + r) (b * P + s) ≡ (eqb a b && eqb r s)
  eqb_block = go (eqb a b) (eqb r s) refl refl
    where
      go : (x y : Bool) → eqb a b ≡ x → eqb r s ≡ y → eqb (a * P + r) (b * P + s) ≡ (x && y)
      go true true e f = eq-eqb (a * P + r) (b * P + s) (omega (arith, ap (λ (n : ℕ). n * P) (eqb-true a b e), eqb-true r s f))
      go true false e f = ne_eqb (a * P + r) (b * P + s) (λ g. eqb-false r s f (omega (arith, ap (λ (n : ℕ). n * P) (eqb-true a b e), g)))
      go false y e f = ne_eqb (a * P + r) (b * P + s) (λ g. eqb-false a b e (sym (high P a r hr) ∙ ap (λ (n : ℕ). n / P) g ∙ high P b s hs))

masked : (n a b r s : ℕ) → r < 256 ^ n → s < 256 ^ n → bit_and (a * 256 ^ n + r) (b * 256 ^ n + s) ≡ bit_and a b * 256 ^ n + bit_and r s
masked n a b r s = subst (λ (P : ℕ). r < P → s < P → bit_and (a * P + r) (b * P + s) ≡ bit_and a b * P + bit_and r s) (eights n) (and_block (8 * n) a b r s)

crossed : (n a b r s : ℕ) → r < 256 ^ n → s < 256 ^ n → bit_xor (a * 256 ^ n + r) (b * 256 ^ n + s) ≡ bit_xor a b * 256 ^ n + bit_xor r s
crossed n a b r s = subst (λ (P : ℕ). r < P → s < P → bit_xor (a * P + r) (b * P + s) ≡ bit_xor a b * P + bit_xor r s) (eights n) (xor_block (8 * n) a b r s)

mask_below : (ps : List (Kind × ℕ)) → every (small mask) ps ≡ true
mask_below [] = refl
mask_below ((figure, b) ∷ ps) = mask_below ps
mask_below ((stop, b) ∷ ps) = mask_below ps

form_below : (ps : List (Kind × ℕ)) → every (small form) ps ≡ true
form_below [] = refl
form_below ((figure, b) ∷ ps) = form_below ps
form_below ((stop, b) ∷ ps) = form_below ps

none_below : {A : Type 0} (ps : List A) → every (small none) ps ≡ true
none_below [] = refl
none_below (p ∷ ps) = none_below ps

left_below : (ps : List (Kind × ℕ)) → every (small byte) ps ≡ true → every (small left) ps ≡ true
left_below [] h = refl
left_below (p ∷ ps) h =
    let b = both (small byte p) (every (small byte) ps) h in
    joined (left_small p b.0) (left_below ps b.1)

pub word_left : (ps : List (Kind × ℕ)) → every (small byte) ps ≡ true → bit_xor (word byte ps) (word form ps) ≡ word left ps
word_left [] h = refl
word_left (p ∷ ps) h =
    let rest = (both (small byte p) (every (small byte) ps) h).1 in
    crossed (length ps) (byte p) (form p) (word byte ps) (word form ps) (word_below byte ps rest) (word_below form ps (form_below ps))
    ∙ ap (λ (n : ℕ). left p * 256 ^ length ps + n) (word_left ps rest)

-- the test of a word is the test of each byte
pub each : {A : Type 0} (f g : A → ℕ) (ps : List A) → every (small f) ps ≡ true → every (small g) ps ≡ true
    → eqb (bit_and (word f ps) (word g ps)) (word none ps) ≡ every (λ p. eqb (bit_and (f p) (g p)) 0) ps
each f g [] h k = refl
each f g (p ∷ ps) h k =
    let rest = (both (small f p) (every (small f) ps) h).1 in
    let others = (both (small g p) (every (small g) ps) k).1 in
    let low-f = word_below f ps rest in
    ap (λ (n : ℕ). eqb n (word none (p ∷ ps))) (masked (length ps) (f p) (g p) (word f ps) (word g ps) low-f (word_below g ps others))
    ∙ eqb_block (bit_and (f p) (g p)) 0 (256 ^ length ps) (bit_and (word f ps) (word g ps)) (word none ps) (lt_of_le_of_lt (and_le_l (word f ps) (word g ps)) low-f) (word_below none ps (none_below ps))
    ∙ ap (λ (x : Bool). eqb (bit_and (f p) (g p)) 0 && x) (each f g ps rest others)

-- ---- both tests
sums_below : (ps : List (Kind × ℕ)) → every (small byte) ps ≡ true → every (looks left) ps ≡ true → every (small more) ps ≡ true
sums_below [] h l = refl
sums_below (p ∷ ps) h l =
    let b = both (small byte p) (every (small byte) ps) h in
    let k = both (looks left p) (every (looks left) ps) l in
    joined (no_carry p b.0 k.0) (sums_below ps b.1 k.1)

exchanged : (a b c d : Bool) → ((a && b) && (c && d)) ≡ ((a && c) && (b && d))
exchanged true b true d = refl
exchanged true b false d = and-false b
exchanged false b c d = refl

all_are : (ps : List (Kind × ℕ)) → every (small byte) ps ≡ true → (every (looks left) ps && every (looks more) ps) ≡ every is ps
all_are [] h = refl
all_are (p ∷ ps) h =
    let b = both (small byte p) (every (small byte) ps) h in
    exchanged (looks left p) (every (looks left) ps) (looks more p) (every (looks more) ps)
    ∙ (λ i. one_is p b.0 i && all_are ps b.1 i)

pub all_say : (ps : List (Kind × ℕ)) → every (small byte) ps ≡ true → every is ps ≡ true → word left ps ≡ word figure_of ps
all_say [] h l = refl
all_say (p ∷ ps) h l =
    let b = both (small byte p) (every (small byte) ps) h in
    let k = both (is p) (every is ps) l in
    λ i. left_says p b.0 k.0 i * 256 ^ length ps + all_say ps b.1 k.1 i

guarded : (a x y : Bool) → (a ≡ true → x ≡ y) → (a && x) ≡ (a && y)
guarded true x y h = h refl
guarded false x y h = refl

module _ (ps : List (Kind × ℕ)) (h : every (small byte) ps ≡ true) where
  first_test : eqb (bit_and (word left ps) (word mask ps)) (word none ps) ≡ every (looks left) ps
  first_test = each left mask ps (left_below ps h) (mask_below ps)

  second_test : every (looks left) ps ≡ true → eqb (bit_and (word left ps + word six ps) (word mask ps)) (word none ps) ≡ every (looks more) ps
  second_test l = ap (λ (n : ℕ). eqb (bit_and n (word mask ps)) (word none ps)) (word_sum ps) ∙ each more mask ps (sums_below ps h l) (mask_below ps)

  pub of_kinds : (eqb (bit_and (word left ps) (word mask ps)) (word none ps) && eqb (bit_and (word left ps + word six ps) (word mask ps)) (word none ps)) ≡ every is ps
  of_kinds =
      ap (λ (x : Bool). x && eqb (bit_and (word left ps + word six ps) (word mask ps)) (word none ps)) first_test
      ∙ guarded (every (looks left) ps) _ _ second_test
      ∙ all_are ps h

  pub sum_fits : eqb (bit_and (word left ps) (word mask ps)) (word none ps) ≡ true → word left ps + word six ps < 256 ^ length ps
  sum_fits e = subst (λ (n : ℕ). n < 256 ^ length ps) (sym (word_sum ps)) (word_below more ps (sums_below ps h (sym first_test ∙ e)))
