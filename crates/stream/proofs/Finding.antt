-- The first line feed among some bytes, looked for in parts; and eight bytes tested for a line feed as one word. Assumes nothing.
use mathlib.Core.Path.{◌≡◌, refl, sym, ap, ◌∙◌, subst}
use mathlib.Core.Bool.{Bool, true, false, ◌&&◌}
use mathlib.Core.List.{List, [], ◌∷◌, ◌++◌}
use Prim.Native.Nat.{ℕ, zero, suc, ◌+◌, ◌-◌, ◌*◌, ◌/◌, ◌%◌, ◌<◌, ◌≤◌}
use native.Mathlib.Omega.{arith}
use lib.Bits.{bit_and, bit_xor, and_block, xor_block, and_le_r, xor_lt}
use lib.Dec.{eqb, ltb}
use lib.ListN.{length, get_or, take, drop, length-append, length-take, length-drop, take-append-drop}
use lib.Seq.{take_all, take-add, drop-drop, length-take-le}
use borrow.Author.Tests.{eqb-true}
use Rattle.std.specs.Prelude.{cond, slice_range, Some, None}
use Rattle.std.specs.Option.{unwrap_or}
use Rattle.std.specs.Int.{w64, from_le_bytes}
use Rattle.std.specs.List.{position_or_len}
use Rattle.std.specs.Simd.{first_chunks}
use Rattle.std.proofs.lemmas.Bool.{lt-ltb, ltb-true, ltb-false}
use Rattle.std.proofs.lemmas.List.{drop-take}
use Rattle.std.proofs.Math.Nat.{le-div_iff_mul-le, div-mul-le_self}
use Rattle.std.proofs.lemmas.List.Quantifiers.{position-Some}
use Rattle.whole.proofs.Bools.{both, by_test}
use Rattle.kinds.proofs.Bytes.{at}
use Rattle.line.specs.Line.{line_feed}
use Rattle.stream.specs.Inside.{first_feed, Clear, AllClear, Tells}

-- ---- where the first line feed is, or how many bytes there are
unfoldable pub index_of : List ℕ → ℕ
index_of [] = 0
index_of (first ∷ rest) = cond (eqb first line_feed) 0 (suc (index_of rest))

abbrev is_feed : ℕ → Bool
is_feed byte = eqb byte line_feed

index_is : (xs : List ℕ) → position_or_len is_feed xs ≡ index_of xs
unfolding index_of
index_is [] = refl
index_is (x ∷ xs) = by_test (eqb x line_feed) (λ t. simp t refl) (λ t. simp t (omega (arith, index_is xs)))

index_long : (xs : List ℕ) → index_of xs ≤ length xs
unfolding index_of
index_long [] = omega arith
index_long (x ∷ xs) = by_test (eqb x line_feed) (λ t. simp t (omega arith)) (λ t. simp t (omega (arith, index_long xs)))

found_is : (xs : List ℕ) → unwrap_or (first_feed xs) (length xs) ≡ index_of xs
found_is xs =
    by_test (ltb (position_or_len is_feed xs) (length xs))
    (λ t. simp t (index_is xs))
    (λ t. simp t (omega (arith, ltb-false (position_or_len is_feed xs) (length xs) t, index_is xs, index_long xs)))

pub from_some : (xs : List ℕ) {i : ℕ} → first_feed xs ≡ Some i → (index_of xs ≡ i) × (i < length xs)
from_some xs {i} e = (sym (found_is xs) ∙ ap (λ o. unwrap_or o (length xs)) e, (position-Some is_feed xs i 0 e).0)

pub from_none : (xs : List ℕ) → Clear xs → index_of xs ≡ length xs
from_none xs e = sym (found_is xs) ∙ ap (λ o. unwrap_or o (length xs)) e

to_some : (xs : List ℕ) {i : ℕ} → index_of xs ≡ i → i < length xs → first_feed xs ≡ Some i
to_some xs {i} e h =
    let k : position_or_len is_feed xs ≡ i = index_is xs ∙ e in
    let t : ltb (position_or_len is_feed xs) (length xs) ≡ true = lt-ltb (position_or_len is_feed xs) (length xs) (omega arith) in
    simp t (ap (λ (n : ℕ). Some n) k)

to_none : (xs : List ℕ) → index_of xs ≡ length xs → Clear xs
to_none xs e =
    by_test (ltb (position_or_len is_feed xs) (length xs))
    (λ t. absurd (omega (arith, ltb-true (position_or_len is_feed xs) (length xs) t, index_is xs)))
    (λ t. simp t refl)

-- ---- two lists, one after the other
-- the first is past a list that has none
index_past : (xs ys : List ℕ) → index_of xs ≡ length xs → index_of (xs ++ ys) ≡ length xs + index_of ys
unfolding index_of
index_past [] ys h = omega arith
index_past (x ∷ xs) ys h =
    by_test (eqb x line_feed)
    (λ t. let k : 0 ≡ suc (length xs) = simp t at h in absurd (omega arith))
    (λ t. let k : suc (index_of xs) ≡ suc (length xs) = simp t at h in simp t (omega (arith, index_past xs ys (omega arith))))

-- and in a list that has one
index_within : (xs ys : List ℕ) → index_of xs < length xs → index_of (xs ++ ys) ≡ index_of xs
unfolding index_of
index_within [] ys h = absurd (omega arith)
index_within (x ∷ xs) ys h =
    by_test (eqb x line_feed)
    (λ t. simp t)
    (λ t. let k : suc (index_of xs) < suc (length xs) = simp t at h in simp t (ap suc (index_within xs ys (omega arith))))

-- ---- some bytes at the front
pub front_some : (n : ℕ) (l : List ℕ) {i : ℕ} → first_feed (take n l) ≡ Some i → first_feed l ≡ Some i
front_some n l {i} e =
    let f = from_some (take n l) e in
    to_some l
    (ap index_of (sym (take-append-drop n l)) ∙ index_within (take n l) (drop n l) (omega (arith, f.0, f.1)) ∙ f.0)
    (omega (arith, f.1, length-take n l))

-- where none is among them
module _ (l : List ℕ) (n : ℕ) (within : n ≤ length l) (clear : Clear (take n l)) where
  long : length (take n l) ≡ n
  long = length-take-le n l within

  past : index_of l ≡ n + index_of (drop n l)
  past = omega (arith, ap index_of (take-append-drop n l), index_past (take n l) (drop n l) (from_none (take n l) clear), long)

  pub behind_some : {i : ℕ} → first_feed (drop n l) ≡ Some i → first_feed l ≡ Some (n + i)
  behind_some e = let f = from_some (drop n l) e in to_some l (omega (arith, past, f.0)) (omega (arith, f.1, length-drop n l))

  pub behind_none : Clear (drop n l) → Clear l
  behind_none e = to_none l (omega (arith, past, from_none (drop n l) e, length-drop n l, within))

  pub there : (k : ℕ) {i : ℕ} → first_feed (take k (drop n l)) ≡ Some i → first_feed l ≡ Some (n + i)
  there k e = behind_some (front_some k (drop n l) e)

  pub further : (k : ℕ) → Clear (take k (drop n l)) → Clear (take (n + k) l)
  further k e =
      let f = index_past (take n l) (take k (drop n l)) (from_none (take n l) clear) in
      let g = from_none (take k (drop n l)) e in
      let s = take-add n k l in
      to_none (take (n + k) l) (ap index_of s ∙ f ∙ ap (λ (j : ℕ). length (take n l) + j) g ∙ sym (length-append (take n l) (take k (drop n l))) ∙ ap length (sym s))

-- ---- arrays one after the other
chunk_at : (k n i : ℕ) (l d : List ℕ) → i < n → get_or (first_chunks k n l) i d ≡ take k (drop (i * k) l)
chunk_at k zero i l d h = absurd (omega arith)
chunk_at k (suc n) zero l d h = let e : 0 ≡ 0 * k = omega arith in ap (λ (j : ℕ). take k (drop j l)) e
chunk_at k (suc n) (suc i) l d h =
    let e : k + i * k ≡ suc i * k = omega arith in
    chunk_at k n i (drop k l) d (omega arith) ∙ ap (take k) (drop-drop (i * k) k l ∙ ap (λ (j : ℕ). drop j l) e)

all_clear : (k n : ℕ) (l : List ℕ) → n * k ≤ length l → AllClear (first_chunks k n l) → Clear (take (n * k) l)
all_clear k zero l h clear = let e : 0 * k ≡ 0 = omega arith in ap (λ (j : ℕ). first_feed (take j l)) e
all_clear k (suc n) l h clear =
    let e : k + n * k ≡ suc n * k = omega arith in
    let rest = all_clear k n (drop k l) (omega (arith, length-drop k l)) (λ j d m. clear (suc j) d (omega arith)) in
    subst (λ (j : ℕ). Clear (take j l)) e (further l k (omega arith) (clear 0 [] (omega arith)) (n * k) rest)

-- words that were tested, and one more
pub tested_next : (ws : List (List ℕ)) (w : List ℕ) → AllClear ws → Clear w → AllClear (ws ++ w ∷ [])
tested_next [] w all clear zero d h = clear
tested_next [] w all clear (suc k) d h = absurd (omega arith)
tested_next (v ∷ ws) w all clear zero d h = all zero d (omega arith)
tested_next (v ∷ ws) w all clear (suc k) d h = tested_next ws w (λ j d m. all (suc j) d (omega arith)) clear k d (omega arith)

-- what a test of words tells. The code tests all words at once; that it may test them in parts is proved too, so that where a
-- word is left out it is that word for which a proof fails
pub told : (ws : List (List ℕ)) {clear : Bool} → clear ≡ true → Tells clear ws → AllClear ws
unfolding Tells
told ws e tells = tells e

-- a test of those up to a place, where these are all
pub tells_all : (clear : Bool) (n : ℕ) (ws : List (List ℕ)) → Tells clear (take n ws) → length ws ≤ n → Tells clear ws
tells_all clear n ws tells h = subst (λ (vs : List (List ℕ)). Tells clear vs) (take_all n ws h) tells

-- and two tests, of those up to a place and of those from it or from one before it on
halves_clear : (n m : ℕ) (ws : List (List ℕ)) → m ≤ n → AllClear (take n ws) → AllClear (drop m ws) → AllClear ws
halves_clear n zero ws h all more k d j = more k d j
halves_clear zero (suc m) ws h all more k d j = absurd (omega arith)
halves_clear (suc n) (suc m) [] h all more k d j = absurd (omega arith)
halves_clear (suc n) (suc m) (w ∷ ws) h all more zero d j = all zero d (omega arith)
halves_clear (suc n) (suc m) (w ∷ ws) h all more (suc k) d j = halves_clear n m ws (omega arith) (λ i e l. all (suc i) e (omega arith)) more k d (omega arith)

pub tell_both : (a b : Bool) (n m k : ℕ) (ws : List (List ℕ)) → Tells a (take n ws) → Tells b (take k (drop m ws)) → m ≤ n → length ws ≤ m + k → Tells (a && b) ws
unfolding Tells
tell_both a b n m k ws first second h j e =
    let p = both a b e in
    halves_clear n m ws h (first p.0) (subst (λ (vs : List (List ℕ)). AllClear vs) (take_all k (drop m ws) (omega (arith, length-drop m ws))) (second p.1))

pub words_clear : (l : List ℕ) {words : List (List ℕ)} (n : ℕ) → length l / 8 ≡ n → words ≡ first_chunks 8 (length l / 8) l → AllClear words → Clear (take (n * 8) l)
words_clear l n is-n is_words clear =
    all_clear 8 n l (omega (arith, is-n)) (subst (λ (ws : List (List ℕ)). AllClear ws) (is_words ∙ ap (λ (j : ℕ). first_chunks 8 j l) is-n) clear)

pub piece_clear : (piece : List ℕ) {words : List (List ℕ)} → length piece % 8 ≡ 0 → words ≡ first_chunks 8 (length piece / 8) piece → AllClear words → Clear piece
piece_clear piece whole is_words clear =
    subst (λ (l : List ℕ). Clear l) (take_all (length piece / 8 * 8) piece (omega (arith, whole))) (words_clear piece (length piece / 8) refl is_words clear)

-- ---- as many pieces of k bytes as there are, of which those before the one at i are clear
module _ (l : List ℕ) {k : ℕ} (some : 0 < k) (pieces : List (List ℕ)) (count : length pieces ≡ length l / k) {i : ℕ} (clear : Clear (take (i * k) l)) where
  -- the one at i
  module _ (is_pieces : pieces ≡ first_chunks k (length l / k) l) (less : i < length pieces) {piece : List ℕ} (is_piece : piece ≡ get_or pieces i piece) where
    room : i * k + k ≤ length l
    room = let h : (i + 1) * k ≤ length l = (le-div_iff_mul-le some).0 (omega (arith, less, count)) in omega (arith, h)

    piece_is : piece ≡ take k (drop (i * k) l)
    piece_is = is_piece ∙ ap (λ (ps : List (List ℕ)). get_or ps i piece) is_pieces ∙ chunk_at k (length l / k) i l piece (omega (arith, less, count))

    pub piece_long : length piece ≡ k
    piece_long = ap length piece_is ∙ length-take-le k (drop (i * k) l) (omega (arith, room, length-drop (i * k) l))

    pub found_in : {at : ℕ} → Some at ≡ first_feed piece → Some (i * k + at) ≡ first_feed l
    found_in e = sym (there l (i * k) (omega (arith, room)) clear k (sym (e ∙ ap first_feed piece_is)))

    pub one_more : None ≡ first_feed piece → Clear (take ((i + 1) * k) l)
    one_more e =
        let f : i * k + k ≡ (i + 1) * k = omega arith in
        subst (λ (j : ℕ). Clear (take j l)) f (further l (i * k) (omega (arith, room)) clear k (sym (e ∙ ap first_feed piece_is)))

  -- what is left behind them
  module _ {rest : List ℕ} (is_rest : rest ≡ drop (length l / k * k) l) (low : i ≤ length pieces) (high : length pieces ≤ i) where
    enough : length l / k * k ≤ length l
    enough = div-mul-le_self (length l) k

    all : Clear (take (length l / k * k) l)
    all = let e : i ≡ length l / k = omega (arith, count) in subst (λ (j : ℕ). Clear (take (j * k) l)) e clear

    pub found_behind : {at : ℕ} → Some at ≡ first_feed rest → Some (length pieces * k + at) ≡ first_feed l
    found_behind {at} e = ap (λ (j : ℕ). Some (j * k + at)) count ∙ sym (behind_some l (length l / k * k) enough all (ap first_feed (sym is_rest) ∙ sym e))

    pub none_behind : None ≡ first_feed rest → None ≡ first_feed l
    none_behind e = sym (behind_none l (length l / k * k) enough all (ap first_feed (sym is_rest) ∙ sym e))

-- all bytes of a list, lent as a part of it
pub part_whole : (j k : ℕ) (l : List ℕ) → j ≡ 0 → length l ≤ k → take k (drop j l) ≡ l
part_whole j k l e h = ap (λ (n : ℕ). take k (drop n l)) e ∙ take_all k l h

-- ---- the first 28 bytes: three words that are clear, and four bytes
module _ (l near rest : List ℕ) (is_near : near ≡ take 28 l) (is_rest : rest ≡ drop 28 l) (cut : length rest + 28 ≡ length l) {words : List (List ℕ)} {last : List ℕ}
    (is_words : words ≡ first_chunks 8 (length near / 8) near) (count : length words ≡ length near / 8) (is_last : last ≡ drop (length near / 8 * 8) near) (clear : AllClear words) where
  near_long : length near ≡ 28
  near_long = ap length is_near ∙ length-take-le 28 l (omega (arith, cut))

  start_clear : Clear (take 24 near)
  start_clear = words_clear near 3 (omega (arith, near_long)) is_words clear

  last_is : last ≡ drop 24 near
  last_is = is_last ∙ ap (λ (j : ℕ). drop (j / 8 * 8) near) near_long

  pub found_near : {at : ℕ} → Some at ≡ first_feed last → Some (length words * 8 + at) ≡ first_feed l
  found_near {at} e =
      let three : length words ≡ 3 = omega (arith, count, near_long) in
      ap (λ (j : ℕ). Some (j * 8 + at)) three
      ∙ sym (front_some 28 l (ap first_feed (sym is_near) ∙ behind_some near 24 (omega (arith, near_long)) start_clear (ap first_feed (sym last_is) ∙ sym e)))

  module _ (none : None ≡ first_feed last) where
    near_clear : Clear (take 28 l)
    near_clear = ap first_feed (sym is_near) ∙ behind_none near 24 (omega (arith, near_long)) start_clear (ap first_feed (sym last_is) ∙ sym none)

    pub found_far : {at : ℕ} → Some at ≡ first_feed rest → Some (28 + at) ≡ first_feed l
    found_far e = sym (behind_some l 28 (omega (arith, cut)) near_clear (ap first_feed (sym is_rest) ∙ sym e))

    pub none_far : None ≡ first_feed rest → None ≡ first_feed l
    none_far e = sym (behind_none l 28 (omega (arith, cut)) near_clear (ap first_feed (sym is_rest) ∙ sym e))

-- ---- the bytes from a place up to another
abbrev pub FirstFeed : ℕ → ℕ → List ℕ → ℕ → Type 0
FirstFeed from to bytes place = (place ≡ from + index_of (slice_range bytes from to)) × (place ≤ to)

-- which are what is left of those up to the second without those up to the first
slice_cut : (from to : ℕ) (l : List ℕ) → from ≤ to → slice_range l from to ≡ drop from (take to l)
slice_cut from to l h =
    let e : from + (to - from) ≡ to = omega arith in
    sym (drop-take from (to - from) l) ∙ ap (λ (k : ℕ). drop from (take k l)) e

pub first_left : {from to place : ℕ} (l : List ℕ) → from ≤ to → FirstFeed from to l place → place ≡ from + index_of (drop from (take to l))
first_left {from} {to} l h found = found.0 ∙ ap (λ (t : List ℕ). from + index_of t) (slice_cut from to l h)

slice_long : (from to : ℕ) (l : List ℕ) → from ≤ to → to ≤ length l → length (slice_range l from to) ≡ to - from
slice_long from to l h k = omega (arith, length-drop from l, length-take (to - from) (drop from l))

pub found_some : (from to : ℕ) (l : List ℕ) {i : ℕ} → from ≤ to → to ≤ length l → first_feed (slice_range l from to) ≡ Some i → FirstFeed from to l (from + i) × (from + i < to)
found_some from to l h k e =
    let f = from_some (slice_range l from to) e in
    let n = slice_long from to l h k in
    ((omega (arith, f.0), omega (arith, f.1, n)), omega (arith, f.1, n))

pub found_none : (from to : ℕ) (l : List ℕ) → from ≤ to → to ≤ length l → Clear (slice_range l from to) → FirstFeed from to l to
found_none from to l h k e = (omega (arith, from_none (slice_range l from to) e, slice_long from to l h k), omega arith)

-- ---- eight bytes as one word
-- the number in bytes of which the first is the lowest
abbrev low_first : List ℕ → ℕ
low_first [] = 0
low_first (byte ∷ rest) = low_first rest * 256 + byte

-- a byte in so many places
abbrev places : ℕ → ℕ → ℕ
places byte zero = 0
places byte (suc n) = places byte n * 256 + byte

abbrev pub tested : ℕ → ℕ → ℕ
tested word n = bit_and (bit_and (bit_xor word (places 117 n)) (places 127 n) + places 1 n) (places 128 n)

-- the test of a word is that of its last byte, and of those before it
last_tested : (word byte n : ℕ) → byte < 256 → tested (word * 256 + byte) (suc n) ≡ tested word n * 256 + tested byte 1
last_tested word byte n h =
    let x = xor_lt 8 byte 117 h (omega arith) in
    let y : bit_and (bit_xor byte 117) 127 + 1 < 256 = omega (arith, and_le_r (bit_xor byte 117) 127) in
    ap (λ (w : ℕ). bit_and (bit_and w (places 127 (suc n)) + places 1 (suc n)) (places 128 (suc n))) (xor_block 8 word (places 117 n) byte 117 h (omega arith))
    ∙ ap (λ (w : ℕ). bit_and (w + places 1 (suc n)) (places 128 (suc n))) (and_block 8 (bit_xor word (places 117 n)) (places 127 n) (bit_xor byte 117) 127 x (omega arith))
    ∙ ap (λ (w : ℕ). bit_and w (places 128 (suc n))) (moved (bit_and (bit_xor word (places 117 n)) (places 127 n)) (bit_and (bit_xor byte 117) 127) (places 1 n))
    ∙ and_block 8 (bit_and (bit_xor word (places 117 n)) (places 127 n) + places 1 n) (places 128 n) (bit_and (bit_xor byte 117) 127 + 1) 128 y (omega arith)
  where
    moved : (a b c : ℕ) → a * 256 + b + (c * 256 + 1) ≡ (a + c) * 256 + (b + 1)
    moved a b c = omega arith

-- where it finds none, the byte is no line feed
byte_clear : (byte : ℕ) → tested byte 1 ≡ 0 → eqb byte line_feed ≡ false
byte_clear byte h =
    by_test (eqb byte line_feed)
    (λ t. let e : tested byte 1 ≡ 128 = ap (λ (b : ℕ). tested b 1) (eqb-true byte line_feed t) in absurd (omega arith))
    (λ t. t)

last_clear : (word byte n : ℕ) → byte < 256 → tested (word * 256 + byte) (suc n) ≡ 0 → (tested word n ≡ 0) × (eqb byte line_feed ≡ false)
last_clear word byte n h e =
    let f = sym (last_tested word byte n h) ∙ e in
    (omega arith, byte_clear byte (omega arith))

-- so where it finds none in some bytes, no line feed is among them
bytes_clear : (bytes : List ℕ) → ((i : ℕ) → i < length bytes → at bytes i < 256) → tested (low_first bytes) (length bytes) ≡ 0 → index_of bytes ≡ length bytes
unfolding index_of
bytes_clear [] known e = refl
bytes_clear (byte ∷ bytes) known e =
    let p = last_clear (low_first bytes) byte (length bytes) (known 0 (omega arith)) e in
    simp p.1 (ap suc (bytes_clear bytes (λ i h. known (suc i) (omega arith)) p.0))

low_eight : (l : List ℕ) → length l ≡ 8 → from_le_bytes w64 l ≡ low_first l
low_eight [] h = absurd (omega arith)
low_eight (a ∷ []) h = absurd (omega arith)
low_eight (a ∷ b ∷ []) h = absurd (omega arith)
low_eight (a ∷ b ∷ c ∷ []) h = absurd (omega arith)
low_eight (a ∷ b ∷ c ∷ d ∷ []) h = absurd (omega arith)
low_eight (a ∷ b ∷ c ∷ d ∷ e ∷ []) h = absurd (omega arith)
low_eight (a ∷ b ∷ c ∷ d ∷ e ∷ f ∷ []) h = absurd (omega arith)
low_eight (a ∷ b ∷ c ∷ d ∷ e ∷ f ∷ g ∷ []) h = absurd (omega arith)
low_eight (a ∷ b ∷ c ∷ d ∷ e ∷ f ∷ g ∷ i ∷ []) h =
    let k : from_le_bytes w64 (a ∷ b ∷ c ∷ d ∷ e ∷ f ∷ g ∷ i ∷ [])
    ≡ a + b * 256 + c * 65536 + d * 16777216 + e * 4294967296 + f * 1099511627776 + g * 281474976710656 + i * 72057594037927936 =
    refl in
    k ∙ omega arith
low_eight (a ∷ b ∷ c ∷ d ∷ e ∷ f ∷ g ∷ i ∷ j ∷ l) h = absurd (omega arith)

pub word_clear : (l : List ℕ) {word : ℕ} → length l ≡ 8 → ((i : ℕ) → at l i < 256) → word ≡ from_le_bytes w64 l → tested word 8 ≡ 0 → Clear l
word_clear l long known is-word e =
    let w = is-word ∙ low_eight l long in
    to_none l (bytes_clear l (λ i h. known i) ((λ i. tested (sym w i) (long i)) ∙ e))
