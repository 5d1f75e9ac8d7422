-- The loop of `feed`: the bytes up to the next line feed, and what is put and begun once they were taken. Assumes nothing.
use mathlib.Core.Path.{◌≡◌, refl, sym, ap, ◌∙◌, subst}
use mathlib.Core.Bool.{true}
use mathlib.Core.List.{List, [], ◌∷◌, ◌++◌, flat_map, append-nil, append_assoc}
use Prim.Native.Nat.{ℕ, zero, suc, ◌+◌, ◌-◌, ◌*◌, ◌/◌, ◌<◌, ◌≤◌, min}
use native.Mathlib.Numerals.{add-one}
use native.Mathlib.Omega.{arith}
use lib.Dec.{eqb}
use lib.ListN.{length, take, drop, get_or, length-append, length-take, length-drop}
use lib.Seq.{length-take-le, take-take, drop-drop, take-add, take-suc, get_or-take, get_or-drop}
use borrow.Author.Tests.{eqb-true}
use borrow.Rule.Slice.PartMut.{put_mid}
use Rattle.whole.proofs.Bools.{by_test}
use Rattle.kinds.specs.Bytes.{part}
use Rattle.kinds.proofs.Writing.{grown}
use Rattle.std.specs.Prelude.{Some}
use Rattle.line.specs.Line.{line_feed, unbroken}
use Rattle.line.specs.declared.Form.{Form}
use Rattle.stream.specs.Inside.{first_feed, Clear, end_for}
use Rattle.stream.specs.Stream.{printed, ended, begun_after, held, kept, after, at_end, of_lines, taken_of, answers, closing}
use Rattle.stream.specs.declared.Begun.{Begun}
use Rattle.stream.specs.declared.Reading.{Reading}
use Rattle.stream.specs.declared.Fed.{Fed}
use Rattle.stream.proofs.Lines.{begun_pieces, goes_on, begins_anew}
use Rattle.stream.proofs.Keeping.{take_min}
use Rattle.stream.proofs.Finding.{index_of, FirstFeed, first_left, found_some, found_none}
use Rattle.stream.proofs.Printing.{printed_short, answers_pieces, answers_none, answers_line}

-- ---- the next line feed
before_feed : (xs : List ℕ) → unbroken (take (index_of xs) xs) ≡ true
unfolding index_of
before_feed [] = refl
before_feed (x ∷ xs) = by_test (eqb x line_feed) (λ t. simp t) (λ t. simp t (before_feed xs))

at_feed : (xs : List ℕ) → index_of xs < length xs → get_or xs (index_of xs) 0 ≡ line_feed
unfolding index_of
at_feed [] h = absurd (omega arith)
at_feed (x ∷ xs) h =
    by_test (eqb x line_feed)
    (λ t. simp t (eqb-true x line_feed t))
    (λ t. let k : suc (index_of xs) < suc (length xs) = simp t at h in simp t (at_feed xs (omega arith)))

part_of : (from to n : ℕ) (l : List ℕ) → from + n ≤ to → part from n (take to l) ≡ part from n l
part_of zero to n l h = take-take n to l (omega arith)
part_of (suc from) zero n l h = absurd (omega arith)
part_of (suc from) (suc to) n [] h = refl
part_of (suc from) (suc to) n (x ∷ l) h = part_of from to n l (omega arith)

-- ---- how many bytes are taken
-- no more than there are
pub of_lines_within : (k : ℕ) (xs : List ℕ) → of_lines k xs ≤ length xs
unfolding of_lines
of_lines_within zero xs = omega arith
of_lines_within (suc k) [] = omega arith
of_lines_within (suc k) (x ∷ xs) = by_test (eqb x line_feed) (λ t. simp t (omega (arith, of_lines_within k xs))) (λ t. simp t (omega (arith, of_lines_within (suc k) xs)))

pub taken_within : (bytes : List ℕ) (room : ℕ) → taken_of bytes room ≤ length bytes
unfolding taken_of
taken_within bytes room = of_lines_within _ bytes

-- nor than may be
pub no_more : (left : ℕ) (bytes : List ℕ) (room : ℕ) → taken_of (take left bytes) room ≤ left
no_more left bytes room = omega (arith, taken_within (take left bytes) room, length-take left bytes)

-- up to the first line feed, and then for one line less
line_taken : (k : ℕ) (xs : List ℕ) → index_of xs < length xs → of_lines (suc k) xs ≡ suc (index_of xs) + of_lines k (drop (suc (index_of xs)) xs)
unfolding of_lines index_of
line_taken k [] h = absurd (omega arith)
line_taken k (x ∷ xs) h =
    by_test (eqb x line_feed)
    (λ t. simp t (omega arith))
    (λ t. let j : suc (index_of xs) < suc (length xs) = simp t at h in simp t (omega (arith, line_taken k xs (omega arith))))

-- all where there is none
all_taken : (k : ℕ) (xs : List ℕ) → length xs ≤ index_of xs → of_lines (suc k) xs ≡ length xs
unfolding of_lines index_of
all_taken k [] h = refl
all_taken k (x ∷ xs) h =
    by_test (eqb x line_feed)
    (λ t. let j : suc (length xs) ≤ 0 = simp t at h in absurd (omega arith))
    (λ t. let j : suc (length xs) ≤ suc (index_of xs) = simp t at h in simp t (ap suc (all_taken k xs (omega arith))))

-- there is room for what is put for them
pub fits : (form : Form) (begun : List ℕ) (k : ℕ) (xs : List ℕ) → length (answers form begun (take (of_lines k xs) xs)) ≤ 48 * k
unfolding of_lines answers ended flat_map
fits form begun zero xs = omega arith
fits form begun (suc k) [] = omega arith
fits form begun (suc k) (x ∷ xs) =
    by_test (eqb x line_feed)
    (λ t. simp (t, length-append) (omega (arith, printed_short form begun, fits form [] k xs)))
    (λ t. simp t (fits form (begun ++ x ∷ []) (suc k) xs))

-- ---- what holds where the bytes before `from` were read, of `most` that may be taken, and so many lines more have room
pub record Good (form : Form) (bytes begun out₀ : List ℕ) (most : ℕ) (out line : List ℕ) (lines from put : ℕ) : Type 0 where
  pub enough : most ≤ length bytes
  pub within : from ≤ most
  pub count : put ≡ length (answers form begun (take from bytes))
  pub text : out ≡ answers form begun (take from bytes) ++ drop put out₀
  pub line_is : line ≡ begun_after begun (take from bytes)
  pub room : put + 48 * lines ≤ length out₀
  pub taken_is : taken_of (take most bytes) (length out₀) ≡ from + of_lines lines (drop from (take most bytes))

pub start : (form : Form) (bytes begun out₀ : List ℕ) {most lines : ℕ} → most ≤ length bytes → lines ≡ length out₀ / 48 → Good form bytes begun out₀ most out₀ begun lines 0 0
unfolding answers ended flat_map begun_after taken_of
start form bytes begun out₀ {most} enough is-lines =
    record {
      enough = enough;
      within = omega arith;
      count = refl;
      text = refl;
      line_is = refl;
      room = omega arith;
      taken_is = ap (λ (k : ℕ). of_lines k (take most bytes)) (sym is-lines) ∙ omega arith;
    }

-- ---- where the bytes end that may be taken
ends_within : (lines from most : ℕ) → from ≤ most → {to : ℕ} → to ≡ end_for lines from most → (from ≤ to) × (to ≤ most)
ends_within zero from most h e = (omega arith, omega arith)
ends_within (suc lines) from most h e = (omega arith, omega arith)

-- where a line ends before, there is room for one
one_more : (lines from most : ℕ) {to end : ℕ} → to ≡ end_for lines from most → from ≤ end → end < to → (0 < lines) × (to ≡ most)
one_more zero from most e h k = absurd (omega arith)
one_more (suc lines) from most e h k = (omega arith, e)

-- where none does, no more are taken
stops : (lines from most : ℕ) (bytes : List ℕ) {to end : ℕ} → from ≤ most → most ≤ length bytes → to ≡ end_for lines from most → FirstFeed from to bytes end → to ≤ end
    → to ≡ from + of_lines lines (drop from (take most bytes))
unfolding of_lines
stops zero from most bytes h k e first last = omega arith
stops (suc lines) from most bytes {to} {end} h k e first last =
    let f : FirstFeed from most bytes end = subst (λ (t : ℕ). FirstFeed from t bytes end) e first in
    let g : end ≡ from + index_of (drop from (take most bytes)) = first_left bytes h f in
    let l = length-drop from (take most bytes) in
    let m = length-take most bytes in
    omega (arith, e, l, m, all_taken lines (drop from (take most bytes)) (omega (arith, g, l, m, last, e)))

-- the bytes from a place up to another
abbrev between : ℕ → ℕ → List ℕ → List ℕ
between from to bytes = part from (to - from) bytes

module _ {form : Form} {bytes begun out₀ : List ℕ} {most : ℕ} {out line : List ℕ} {lines from put : ℕ} (good : Good form bytes begun out₀ most out line lines from put) where
  pub put_within : put ≤ length out
  put_within = omega (arith, ap length good.text, length-append (answers form begun (take from bytes)) (drop put out₀), good.count)

  pub long : length out ≡ length out₀
  long = omega (arith, ap length good.text, length-append (answers form begun (take from bytes)) (drop put out₀), length-drop put out₀, good.count, good.room)

  pub to_within : {to : ℕ} → to ≡ end_for lines from most → (from ≤ to) × ((to ≤ most) × (to ≤ length bytes))
  to_within is-to = let e = ends_within lines from most good.within is-to in (e.0, (e.1, omega (arith, e.1, good.enough)))

  -- the next line feed is at `end`, or none is and `end` is `taken`
  module _ {taken end : ℕ} (is-taken : taken ≡ end_for lines from most) (first : FirstFeed from taken bytes end) where
    end_is : end ≡ from + index_of (drop from (take taken bytes))
    end_is = first_left bytes (to_within is-taken).0 first

    no_feed : unbroken (between from end bytes) ≡ true
    no_feed =
        let n : ℕ = index_of (drop from (take taken bytes)) in
        let e : end - from ≡ n = omega (arith, end_is) in
        ap (λ (n : ℕ). unbroken (part from n bytes)) e
        ∙ ap unbroken (sym (part_of from taken n bytes (omega (arith, end_is, first.1))))
        ∙ before_feed (drop from (take taken bytes))

    up_to_end : take end bytes ≡ take from bytes ++ between from end bytes
    up_to_end = let e : end ≡ from + (end - from) = omega (arith, first.0) in ap (λ (n : ℕ). take n bytes) e ∙ take-add from (end - from) bytes

    -- ---- a line ends
    module _ (more : end < taken) where
      feed_there : get_or bytes end 0 ≡ line_feed
      feed_there =
          let xs : List ℕ = drop from (take taken bytes) in
          let n : ℕ = index_of xs in
          ap (λ (n : ℕ). get_or bytes n 0) end_is
          ∙ sym (get_or-take taken bytes (from + n) 0 (omega (arith, end_is)))
          ∙ sym (get_or-drop from (take taken bytes) n 0)
          ∙ at_feed xs (omega (arith, end_is, length-drop from (take taken bytes), length-take taken bytes, (to_within is-taken).1.1))

      past_end : take (end + 1) bytes ≡ take from bytes ++ (between from end bytes ++ line_feed ∷ [])
      past_end =
          ap (λ (n : ℕ). take n bytes) (add-one end)
          ∙ take-suc bytes end 0 (omega (arith, (to_within is-taken).1.1))
          ∙ (λ i. up_to_end i ++ feed_there i ∷ [])
          ∙ append_assoc (take from bytes) (between from end bytes) (line_feed ∷ [])

      answers_next : answers form begun (take (end + 1) bytes) ≡ answers form begun (take from bytes) ++ printed form (line ++ between from end bytes)
      unfolding answers ended flat_map
      answers_next =
          ap (answers form begun) past_end
          ∙ answers_pieces form begun (take from bytes) (between from end bytes ++ line_feed ∷ [])
          ∙ ap (λ (l : List ℕ). answers form begun (take from bytes) ++ l) (answers_line form (begun_after begun (take from bytes)) (between from end bytes) [] no_feed ∙ append-nil _)
          ∙ ap (λ (l : List ℕ). answers form begun (take from bytes) ++ printed form (l ++ between from end bytes)) (sym good.line_is)

      begun_next : begun_after begun (take (end + 1) bytes) ≡ []
      unfolding begun_after
      begun_next =
          ap (begun_after begun) past_end
          ∙ begun_pieces begun (take from bytes) (between from end bytes ++ line_feed ∷ [])
          ∙ begins_anew (begun_after begun (take from bytes)) (between from end bytes) [] no_feed

      count_next : length (answers form begun (take (end + 1) bytes)) ≡ put + length (printed form (line ++ between from end bytes))
      count_next = omega (arith, ap length answers_next, length-append (answers form begun (take from bytes)) (printed form (line ++ between from end bytes)), good.count)

      pub some_left : (0 < lines) × (taken ≡ most)
      some_left = one_more lines from most is-taken (omega (arith, first.0)) more

      -- its answer has room, and so have the lines after it
      room : put + length (printed form (line ++ between from end bytes)) + 48 * (lines - 1) ≤ length out₀
      room = omega (arith, printed_short form (line ++ between from end bytes), good.room, some_left.0)

      taken_next : taken_of (take most bytes) (length out₀) ≡ end + 1 + of_lines (lines - 1) (drop (end + 1) (take most bytes))
      taken_next =
          let xs : List ℕ = drop from (take most bytes) in
          let f : FirstFeed from most bytes end = subst (λ (t : ℕ). FirstFeed from t bytes end) some_left.1 first in
          let n : ℕ = index_of xs in
          let g : end ≡ from + n = first_left bytes good.within f in
          let k : lines ≡ suc (lines - 1) = omega (arith, some_left.0) in
          let e : from + suc n ≡ end + 1 = omega (arith, g) in
          let less : n < length xs = omega (arith, g, more, some_left.1, length-drop from (take most bytes), length-take most bytes, good.enough) in
          let next : drop (suc n) xs ≡ drop (end + 1) (take most bytes) = drop-drop (suc n) from (take most bytes) ∙ ap (λ (j : ℕ). drop j (take most bytes)) e in
          omega (arith, good.taken_is, ap (λ (j : ℕ). of_lines j xs) k, line_taken (lines - 1) xs less, ap (of_lines (lines - 1)) next, g)

      pub lent_room : length (printed form (line ++ between from end bytes)) ≤ length (take (length out - put) (drop put out))
      lent_room = omega (arith, room, long, length-take (length out - put) (drop put out), length-drop put out)

      pub turn : (r : ℕ) (new : List ℕ) → r ≡ length (printed form (line ++ between from end bytes))
          → new ≡ printed form (line ++ between from end bytes) ++ drop r (take (length out - put) (drop put out))
          → Good form bytes begun out₀ most (put_mid put (length out - put) out new) [] (lines - 1) (end + 1) (put + r)
      turn r new is-r is-new =
          let text = grown (answers form begun (take from bytes)) out₀ (printed form (line ++ between from end bytes)) put r (sym good.count) in
          record {
            enough = good.enough;
            within = omega (arith, more, some_left.1);
            count = omega (arith, count_next);
            text = rw (is-new, good.text) (text ∙ ap (λ (l : List ℕ). l ++ drop (put + r) out₀) (sym answers_next));
            line_is = sym begun_next;
            room = omega (arith, room);
            taken_is = taken_next;
          }

    -- ---- no more line ends
    module _ (last : taken ≤ end) where
      all_is : taken ≡ taken_of (take most bytes) (length out₀)
      all_is = stops lines from most bytes good.within good.enough is-taken first last ∙ sym good.taken_is

      all_up : take taken bytes ≡ take from bytes ++ between from end bytes
      all_up = let e : taken ≡ end = omega (arith, first.1) in ap (λ (n : ℕ). take n bytes) e ∙ up_to_end

      all_put : answers form begun (take taken bytes) ≡ answers form begun (take from bytes)
      all_put =
          ap (answers form begun) all_up
          ∙ answers_pieces form begun (take from bytes) (between from end bytes)
          ∙ ap (λ (l : List ℕ). answers form begun (take from bytes) ++ l) (answers_none form (begun_after begun (take from bytes)) (between from end bytes) no_feed)
          ∙ append-nil (answers form begun (take from bytes))

      begun_then : begun_after begun (take taken bytes) ≡ line ++ between from taken bytes
      begun_then =
          let e : end ≡ taken = omega (arith, first.1) in
          ap (begun_after begun) all_up
          ∙ begun_pieces begun (take from bytes) (between from end bytes)
          ∙ goes_on (begun_after begun (take from bytes)) (between from end bytes) no_feed
          ∙ (λ i. sym good.line_is i ++ between from (e i) bytes)

      all_begun : (r : Begun) → r ≡ kept (line ++ between from taken bytes) → r ≡ kept (begun_after begun (take taken bytes))
      all_begun r is-r = is-r ∙ ap kept (sym begun_then)

      all_counted : put ≡ length (answers form begun (take taken bytes))
      all_counted = good.count ∙ ap length (sym all_put)

      all_there : out ≡ answers form begun (take taken bytes) ++ drop put out₀
      all_there = good.text ∙ ap (λ (l : List ℕ). l ++ drop put out₀) (sym all_put)

-- what is lent of the bytes up to `taken`, with the next line feed at i of these
module _ {form : Form} {bytes begun out₀ : List ℕ} {most : ℕ} {out line : List ℕ} {lines from put : ℕ} (good : Good form bytes begun out₀ most out line lines from put)
    {taken i : ℕ} (is-taken : taken ≡ end_for lines from most) (found : first_feed (between from taken bytes) ≡ Some i) where
  first : FirstFeed from taken bytes (from + i) × (from + i < taken)
  first = let w = to_within good is-taken in found_some from taken bytes w.0 w.1.1 found

  rest_is : take i (between from taken bytes) ≡ between from (from + i) bytes
  rest_is =
      let e : from + i - from ≡ i = omega arith in
      take-take i (taken - from) (drop from bytes) (omega (arith, first.1)) ∙ ap (λ (n : ℕ). part from n bytes) (sym e)

  pub line_lent : length (printed form (line ++ take i (between from taken bytes))) ≤ length (take (length out - put) (drop put out))
  line_lent = subst (λ (l : List ℕ). length (printed form (line ++ l)) ≤ length (take (length out - put) (drop put out))) (sym rest_is) (lent_room good is-taken first.0 first.1)

  pub next_turn : (r : ℕ) (new : List ℕ) → r ≡ length (printed form (line ++ take i (between from taken bytes)))
      → new ≡ printed form (line ++ take i (between from taken bytes)) ++ drop r (take (length out - put) (drop put out))
      → Good form bytes begun out₀ most (put_mid put (length out - put) out new) [] (lines - 1) (from + (i + 1)) (put + r)
  next_turn r new is-r is-new =
      let e : from + i + 1 ≡ from + (i + 1) = omega arith in
      subst (λ (n : ℕ). Good form bytes begun out₀ most (put_mid put (length out - put) out new) [] (lines - 1) n (put + r)) e
      (turn good is-taken first.0 first.1 r new (is-r ∙ ap (λ (l : List ℕ). length (printed form (line ++ l))) rest_is)
      (is-new ∙ ap (λ (l : List ℕ). printed form (line ++ l) ++ drop r (take (length out - put) (drop put out))) rest_is))

-- ---- what a call promises
-- of the bytes that it took, where put bytes are put
abbrev Puts : Form → List ℕ → List ℕ → List ℕ → List ℕ → ℕ → Type 0
Puts form begun taken out₀ out put =
    (put ≡ length (answers form begun taken))
    × ((out ≡ answers form begun taken ++ drop put out₀)
    × ((put ≤ length out) × (put ≡ length (take put out))))

abbrev Took : Reading → List ℕ → List ℕ → List ℕ → Fed → Type 0
Took reading bytes out₀ out fed =
    (fed.taken ≡ taken_of (take reading.left bytes) (length out₀))
    × ((fed.reading ≡ after reading (take fed.taken bytes))
    × Puts reading.form (held reading.begun) (take fed.taken bytes) out₀ out fed.put)

pub whole : (reading : Reading) {bytes out₀ out line : List ℕ} {most lines from put taken : ℕ} (good : Good reading.form bytes (held reading.begun) out₀ most out line lines from put)
    → most ≡ min reading.left (length bytes) → taken ≡ end_for lines from most → Clear (between from taken bytes) → (r : Begun) → r ≡ kept (line ++ between from taken bytes)
    → Took reading bytes out₀ out (record { reading = record { form = reading.form; begun = r; left = reading.left - taken }; taken = taken; put = put })
unfolding after
whole reading {bytes} {out₀} {out} {most = most} {from = from} {put = put} {taken = taken} good is-most is-taken clear r is-r =
    let w = to_within good is-taken in
    let first : FirstFeed from taken bytes taken = found_none from taken bytes w.0 w.1.1 clear in
    let last : taken ≤ taken = omega arith in
    let n : taken ≡ length (take taken bytes) = sym (length-take-le taken bytes w.1.1) in
    let may : take most bytes ≡ take reading.left bytes = ap (λ (k : ℕ). take k bytes) is-most ∙ take_min reading.left bytes in
    let state : record { form = reading.form; begun = r; left = reading.left - taken } ≡ after reading (take taken bytes) = λ i. record { form = reading.form; begun = all_begun good is-taken first last r is-r i; left = reading.left - n i } in
    (all_is good is-taken first last ∙ ap (λ (l : List ℕ). taken_of l (length out₀)) may, (state, (all_counted good is-taken first last, (all_there good is-taken first last, (put_within good, sym (length-take-le put out (put_within good)))))))

-- ---- the end of an input
-- a line feed that is taken where a line is begun
closes : (bytes : List ℕ) (count : ℕ) → length bytes ≡ 27 → take (min count 1) (line_feed ∷ []) ≡ closing (take count bytes)
unfolding closing
closes [] count long = absurd (omega arith)
closes (x ∷ bytes) zero long = refl
closes (x ∷ bytes) (suc count) long = let e : min (suc count) 1 ≡ 1 = omega arith in ap (λ (n : ℕ). take n (line_feed ∷ [])) e

abbrev Closed : Reading → List ℕ → List ℕ → Fed → Type 0
Closed reading out₀ out fed =
    (fed.taken ≡ taken_of (closing (held reading.begun)) (length out₀))
    × ((fed.reading ≡ at_end (after reading (take fed.taken (closing (held reading.begun)))))
    × Puts reading.form (held reading.begun) (take fed.taken (closing (held reading.begun))) out₀ out fed.put)

pub closed : (reading : Reading) (out₀ out : List ℕ) (fed : Fed) {left : ℕ} → length reading.begun.bytes ≡ 27 → left ≡ min reading.begun.count 1
    → Took (record { form = reading.form; begun = reading.begun; left = left }) (line_feed ∷ []) out₀ out fed
    → Closed reading out₀ out (record { reading = record { form = reading.form; begun = fed.reading.begun; left = 0 }; taken = fed.taken; put = fed.put })
unfolding after
closed reading out₀ out fed {left} long is-left t =
    let begun : List ℕ = held reading.begun in
    let may : take left (line_feed ∷ []) ≡ closing begun = ap (λ (n : ℕ). take n (line_feed ∷ [])) is-left ∙ closes reading.begun.bytes reading.begun.count long in
    let same : take fed.taken (line_feed ∷ []) ≡ take fed.taken (closing begun) =
    sym (take-take fed.taken left (line_feed ∷ []) (omega (arith, t.0, no_more left (line_feed ∷ []) (length out₀)))) ∙ ap (take fed.taken) may in
    let line = ap (λ (r : Reading). r.begun) t.1.0 ∙ ap (λ (l : List ℕ). kept (begun_after begun l)) same in
    (t.0 ∙ ap (λ (l : List ℕ). taken_of l (length out₀)) may, (λ i. record { form = reading.form; begun = line i; left = 0 }, subst (λ (l : List ℕ). Puts reading.form begun l out₀ out fed.put) same t.1.1))
