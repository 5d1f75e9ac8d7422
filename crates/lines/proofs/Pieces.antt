-- Bytes that are answered one part after the other are answered together, to the end of the input, and so they are written. Assumes
-- nothing.
use mathlib.Core.Path.{◌≡◌, refl, sym, ap, ◌∙◌, subst}
use mathlib.Core.List.{List, [], ◌∷◌, ◌++◌, flat_map, flatten, append-nil}
use mathlib.Core.Logic.{◌⊎◌, inl, inr}
use Prim.Native.Nat.{ℕ, zero, suc, ◌+◌, ◌-◌, ◌*◌, ◌<◌, ◌≤◌, min}
use native.Mathlib.Omega.{arith}
use lib.ListN.{length, take, drop, length-append, length-take, length-drop}
use lib.Seq.{take_all, take_at, drop_at, take-take, take-add}
use Rattle.std.specs.Prelude.{Option, None, Some, IfSome}
use Rattle.std.specs.Io.KnownBytes.{Appends, Consumes, IsAtEnd}
use Rattle.std.proofs.KnownBytes.{Appends-nil, Appends-trans}
use Rattle.line.specs.declared.Form.{Form}
use Rattle.stream.specs.Stream.{head, foot, printed, ended, begun_after, lines, limit, output, held, kept, started, after, taken_of, answers, closing}
use Rattle.stream.specs.declared.Begun.{Begun}
use Rattle.stream.specs.declared.Reading.{Reading}
use Rattle.stream.proofs.Keeping.{held_kept, kept_cut}
use Rattle.stream.proofs.Printing.{answers_pieces, answers_short, answers_kept, begun_kept}
use Rattle.stream.proofs.Lines.{begun_pieces}
use Rattle.stream.proofs.Feeding.{taken_within}
use Rattle.stream.proofs.Demands.{in_pieces, takes_some, takes_within}
use Rattle.lines.specs.Answered.{Answered, answered_lines, WritesLines}

-- ---- two lines that are kept alike go on alike
module _ (l m : List ℕ) (e : kept l ≡ kept m) (bytes : List ℕ) where
  same_answers : (form : Form) → answers form l bytes ≡ answers form m bytes
  same_answers form = sym (answers_kept form l bytes) ∙ ap (λ (b : Begun). answers form (held b) bytes) e ∙ answers_kept form m bytes

  same_line : kept (begun_after l bytes) ≡ kept (begun_after m bytes)
  same_line = sym (begun_kept l bytes) ∙ ap (λ (b : Begun). kept (begun_after (held b) bytes)) e ∙ begun_kept m bytes

-- ---- bytes that are answered
pub none : (reading : Reading) → Answered reading [] reading 0
unfolding begun_after answers ended flat_map
none reading = record { form = refl; line = refl; left = omega arith; count = refl }

pub none_written : (form : Form) (begun : List ℕ) (a : Option (List ℕ)) → Appends a a (answers form begun [])
unfolding answers ended flat_map
none_written form begun a = Appends-nil a

-- their answers, and those of more bytes after them
pub together : {before mid : Reading} {xs : List ℕ} {m : ℕ} → Answered before xs mid m → (ys : List ℕ)
    → answers before.form (held before.begun) xs ++ answers mid.form (held mid.begun) ys ≡ answers before.form (held before.begun) (xs ++ ys)
together {before} {mid} {xs = xs} a ys =
    let form : Form = before.form in
    let begun : List ℕ = held before.begun in
    let same = ap (λ (f : Form). answers f (held mid.begun) ys) a.form ∙ same_answers (held mid.begun) (begun_after begun xs) a.line ys form in
    ap (λ (l : List ℕ). answers form begun xs ++ l) same ∙ sym (answers_pieces form begun xs ys)

-- so both are answered
pub more : {before mid new : Reading} {xs ys : List ℕ} {m n : ℕ} → Answered before xs mid m → Answered mid ys new n → Answered before (xs ++ ys) new (m + n)
more {before} {mid} {xs = xs} {ys = ys} a b =
    let begun : List ℕ = held before.begun in
    record {
      form = b.form ∙ a.form;
      line = b.line ∙ same_line (held mid.begun) (begun_after begun xs) a.line ys ∙ ap kept (sym (begun_pieces begun xs ys));
      left = omega (arith, a.left, b.left, length-append xs ys);
      count =
          omega (arith, a.count, b.count, ap length (together a ys), length-append (answers before.form begun xs) (answers mid.form (held mid.begun) ys));
    }

-- and what is written for the one and then for the other is what is written for both
pub more_written : {before mid : Reading} {xs : List ℕ} {m : ℕ} → Answered before xs mid m → (ys : List ℕ) (a b c : Option (List ℕ))
    → Appends a b (answers before.form (held before.begun) xs) → Appends b c (answers mid.form (held mid.begun) ys) → Appends a c (answers before.form (held before.begun) (xs ++ ys))
more_written answered ys a b c one other = subst (Appends a c) (together answered ys) (Appends-trans a b c _ _ one other)

-- so few are handed over for them that they can be counted
pub few : {before new : Reading} {bytes : List ℕ} {n : ℕ} → Answered before bytes new n → n ≤ 48 * length bytes
few {before} {bytes = bytes} a = omega (arith, a.count, answers_short before.form (held before.begun) bytes)

-- ---- text that was put at the start of a buffer
pub at_start : (text buffer out : List ℕ) (put : ℕ) → put ≡ length text → out ≡ text ++ drop put buffer → take put out ≡ text
at_start text buffer out put is-put is-out = ap (take put) is-out ∙ take_at text (drop put buffer) put (sym is-put)

-- ---- bytes of which n are fed, where there is so much room for the answers
module _ (reading new : Reading) (bytes : List ℕ) (room n : ℕ) (is-n : n ≡ taken_of (take reading.left bytes) room) where
  pub fed_answered : new ≡ after reading (take n bytes) → Answered reading (take n bytes) new (length (answers reading.form (held reading.begun) (take n bytes)))
  unfolding after
  fed_answered is-new =
      let begun : List ℕ = begun_after (held reading.begun) (take n bytes) in
      let within : n ≤ reading.left = subst (λ (k : ℕ). k ≤ reading.left) (sym is-n) (takes_within reading.left bytes room) in
      record {
        form = ap (λ (r : Reading). r.form) is-new;
        line = ap (λ (r : Reading). kept (held r.begun)) is-new ∙ ap kept (held_kept begun) ∙ kept_cut begun;
        left = omega (arith, within, ap (λ (r : Reading). r.left) is-new, length-take n bytes);
        count = refl;
      }

-- ---- a piece that is answered up to a place, with h bytes handed over
module _ (piece : List ℕ) (from : ℕ) {before mid : Reading} {h : ℕ} (a : Answered before (take from piece) mid h) where
  -- n bytes of the rest are fed
  module _ (room n : ℕ) (is-n : n ≡ taken_of (take mid.left (take (length piece - from) (drop from piece))) room) where
    abbrev rest : List ℕ
    rest = take (length piece - from) (drop from piece)

    rest_is : rest ≡ drop from piece
    rest_is = take_all (length piece - from) (drop from piece) (omega (arith, length-drop from piece))

    rest_long : length rest ≡ length piece - from
    rest_long = ap length rest_is ∙ length-drop from piece

    pub some_fed : from < length piece → length piece ≤ before.left → 48 ≤ room → 0 < n
    some_fed h many enough =
        let left : 0 < mid.left = omega (arith, a.left, length-take from piece) in
        subst (λ (k : ℕ). 0 < k) (sym is-n) (takes_some mid.left rest room left (omega (arith, rest_long)) enough)

    pub none_past : from ≤ length piece → from + n ≤ length piece
    none_past h = omega (arith, is-n, taken_within (take mid.left rest) room, length-take mid.left rest, rest_long)

    -- as they are lent to be handed over
    lent_is : take (from + n - from) (drop from piece) ≡ take n rest
    lent_is = let e : from + n - from ≡ n = omega arith in ap (λ (k : ℕ). take k (drop from piece)) e ∙ ap (take n) (sym rest_is)

    pub onward : (new : Reading) (k : ℕ) → new ≡ after mid (take n rest) → k ≡ length (answers mid.form (held mid.begun) (take (from + n - from) (drop from piece)))
        → Answered before (take (from + n) piece) new (h + k)
    onward new k is-new is-k =
        let count : length (answers mid.form (held mid.begun) (take n rest)) ≡ k = sym (is-k ∙ ap (λ (l : List ℕ). length (answers mid.form (held mid.begun) l)) lent_is) in
        let part = subst (λ (k : ℕ). Answered mid (take n rest) new k) count (fed_answered mid new rest room n is-n is-new) in
        let e : take from piece ++ take n rest ≡ take (from + n) piece = ap (λ (l : List ℕ). take from piece ++ take n l) rest_is ∙ sym (take-add from n piece) in
        subst (λ (l : List ℕ). Answered before l new (h + k)) e (more a part)

    pub onward_written : (o p q : Option (List ℕ)) → Appends o p (answers before.form (held before.begun) (take from piece))
        → Appends p q (answers mid.form (held mid.begun) (take (from + n - from) (drop from piece))) → Appends o q (answers before.form (held before.begun) (take (from + n) piece))
    onward_written o p q one other =
        let n-is : from + n - from ≡ n = omega arith in
        let e : take from piece ++ take (from + n - from) (drop from piece) ≡ take (from + n) piece = ap (λ (k : ℕ). take from piece ++ take k (drop from piece)) n-is ∙ sym (take-add from n piece) in
        subst (λ (l : List ℕ). Appends o q (answers before.form (held before.begun) l)) e (more_written a _ o p q one other)

-- ---- the end of the input
-- the bytes that `finish` takes are those of a line feed
pub last_fed : (begun : List ℕ) (room n : ℕ) → n ≡ taken_of (closing begun) room → 48 ≤ room → (n ≤ 1) × (take n (10 ∷ []) ≡ closing begun)
unfolding closing
last_fed [] room n is-n enough = let e : n ≡ 0 = omega (arith, taken_within [] room) in (omega arith, ap (λ (k : ℕ). take k (10 ∷ [])) e)
last_fed (x ∷ begun) room n is-n enough =
    let e : n ≡ 1 = omega (arith, taken_within (10 ∷ []) room, takes_some 1 (10 ∷ []) room (omega arith) (omega arith) enough) in
    (omega arith, ap (λ (k : ℕ). take k (10 ∷ [])) e)

pub last_put : (form : Form) (begun : List ℕ) (room n : ℕ) → n ≡ taken_of (closing begun) room → 48 ≤ room → (buffer out : List ℕ) (put : ℕ)
    → put ≡ length (answers form begun (take n (closing begun))) → out ≡ answers form begun (take n (closing begun)) ++ drop put buffer → take put out ≡ answers form begun (take n (10 ∷ []))
last_put form begun room n is-n enough buffer out put is-put is-out =
    let e : take n (closing begun) ≡ take n (10 ∷ []) = ap (take n) (sym (last_fed begun room n is-n enough).1) ∙ take-take n n (10 ∷ []) (omega arith) in
    at_start _ buffer out put is-put is-out ∙ ap (answers form begun) e

-- a line that is kept ends as it does
ends_kept : (form : Form) (l : List ℕ) → answers form (held (kept l)) (closing (held (kept l))) ≡ answers form l (closing l)
unfolding closing
ends_kept form l = answers_kept form l (closing (held (kept l))) ∙ ap (λ (m : List ℕ). answers form l (closing m)) (held_kept l) ∙ ap (answers form l) (cut l)
  where
    cut : (l : List ℕ) → closing (take 27 l) ≡ closing l
    cut [] = refl
    cut (x ∷ l) = refl

-- ---- the output of an input that was answered
cancel : (head foot : List ℕ) {l m : List ℕ} → head ++ l ++ foot ≡ head ++ m ++ foot → l ≡ m
cancel head foot {l} {m} e =
    let long : length (head ++ l) ≡ length (head ++ m) = omega (arith, ap length e, length-append (head ++ l) foot, length-append (head ++ m) foot) in
    let front : head ++ l ≡ head ++ m = sym (take_at (head ++ l) foot _ long) ∙ ap (take (length (head ++ m))) e ∙ take_at (head ++ m) foot _ refl in
    sym (drop_at head l _ refl) ∙ ap (drop (length head)) front ∙ drop_at head m _ refl

-- of a reader's bytes, where they are known, those that were read are all up to the limit
all_read : (a b : Option (List ℕ)) (input : List ℕ) → length input ≤ limit → Consumes a b input → (length input ≡ limit) ⊎ IsAtEnd b
    → (P : List ℕ → Type 0) → P (take limit input) → IfSome a (λ bytes. P (take limit bytes))
all_read None b input most reads ended P h = tt
all_read (Some bytes) None input most reads ended P h = absurd reads
all_read (Some bytes) (Some more) input most reads (inl long) P h = subst P (take_all limit input most ∙ sym (ap (take limit) reads ∙ take_at input more limit long)) h
all_read (Some bytes) (Some more) input most reads (inr end) P h = subst P (ap (take limit) (sym (reads ∙ ap (λ (l : List ℕ). input ++ l) end ∙ append-nil input))) h

-- where the lesser of two is none, one is
pub none_of : (count left : ℕ) → min count left ≡ 0 → (left ≡ 0) ⊎ (count ≡ 0)
none_of zero left e = inr refl
none_of (suc count) zero e = inl refl
none_of (suc count) (suc left) e = absurd (omega arith)

module _ (form : Form) {reading : Reading} {handed : ℕ} (input : List ℕ) (a : Answered (started form) input reading handed) where
  abbrev begun : List ℕ
  begun = held (kept [])

  abbrev line : List ℕ
  line = held reading.begun

  output_is : output form input ≡ head form ++ (answers form begun input ++ answers form line (closing line)) ++ foot form
  unfolding flatten after
  output_is =
      let cut : take limit input ≡ input = take_all limit input (omega (arith, a.left)) in
      let state : kept (begun_after begun (take limit input)) ≡ kept line = ap (λ (l : List ℕ). kept (begun_after begun l)) cut ∙ sym a.line in
      ap (output form) (sym (append-nil input))
      ∙ sym (in_pieces form (input ∷ []))
      ∙ (λ i. head form ++ (answers form begun (cut i) ++ answers form (held (state i)) (closing (held (state i)))) ++ foot form)
      ∙ ap (λ (l : List ℕ). head form ++ (answers form begun input ++ l) ++ foot form) (ends_kept form line)

  -- so with the last line, the head and the foot it is answered whole
  pub whole : {bytes : ℕ} → bytes ≡ length (answers reading.form line (closing line)) → length (head form) + (handed + bytes) + length (foot form) ≡ length (output form input)
  whole is-bytes =
      omega (
        arith,
        a.count,
        is-bytes,
        ap (λ (f : Form). length (answers f line (closing line))) a.form,
        ap length output_is,
        length-append (head form ++ (answers form begun input ++ answers form line (closing line))) (foot form),
        length-append (head form) (answers form begun input ++ answers form line (closing line)),
        length-append (answers form begun input) (answers form line (closing line)),
      )

  -- and what was written for it and for the last line is what stands between these
  lines_are : answers form begun input ++ answers form line (closing line) ≡ answered_lines form input
  lines_are = cancel (head form) (foot form) (sym output_is)

  pub lines_written : (given rest : Option (List ℕ)) → Consumes given rest input → (reading.left ≡ 0) ⊎ IsAtEnd rest → (o p q : Option (List ℕ))
      → Appends o p (answers form begun input) → Appends p q (answers reading.form line (closing line)) → WritesLines form given o q
  lines_written given rest reads ended o p q one other =
      let last = subst (λ (f : Form). Appends p q (answers f line (closing line))) a.form other in
      let all : Appends o q (answered_lines form input) = subst (Appends o q) lines_are (Appends-trans o p q _ _ one last) in
      let at-end : (length input ≡ limit) ⊎ IsAtEnd rest = elim ended [ inl none ↦ inl (omega (arith, a.left)) | inr end ↦ inr end ] in
      all_read given rest input (omega (arith, a.left)) reads at-end (λ (l : List ℕ). Appends o q (flat_map (printed form) (lines l))) all
