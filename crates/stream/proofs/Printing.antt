-- What is printed for a line, and for the lines that end in some bytes, in a form: how long it is, and that 27 bytes of a longer
-- line are enough. Assumes nothing.
use mathlib.Core.Path.{◌≡◌, refl, sym, ap, ◌∙◌, subst}
use mathlib.Core.Bool.{true}
use mathlib.Core.List.{List, [], ◌∷◌, ◌++◌, flat_map, append_assoc}
use Prim.Native.Nat.{ℕ, ◌*◌, ◌≤◌}
use native.Mathlib.Omega.{arith}
use lib.Dec.{eqb, leb}
use lib.ListN.{length, take, drop, length-append}
use lib.Seq.{take_all, take-take, length-take-le}
use borrow.Author.Tests.{leb-true, leb-false, le-leb, ne_eqb}
use Rattle.whole.specs.Digits.{byte_of}
use Rattle.whole.proofs.Bools.{by_test}
use Rattle.kinds.specs.Answer.{Answer, gives, refused, placed, following, counted, lent}
use Rattle.kinds.specs.Bytes.{ascii}
use Rattle.kinds.proofs.Answers.{not_both, passed, same_value}
use Rattle.line.specs.Line.{line_feed, text_to, line_in, unbroken}
use Rattle.line.specs.declared.Form.{Form}
use Rattle.line.specs.declared.Form.TheVariants.{Numbers, Waypoints}
use Rattle.line.proofs.Printing.{text_short, text_ends, wrong_length}
use Rattle.stream.specs.Stream.{refused_line, line_out, printed, ended, begun_after, held, kept, answers}
use Rattle.stream.specs.declared.Begun.{Begun}
use Rattle.stream.proofs.Keeping.{take_again, held_kept, kept_cut}
use Rattle.stream.proofs.Lines.{ended_pieces, none_ends, line_ends}

-- ---- the line of a refusal
refused_short : (form : Form) (n : ℕ) → length (refused_line form n) ≤ 19
unfolding refused_line
refused_short Numbers n = omega arith
refused_short Waypoints n = omega arith

refused_ends : (form : Form) (n : ℕ) → (text : List ℕ) × ((refused_line form n ≡ text ++ line_feed ∷ []) × (unbroken text ≡ true))
unfolding refused_line
refused_ends Numbers n = (ascii "refused " ++ byte_of n ∷ [], (refl, simp (ne_eqb (byte_of n) line_feed (λ e. omega arith))))
refused_ends Waypoints n = (ascii "<!-- refused " ++ byte_of n ∷ ascii " -->", (refl, simp (ne_eqb (byte_of n) line_feed (λ e. omega arith))))

-- ---- a line
module _ (form : Form) (line : List ℕ) where
  said_short : (a : Answer (List ℕ)) → text_to form line ≡ a → length (line_out form a) ≤ 48
  said_short (gives text) h = text_short form line h
  said_short (refused n) h = omega (arith, refused_short form n)

  pub printed_short : length (printed form line) ≤ 48
  unfolding printed
  printed_short = said_short (text_to form line) refl

  -- a line feed ends it, and no other is in it
  said_ends : (a : Answer (List ℕ)) → text_to form line ≡ a → (text : List ℕ) × ((line_out form a ≡ text ++ line_feed ∷ []) × (unbroken text ≡ true))
  said_ends (gives text) h = text_ends form line h
  said_ends (refused n) h = refused_ends form n

  pub printed_ends : (text : List ℕ) × ((printed form line ≡ text ++ line_feed ∷ []) × (unbroken text ≡ true))
  unfolding printed
  printed_ends = said_ends (text_to form line) refl

  -- another length than 26
  pub printed_refused : (length line ≡ 26 → ⊥) → printed form line ≡ refused_line form 1
  unfolding printed
  printed_refused h = ap (line_out form) (wrong_length form line h)

-- so 27 bytes of a longer line are enough
printed_cut : (form : Form) (line : List ℕ) → printed form (take 27 line) ≡ printed form line
printed_cut form line =
    by_test (leb (length line) 27)
    (λ t. ap (printed form) (take_all 27 line (leb-true (length line) 27 t)))
    (λ t.
    let h = leb-false (length line) 27 t in
    printed_refused form (take 27 line) (λ e. omega (arith, length-take-le 27 line (omega arith))) ∙ sym (printed_refused form line (λ e. omega arith)))

pub printed_kept : (form : Form) (begun : Begun) (line : List ℕ) → begun ≡ kept line → printed form (held begun) ≡ printed form line
printed_kept form begun line h = ap (λ (b : Begun). printed form (held b)) h ∙ ap (printed form) (held_kept line) ∙ printed_cut form line

-- what fits and what was put for one fits and was put for the other: r bytes, at the start of out
module _ {p q : List ℕ} (e : p ≡ q) where
  pub room_alike : {n : ℕ} → length p ≤ n → length q ≤ n
  room_alike {n} h = subst (λ (t : List ℕ). length t ≤ n) e h

  pub put_alike : (out new : List ℕ) (r : ℕ) → (r ≡ length p) × (new ≡ p ++ drop r out) → (r ≡ length q) × (new ≡ q ++ drop r out)
  put_alike out new r h = subst (λ (t : List ℕ). (r ≡ length t) × (new ≡ t ++ drop r out)) e h

-- ---- the lines that end in some bytes
module _ (form : Form) where
  pub flat_pieces : (ls ms : List (List ℕ)) → flat_map (printed form) (ls ++ ms) ≡ flat_map (printed form) ls ++ flat_map (printed form) ms
  unfolding flat_map
  flat_pieces [] ms = refl
  flat_pieces (l ∷ ls) ms =
      ap (λ (t : List ℕ). printed form l ++ t) (flat_pieces ls ms) ∙ sym (append_assoc (printed form l) (flat_map (printed form) ls) (flat_map (printed form) ms))

  pub answers_pieces : (begun xs ys : List ℕ) → answers form begun (xs ++ ys) ≡ answers form begun xs ++ answers form (begun_after begun xs) ys
  unfolding answers
  answers_pieces begun xs ys = ap (flat_map (printed form)) (ended_pieces begun xs ys) ∙ flat_pieces (ended begun xs) (ended (begun_after begun xs) ys)

  -- none ends
  pub answers_none : (begun l : List ℕ) → unbroken l ≡ true → answers form begun l ≡ []
  unfolding answers flat_map
  answers_none begun l h = ap (flat_map (printed form)) (none_ends begun l h)

  -- one ends
  pub answers_line : (begun l rest : List ℕ) → unbroken l ≡ true → answers form begun (l ++ line_feed ∷ rest) ≡ printed form (begun ++ l) ++ answers form [] rest
  unfolding answers flat_map
  answers_line begun l rest h = ap (flat_map (printed form)) (line_ends begun l rest h)

  -- 48 bytes for each byte in, of which each may end a line
  pub answers_short : (begun bytes : List ℕ) → length (answers form begun bytes) ≤ 48 * length bytes
  unfolding answers ended flat_map
  answers_short begun [] = omega arith
  answers_short begun (x ∷ bytes) =
      by_test (eqb x line_feed)
      (λ t. simp (t, length-append) (omega (arith, printed_short form begun, answers_short [] bytes)))
      (λ t. simp t (omega (arith, answers_short (begun ++ x ∷ []) bytes)))

  -- 27 bytes of a line that is begun are enough
  answers_cut : (begun bytes : List ℕ) → answers form (take 27 begun) bytes ≡ answers form begun bytes
  unfolding answers ended flat_map
  answers_cut begun [] = refl
  answers_cut begun (x ∷ bytes) =
      by_test (eqb x line_feed)
      (λ t. simp t (ap (λ (l : List ℕ). l ++ answers form [] bytes) (printed_cut form begun)))
      (λ t. simp t (sym (answers_cut (take 27 begun ++ x ∷ []) bytes) ∙ ap (λ (l : List ℕ). answers form l bytes) (take_again 27 begun (x ∷ [])) ∙ answers_cut (begun ++ x ∷ []) bytes))

  -- so a line goes on from what is kept of it
  pub answers_kept : (line bytes : List ℕ) → answers form (held (kept line)) bytes ≡ answers form line bytes
  answers_kept line bytes = ap (λ (l : List ℕ). answers form l bytes) (held_kept line) ∙ answers_cut line bytes

-- and so does the line that is begun after some bytes
begun_cut : (begun bytes : List ℕ) → take 27 (begun_after (take 27 begun) bytes) ≡ take 27 (begun_after begun bytes)
unfolding begun_after
begun_cut begun [] = take-take 27 27 begun (omega arith)
begun_cut begun (x ∷ bytes) =
    by_test (eqb x line_feed)
    (λ t. simp t)
    (λ t. simp t (sym (begun_cut (take 27 begun ++ x ∷ []) bytes) ∙ ap (λ (l : List ℕ). take 27 (begun_after l bytes)) (take_again 27 begun (x ∷ [])) ∙ begun_cut (begun ++ x ∷ []) bytes))

pub begun_kept : (line bytes : List ℕ) → kept (begun_after (held (kept line)) bytes) ≡ kept (begun_after line bytes)
begun_kept line bytes =
    ap (λ (l : List ℕ). kept (begun_after l bytes)) (held_kept line)
    ∙ sym (kept_cut (begun_after (take 27 line) bytes))
    ∙ ap kept (begun_cut line bytes)
    ∙ kept_cut (begun_after line bytes)

-- ---- what `line::line_in` answers for a buffer that has room
abbrev answer_for : Answer (List ℕ) → ℕ → Answer (List ℕ)
answer_for a room = following a (λ text. placed text room)

module _ (form : Form) where
  gives_said : (a : Answer (List ℕ)) (out : List ℕ) (count : ℕ) → length (line_out form a) ≤ length out → gives count ≡ counted (answer_for a (length out))
      → (count ≡ length (line_out form a)) × (lent (answer_for a (length out)) out ≡ line_out form a ++ drop count out)
  gives_said (gives text) out count room h =
      let t = le-leb (length text) (length out) room in
      let e : count ≡ length text = same_value (simp t at h) in
      (e, simp t (ap (λ (n : ℕ). text ++ drop n out) (sym e)))
  gives_said (refused n) out count room h = absurd (not_both h)

  refused_said : (a : Answer (List ℕ)) (out : List ℕ) (n : ℕ) → length (line_out form a) ≤ length out → refused n ≡ counted (answer_for a (length out))
      → (a ≡ refused n) × (lent (answer_for a (length out)) out ≡ out)
  refused_said (gives text) out n room h =
      let t = le-leb (length text) (length out) room in
      absurd (not_both (sym (simp t at h)))
  refused_said (refused m) out n room h = (cc, refl)

  -- what it gives is what is printed
  as_given : (a : Answer (List ℕ)) (room : ℕ) {text : List ℕ} → answer_for a room ≡ gives text → line_out form a ≡ text
  as_given (gives said) room h = same_value (passed (leb (length said) room) 7 (gives said) h).1
  as_given (refused n) room h = absurd (not_both (sym h))

  -- and so is what it refuses, where there is room
  as_refused : (a : Answer (List ℕ)) (room : ℕ) → length (line_out form a) ≤ room → {n : ℕ} → answer_for a room ≡ refused n → line_out form a ≡ refused_line form n
  as_refused (gives said) room enough h = absurd (not_both (simp (le-leb (length said) room enough) at h))
  as_refused (refused m) room enough h = ap (refused_line form) cc

module _ (form : Form) (line : List ℕ) (room : ℕ) where
  pub answer_printed : {text : List ℕ} → line_in form line room ≡ gives text → printed form line ≡ text
  unfolding printed
  answer_printed h = as_given form (text_to form line) room h

  pub refusal_printed : length (printed form line) ≤ room → {n : ℕ} → line_in form line room ≡ refused n → printed form line ≡ refused_line form n
  unfolding printed
  refusal_printed enough h = as_refused form (text_to form line) room enough h

module _ (form : Form) (line out : List ℕ) (room : length (printed form line) ≤ length out) where
  pub answer_put : (count : ℕ) (new : List ℕ) → gives count ≡ counted (line_in form line (length out)) → new ≡ lent (line_in form line (length out)) out
      → (count ≡ length (printed form line)) × (new ≡ printed form line ++ drop count out)
  unfolding printed
  answer_put count new h is-new = let g = gives_said form (text_to form line) out count room h in (g.0, is-new ∙ g.1)

  -- the line of a refusal, which is then put at the start of same
  module _ (n : ℕ) (h : refused n ≡ counted (line_in form line (length out))) (same : List ℕ) (is_same : same ≡ lent (line_in form line (length out)) out) where
    said : (text_to form line ≡ refused n) × (lent (line_in form line (length out)) out ≡ out)
    unfolding printed
    said = refused_said form (text_to form line) out n room h

    text_is : refused_line form n ≡ printed form line
    unfolding printed
    text_is = ap (line_out form) (sym said.0)

    pub refusal_fits : length (refused_line form n) ≤ length same
    refusal_fits = rw (text_is, is_same ∙ said.1) room

    pub refusal_put : (r : ℕ) (new : List ℕ) → (r ≡ length (refused_line form n)) × (new ≡ refused_line form n ++ drop r same)
        → (r ≡ length (printed form line)) × (new ≡ printed form line ++ drop r out)
    refusal_put r new put = (put.0 ∙ ap length text_is, put.1 ∙ (λ i. text_is i ++ drop r ((is_same ∙ said.1) i)))
