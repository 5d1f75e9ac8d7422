-- Bytes put at the start of a lent buffer, and after those that stand there. Assumes nothing.
use mathlib.Core.Path.{◌≡◌, refl, sym, ap, ◌∙◌}
use mathlib.Core.List.{List, [], ◌∷◌, ◌++◌, append-nil, append_assoc}
use Prim.Native.Nat.{ℕ, suc, ◌+◌, ◌-◌, ◌<◌}
use native.Mathlib.Numerals.{add-one}
use native.Mathlib.Omega.{arith}
use lib.ListN.{length, take, drop, get_or, set, length-append, length-drop, drop_of_length-le}
use lib.Seq.{take_all, take_at, drop_at, drop-cons, drop-drop, set_at, append_snoc}
use borrow.Rule.Slice.PartMut.{put_mid}
use Rattle.kinds.specs.Answer.{Answer, gives, refused, placed, counted, lent, following}
use Rattle.kinds.proofs.Answers.{not_both, same_value}

-- what is to be written was written: a is the answer, and l the buffer afterwards
abbrev pub Written : Answer (List ℕ) → List ℕ → Answer ℕ → List ℕ → Type 0
Written w out a l = (a ≡ counted w) × (l ≡ lent w out)

-- ---- after the bytes p, which are b, of the buffer d
-- a byte
pub byte_after : (p d : List ℕ) (x b : ℕ) → length p ≡ b → b < length d → set (p ++ drop b d) b x ≡ (p ++ (x ∷ [])) ++ drop (b + 1) d
byte_after p d x b hp h =
    ap (λ (r : List ℕ). set (p ++ r) b x) (drop-cons d b 0 h)
    ∙ set_at p (get_or d b 0) (drop (suc b) d) x b hp
    ∙ sym (append_snoc p x (drop (suc b) d))
    ∙ ap (λ (j : ℕ). (p ++ (x ∷ [])) ++ drop j d) (sym (add-one b))

-- what is lent from there on
pub lent_part : (p d : List ℕ) (b : ℕ) → length p ≡ b → take (length (p ++ drop b d) - b) (drop b (p ++ drop b d)) ≡ drop b d
lent_part p d b hp = rw (drop_at p (drop b d) b hp) (take_all (length (p ++ drop b d) - b) (drop b d) (omega (arith, length-append p (drop b d))))

-- and comes back with a line put at its start
pub grown : (p d line : List ℕ) (b n : ℕ) → length p ≡ b → put_mid b (length (p ++ drop b d) - b) (p ++ drop b d) (line ++ drop n (take (length (p ++ drop b d) - b) (drop b (p ++ drop b d)))) ≡ (p ++ line) ++ drop (b + n) d
grown p d line b n hp =
    let e : List ℕ = p ++ drop b d in
    let none : drop (length e - b) (drop b e) ≡ [] = rw (drop_at p (drop b d) b hp) (drop_of_length-le (drop b d) {i = length e - b} (omega (arith, length-append p (drop b d)))) in
    ap (λ (l : List ℕ). l ++ ((line ++ drop n (take (length e - b) (drop b e))) ++ drop (length e - b) (drop b e))) (take_at p (drop b d) b hp)
    ∙ (λ i. p ++ ((line ++ drop n (lent_part p d b hp i)) ++ none i))
    ∙ ap (λ (l : List ℕ). p ++ l) (append-nil (line ++ drop n (drop b d)) ∙ ap (λ (l : List ℕ). line ++ l) (drop-drop n b d))
    ∙ sym (append_assoc p line (drop (b + n) d))

-- ---- d is the buffer as it came, p what stands at its start already, and e the buffer now
module _ (p d : List ℕ) {e : List ℕ} {b : ℕ} (is-e : e ≡ p ++ drop b d) (is_b : b ≡ length p) where
  pub rest_long : length (take (length e - b) (drop b e)) ≡ length d - b
  rest_long = ap (λ (l : List ℕ). length (take (length l - b) (drop b l))) is-e ∙ ap length (lent_part p d b (sym is_b)) ∙ length-drop b d

  pub grown_by : (text new : List ℕ) (n : ℕ) → new ≡ text ++ drop n (take (length e - b) (drop b e)) → put_mid b (length e - b) e new ≡ (p ++ text) ++ drop (b + n) d
  grown_by text new n is-new = rw (is-new, is-e) (grown p d text b n (sym is_b))

-- ---- a text that was laid at the start of d: w is what was to be laid there, r how many bytes it has and l what stands there afterwards
pub laid : {w : Answer (List ℕ)} (text d : List ℕ) → w ≡ gives text → {r : ℕ} {l : List ℕ} → r ≡ length text → l ≡ text ++ drop r d → Written w d (gives r) l
laid text d is-w is-r is-l =
    (ap gives is-r ∙ ap counted (sym is-w), is-l ∙ ap (λ (n : ℕ). text ++ drop n d) is-r ∙ ap (λ (a : Answer (List ℕ)). lent a d) (sym is-w))

pub none_laid : {w : Answer (List ℕ)} (d : List ℕ) {n : ℕ} → w ≡ refused n → Written w d (refused n) d
none_laid d is-w = (ap counted (sym is-w), ap (λ (a : Answer (List ℕ)). lent a d) (sym is-w))

pub not_laid : (w : Answer (List ℕ)) {n : ℕ} → refused n ≡ counted w → w ≡ refused n
not_laid (gives text) h = absurd (not_both (sym h))
not_laid (refused m) h = cc

-- it is taken from there, and put into a lent buffer: a is what that answers, and b the buffer afterwards
module _ (w : Answer (List ℕ)) (d new : List ℕ) {r : ℕ} (was : Written w d (gives r) new) where
  abbrev Text : Answer (List ℕ) → Type 0
  Text w = (text : List ℕ) × ((w ≡ gives text) × ((r ≡ length text) × (new ≡ text ++ drop r d)))

  the_text : Text w
  the_text = go w was
    where
      go : (w : Answer (List ℕ)) → Written w d (gives r) new → Text w
      go (gives text) h = (text, (refl, (same_value h.0, h.1 ∙ ap (λ (n : ℕ). text ++ drop n d) (sym (same_value h.0)))))
      go (refused n) h = absurd (not_both h.0)

  laid_back : take r new ≡ the_text.0
  laid_back = let (text, (is-w, (is-r, is-new))) = the_text in ap (take r) is-new ∙ take_at text (drop r d) r (sym is-r)

  pub laid_put : (out : List ℕ) {a : Answer ℕ} {b : List ℕ} → Written (placed (take r new) (length out)) out a b → Written (following w (λ text. placed text (length out))) out a b
  laid_put out h =
      let same = ap (λ (t : List ℕ). placed t (length out)) laid_back ∙ ap (λ (v : Answer (List ℕ)). following v (λ text. placed text (length out))) (sym the_text.1.0) in
      (h.0 ∙ ap counted same, h.1 ∙ ap (λ (v : Answer (List ℕ)). lent v out) same)
