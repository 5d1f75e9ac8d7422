-- The flags of the codes that a sheet lists, and whether a point's code is flagged. Assumes nothing.
use mathlib.Core.Path.{◌≡◌, refl, sym, ap, ◌∙◌, subst}
use mathlib.Core.Bool.{Bool, true, false, ◌||◌, or-true, or-false, or_assoc}
use mathlib.Core.List.{List, [], ◌∷◌, ◌++◌}
use Prim.Native.Nat.{ℕ, zero, suc, ◌+◌, ◌<◌, ◌≤◌}
use native.Mathlib.Numerals.{add-one}
use native.Mathlib.Omega.{arith}
use lib.Dec.{eqb, ltb}
use lib.ListN.{length, get_or, set, take, replicate, length-set, get_or-eq_default}
use lib.Seq.{take-suc, ext_get_or, get_or-set_same, get_or-set_other}
use borrow.Author.Tests.{eqb-true, eqb-false, ltb-true, ltb-false}
use Rattle.kinds.proofs.Bytes.{at}
use Rattle.layout.specs.Sheet.{rise, is_listed}
use Rattle.layout.proofs.Codes.{beyond}
use Rattle.sheet.specs.Inside.{flags_from, flags}

-- ---- the flags
flags_length : (n from : ℕ) (codes : List ℕ) → length (flags_from n from codes) ≡ n
flags_length zero from codes = refl
flags_length (suc n) from codes = ap suc (flags_length n (suc from) codes)

flag_from : (n from i : ℕ) (codes : List ℕ) → i < n → get_or (flags_from n from codes) i false ≡ is_listed codes (from + i)
flag_from zero from i codes h = absurd (omega arith)
flag_from (suc n) from zero codes h =
    let e : from ≡ from + 0 = omega arith in
    ap (is_listed codes) e
flag_from (suc n) from (suc i) codes h =
    let e : suc from + i ≡ from + suc i = omega arith in
    flag_from n (suc from) i codes (omega arith) ∙ ap (is_listed codes) e

flags_long : (codes : List ℕ) → length (flags codes) ≡ 256
unfolding flags
flags_long codes = flags_length 256 0 codes

flag : (codes : List ℕ) (i : ℕ) → i < 256 → get_or (flags codes) i false ≡ is_listed codes i
unfolding flags
flag codes i h =
    let e : 0 + i ≡ i = omega arith in
    flag_from 256 0 i codes h ∙ ap (is_listed codes) e

-- none is set at first
none_from : (n from : ℕ) → flags_from n from [] ≡ replicate n false
unfolding is_listed
none_from zero from = refl
none_from (suc n) from = ap (λ (l : List Bool). false ∷ l) (none_from n (suc from))

pub none_flagged : flags [] ≡ replicate 256 false
unfolding flags
none_flagged = none_from 256 0

-- one code more
listed_more : (codes : List ℕ) (c k : ℕ) → is_listed (codes ++ c ∷ []) k ≡ (is_listed codes k || eqb c k)
unfolding is_listed
listed_more [] c k = or-false (eqb c k)
listed_more (x ∷ codes) c k = ap (λ (b : Bool). eqb x k || b) (listed_more codes c k) ∙ sym (or_assoc (eqb x k) (is_listed codes k) (eqb c k))

flag_set : (codes : List ℕ) (c : ℕ) → c < 256 → set (flags codes) c true ≡ flags (codes ++ c ∷ [])
flag_set codes c h = ext_get_or false (set (flags codes) c true) (flags (codes ++ c ∷ [])) (length-set (flags codes) c true ∙ flags_long codes ∙ sym (flags_long (codes ++ c ∷ []))) (λ i k. go i (omega (arith, k, length-set (flags codes) c true, flags_long codes)) (eqb c i) refl)
  where
    go : (i : ℕ) → i < 256 → (b : Bool) → eqb c i ≡ b → get_or (set (flags codes) c true) i false ≡ get_or (flags (codes ++ c ∷ [])) i false
    go i k true e =
        let same : c ≡ i = eqb-true c i e in
        subst (λ (j : ℕ). get_or (set (flags codes) c true) j false ≡ true) same (get_or-set_same (flags codes) c true false (omega (arith, h, flags_long codes)))
        ∙ sym (flag (codes ++ c ∷ []) i k ∙ listed_more codes c i ∙ ap (λ (b : Bool). is_listed codes i || b) e ∙ or-true (is_listed codes i))
    go i k false e =
        get_or-set_other (flags codes) c i true false (λ same. eqb-false c i e (sym same)) ∙ flag codes i k
        ∙ sym (flag (codes ++ c ∷ []) i k ∙ listed_more codes c i ∙ ap (λ (b : Bool). is_listed codes i || b) e ∙ or-false (is_listed codes i))

-- the flags of the first i codes, and one more
pub flag_next : (codes : List ℕ) (i : ℕ) → at codes i < 256 → i < length codes → set (flags (take i codes)) (at codes i) true ≡ flags (take (i + 1) codes)
flag_next codes i h k = flag_set (take i codes) (at codes i) h ∙ ap flags (sym (ap (λ (n : ℕ). take n codes) (add-one i) ∙ take-suc codes i 0 k))

-- ---- looked up
-- a code that is flagged is a code that is listed, whatever the byte
pub flagged : (codes : List ℕ) → rise 0 codes ≡ true → (p : ℕ) → get_or (flags codes) p false ≡ is_listed codes p
flagged codes h p = go (ltb p 256) refl
  where
    go : (b : Bool) → ltb p 256 ≡ b → get_or (flags codes) p false ≡ is_listed codes p
    go true e = flag codes p (ltb-true p 256 e)
    go false e =
        let k : 256 ≤ p = ltb-false p 256 e in
        get_or-eq_default (flags codes) false (omega (arith, k, flags_long codes)) ∙ sym (beyond 0 codes h p (omega (arith, k)))
