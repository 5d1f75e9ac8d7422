-- Lines that are printed alike have the same numbers. Assumes nothing.
use mathlib.Core.Path.{◌≡◌, refl, sym, ap, ◌∙◌}
use mathlib.Core.Bool.{true, ◌&&◌}
use mathlib.Core.List.{List, [], ◌∷◌, ◌++◌, append_assoc}
use Prim.Native.Nat.{ℕ, ◌≤◌}
use native.Mathlib.Omega.{arith}
use lib.IntN.{ℤ}
use Rattle.whole.proofs.Bools.{both}
use Rattle.kinds.specs.Kinds.{is_four_bytes}
use Rattle.tables.specs.Page.{Family, shift, geoid, each}
use Rattle.decimal.specs.Decimal.{printed_number}
use Rattle.line.specs.Line.{space, line_feed, answer_line}
use Rattle.decimal.proofs.Apart.{printed_apart}
use Rattle.decimal.proofs.Told.{number_above, told}

-- ---- a number, the byte after it and the rest
first_told : (x y : ℤ) (r t : List ℕ) (s z : ℕ) → is_four_bytes x ≡ true → is_four_bytes y ≡ true → s ≤ 44 → z ≤ 44 → printed_number x ++ (s ∷ r) ≡ printed_number y ++ (z ∷ t) → (x ≡ y) × ((s ≡ z) × (r ≡ t))
first_told x y r t s z fx fy hs hz e =
    let f = told (printed_number x) (printed_number y) r t s z (number_above x) (number_above y) hs hz e in
    (printed_apart x y fx fy f.0, f.1)

-- ---- an answer, number by number
in_order_lem : (a b c : ℤ) → answer_line (shift a b c) ≡ printed_number a ++ (space ∷ (printed_number b ++ (space ∷ (printed_number c ++ (line_feed ∷ [])))))
unfolding answer_line
in_order_lem a b c = simp append_assoc

alone : (n : ℤ) → answer_line (geoid n) ≡ printed_number n ++ (line_feed ∷ [])
unfolding answer_line
alone n = refl

no_space : (a b c n : ℤ) → is_four_bytes a ≡ true → is_four_bytes n ≡ true → answer_line (shift a b c) ≡ answer_line (geoid n) → ⊥
no_space a b c n fa fn e = omega (arith, (first_told a n _ [] space line_feed fa fn (omega arith) (omega arith) (sym (in_order_lem a b c) ∙ e ∙ alone n)).1.0)

pub lines_apart : (v w : Family ℤ) → each is_four_bytes v ≡ true → each is_four_bytes w ≡ true → answer_line v ≡ answer_line w → v ≡ w
lines_apart (shift a b c) (shift d e f) hv hw same =
    let va = both (is_four_bytes a) (is_four_bytes b && is_four_bytes c) hv in
    let vb = both (is_four_bytes b) (is_four_bytes c) va.1 in
    let wa = both (is_four_bytes d) (is_four_bytes e && is_four_bytes f) hw in
    let wb = both (is_four_bytes e) (is_four_bytes f) wa.1 in
    let one = first_told a d _ _ space space va.0 wa.0 (omega arith) (omega arith) (sym (in_order_lem a b c) ∙ same ∙ in_order_lem d e f) in
    let two = first_told b e _ _ space space vb.0 wb.0 (omega arith) (omega arith) one.1.1 in
    let three = first_told c f [] [] line_feed line_feed vb.1 wb.1 (omega arith) (omega arith) two.1.1 in
    (λ i. shift (one.0 i) (two.0 i) (three.0 i))
lines_apart (geoid n) (geoid m) hv hw same = ap geoid (first_told n m [] [] line_feed line_feed hv hw (omega arith) (omega arith) (sym (alone n) ∙ same ∙ alone m)).0
lines_apart (shift a b c) (geoid n) hv hw same = absurd (no_space a b c n (both (is_four_bytes a) (is_four_bytes b && is_four_bytes c) hv).0 hw same)
lines_apart (geoid n) (shift a b c) hv hw same = absurd (no_space a b c n (both (is_four_bytes a) (is_four_bytes b && is_four_bytes c) hw).0 hv (sym same))
