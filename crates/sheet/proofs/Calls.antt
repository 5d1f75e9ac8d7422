-- The work on a sheet that was laid out, and on any: what each return answers, and what it leaves in the lent buffer. Assumes
-- nothing.
use mathlib.Core.Path.{◌≡◌, refl, sym, ap, ◌∙◌}
use mathlib.Core.Bool.{Bool, true, false}
use mathlib.Core.List.{List, [], ◌∷◌, ◌++◌, map, flat_map}
use mathlib.Core.Logic.{◌⊎◌, inl, inr, ⊎_elim}
use Prim.Native.Nat.{ℕ, zero, suc, ◌+◌, ◌-◌, ◌*◌, ◌/◌, ◌<◌, ◌≤◌}
use native.Mathlib.Omega.{arith}
use lib.Dec.{leb}
use lib.IntN.{ℤ}
use lib.ListN.{length, get_or, take, drop, length-append, length-drop}
use lib.Seq.{take_all}
use borrow.Author.Tests.{le-leb, lt-leb}
use Rattle.std.specs.Simd.{first_chunks}
use mir.Syntax.{w64}
use mir.Val.{Fits, SFits, to_z, of_z}
use Rattle.whole.proofs.Every.{every_same}
use Rattle.whole.proofs.Words.{of}
use Rattle.whole.specs.Every.{every}
use Rattle.whole.specs.Places.{in_places}
use Rattle.kinds.specs.Answer.{Answer, gives, refused, in_order, placed, counted, lent}
use Rattle.kinds.proofs.Answers.{failed, own_or_behind, all_held, held, first_or_behind, first_failed, fails, in_two, following_tests}
use Rattle.kinds.proofs.Bytes.{at, length_part}
use Rattle.numbers.specs.Numbers.{in_bytes}
use Rattle.numbers.proofs.Numbers.{are_bytes_lem, part_back}
use Rattle.layout.specs.Sheet.{serial, datums, codes, count, body, point, points, pieces, is_listed, serial_tests, listed_tests, said}
use Rattle.layout.specs.Layout.{counts, laid_out, read_of}
use Rattle.sheet.specs.Result.{in_record, answer_at, result_of, work_of}
use Rattle.sheet.specs.Inside.{flags, all_flagged, point_record, records, finished}
use Rattle.layout.specs.declared.Layout.{Layout}
use Rattle.sheet.proofs.Codes.{flagged}
use Rattle.layout.proofs.Form.{pieces_counted, points_counted}
use Rattle.layout.proofs.Reading.{Laid, serial_bytes, codes_are, front, in_front}
use Rattle.sheet.proofs.Results.{records_long}

-- ---- points and their records
of_points : (ps : List (List ℕ)) → flat_map point_record ps ≡ flat_map (λ p. in_record (answer_at p)) (map point ps)
unfolding flat_map point_record
of_points [] = refl
of_points (p ∷ ps) = ap (λ (l : List ℕ). in_record (answer_at (point p)) ++ l) (of_points ps)

-- a result, by the records of the sheet's body
pub result_is : (t : List ℕ) → in_bytes 4 (serial t) ++ in_bytes 2 (count t) ++ records (pieces (count t) 9 (body t)) ≡ result_of (said t)
unfolding result_of records points
result_is t = λ i. in_bytes 4 (serial t) ++ in_bytes 2 (sym (points_counted t) i) ++ of_points (pieces (count t) 9 (body t)) i

pub result_long : (t : List ℕ) → length (result_of (said t)) ≡ 6 + count t * 13
unfolding in_bytes in_places
result_long t = ap length (sym (result_is t)) ∙ omega (arith, length-append (in_bytes 4 (serial t) ++ in_bytes 2 (count t)) (records (pieces (count t) 9 (body t))), records_long (pieces (count t) 9 (body t)), pieces_counted (count t) 9 (body t))

-- ---- a sheet that was laid out
-- the points of a body, as it is cut into arrays
chunks_are : (n : ℕ) (body : List ℕ) → first_chunks 9 n body ≡ pieces n 9 body
unfolding pieces
chunks_are zero body = refl
chunks_are (suc n) body = ap (λ (l : List (List ℕ)). take 9 body ∷ l) (chunks_are n (drop 9 body))

module _ (t : List ℕ) {layout : Layout} (l : Laid t layout) where
  abbrev d : ℕ
  d = layout.datums

  abbrev n : ℕ
  n = layout.points

  -- what the code has room for and lends
  pub codes_end : 5 + d ≤ length t
  codes_end = omega (arith, l.long, l.is_datums)

  pub body_start : 5 + d + 2 ≤ length t
  body_start = omega (arith, l.long, l.is_datums)

  pub five_more : Fits w64 (5 + d)
  five_more = record { fits = omega (arith, l.few, l.is_datums) }

  pub seven_more : Fits w64 (5 + d + 2)
  seven_more = record { fits = omega (arith, l.few, l.is_datums) }

  pub records_fit : Fits w64 (n * 13)
  records_fit = record { fits = omega (arith, l.most, l.is_points) }

  pub result_fits : Fits w64 (6 + n * 13)
  result_fits = record { fits = omega (arith, l.most, l.is_points) }

  serial_there : 4 ≤ length t
  serial_there = omega (arith, l.long)

  five : 5 ≤ length t
  five = omega (arith, l.long)

  -- what is lent from the body on
  abbrev rest : List ℕ
  rest = take (length t - (5 + d + 2)) (drop (5 + d + 2) t)

  rest_is : rest ≡ body t
  unfolding body
  rest_is =
      let e : 5 + d + 2 ≡ 7 + datums t = omega (arith, l.is_datums) in
      take_all (length t - (5 + d + 2)) (drop (5 + d + 2) t) (omega (arith, length-drop (5 + d + 2) t)) ∙ ap (λ (k : ℕ). drop k t) e

  pub serial_lent : length (take 4 t) ≡ 4
  serial_lent = length_part 0 4 t serial_there

  -- what a result begins with
  start_is : ((i : ℕ) → at t i < 256) → take 4 t ++ take (5 + d + 2 - (5 + d)) (drop (5 + d) t) ≡ in_bytes 4 (serial t) ++ in_bytes 2 (count t)
  unfolding count
  start_is known =
      let two : 5 + d + 2 - (5 + d) ≡ 2 = omega arith in
      let there : 5 + d ≡ 5 + datums t = omega (arith, l.is_datums) in
      (λ i. sym (serial_bytes t (are_bytes_lem t known) serial_there) i ++ take (two i) (drop (there i) t))
      ∙ ap (λ (c : List ℕ). in_bytes 4 (serial t) ++ c) (sym (part_back (5 + datums t) 2 t (omega (arith, l.long)) (are_bytes_lem t known)))

  -- ps is the points that are lent
  module _ {ps : List (List ℕ)} (is_ps : ps ≡ first_chunks 9 (length rest / 9) rest) where
    points_are : ps ≡ pieces (count t) 9 (body t)
    unfolding body
    points_are =
        let counted : length rest / 9 ≡ count t = omega (arith, ap length rest_is, l.long, length-drop (7 + datums t) t) in
        is_ps ∙ (λ i. first_chunks 9 (counted i) (rest_is i)) ∙ chunks_are (count t) (body t)

    points_long : length ps ≡ count t
    points_long = ap length points_are ∙ pieces_counted (count t) 9 (body t)

    pub points_fit : {room : ℕ} → 6 + n * 13 ≤ room → 6 + length ps * 13 ≤ room
    points_fit h = omega (arith, h, points_long, l.is_points)

    -- f is what `listed` answers, b what `all_listed` does, and out the lent buffer
    module _ {f : List Bool} (is_f : f ≡ flags (take (5 + d - 5) (drop 5 t))) {b : Bool} (is_b : b ≡ all_flagged f ps) (out : List ℕ) where
      all_is : b ≡ every (λ p. is_listed (codes t) p.code) (points t)
      unfolding all_flagged points
      all_is =
          is_b ∙ (λ i. all_flagged ((is_f ∙ ap flags (codes_are t five l.is_datums)) i) (points_are i))
          ∙ every_same (λ p. get_or (flags (codes t)) p.code false) (λ p. is_listed (codes t) p.code) (λ p. flagged (codes t) l.right p.code) (map point (pieces (count t) 9 (body t)))

      pub unlisted : b ≡ false → (refused 9 ≡ counted (finished t (length out))) × (out ≡ lent (finished t (length out)) out)
      unfolding finished
      unlisted h = simp (← all_is, h) (refl, refl)

      module _ (all : b ≡ true) where
        pub no_room : length out < 6 + n * 13 → (refused 7 ≡ counted (finished t (length out))) × (out ≡ lent (finished t (length out)) out)
        unfolding finished
        no_room h = simp (← all_is, all, lt-leb (length (result_of (said t))) (length out) (omega (arith, h, result_long t, l.is_points))) (refl, refl)

        -- new is the buffer afterwards
        pub all_written : {new : List ℕ} → ((i : ℕ) → at t i < 256) → 6 + n * 13 ≤ length out
            → new ≡ take 4 t ++ take (5 + d + 2 - (5 + d)) (drop (5 + d) t) ++ records ps ++ drop (6 + length ps * 13) out
            → (gives (6 + n * 13) ≡ counted (finished t (length out))) × (new ≡ lent (finished t (length out)) out)
        unfolding finished
        all_written {new} known room is-new =
            let long : 6 + n * 13 ≡ length (result_of (said t)) = omega (arith, result_long t, l.is_points) in
            let same : 6 + length ps * 13 ≡ length (result_of (said t)) = omega (arith, result_long t, points_long) in
            let bytes : take 4 t ++ take (5 + d + 2 - (5 + d)) (drop (5 + d) t) ++ records ps ≡ result_of (said t) = (λ i. start_is known i ++ records (points_are i)) ∙ result_is t in
            simp (← all_is, all, le-leb (length (result_of (said t))) (length out) (omega (arith, room, long))) (ap gives long, is-new ∙ (λ i. bytes i ++ drop (same i) out))

-- ---- any sheet
-- what `read` answers of the unit's number as it came
pub read_told : {unit : ℤ} (t : List ℕ) {a : Answer Layout} → SFits w64 unit → a ≡ read_of (to_z w64 (of_z w64 unit)) t → read_of unit t ≡ a
read_told t fits e = ap (λ (z : ℤ). read_of z t) (sym (of fits).reads) ∙ sym e

module _ (unit : ℤ) (t : List ℕ) (room : ℕ) where
  work_front : work_of unit t room ≡ in_order (front unit t) (finished t room)
  unfolding finished
  work_front = following_tests (front unit t ++ listed_tests t) (gives (said t)) (λ sheet. placed (result_of sheet) room) ∙ in_two (front unit t) (listed_tests t) (placed (result_of (said t)) room)

  -- read, it is laid out, and the work goes on
  pub laid_out_lem : {layout : Layout} → read_of unit t ≡ gives layout → laid_out t ≡ gives layout
  unfolding read_of
  laid_out_lem h = (all_held (serial_tests unit t) (laid_out t) h).1

  pub read_on : {layout : Layout} → read_of unit t ≡ gives layout → finished t room ≡ work_of unit t room
  read_on h = sym (work_front ∙ held (front unit t) (finished t room) (all_held (front unit t) (gives (counts t)) (sym (in_front unit t) ∙ h)).0)

  -- and a refusal stays
  pub not_read : {n : ℕ} → read_of unit t ≡ refused n → work_of unit t room ≡ refused n
  not_read {n} h = work_front ∙ fails (front unit t) (finished t room) n (first_failed (front unit t) (counts t) n (sym (in_front unit t) ∙ h))

  -- what is worked was read
  pub work_read : {result : List ℕ} → work_of unit t room ≡ gives result → read_of unit t ≡ gives (counts t)
  work_read h = in_front unit t ∙ held (front unit t) (gives (counts t)) (all_held (front unit t) (finished t room) (sym work_front ∙ h)).0

  -- a refusal after the reading: of a point's code, or for want of room
  after : (n : ℕ) → finished t room ≡ refused n → (n ≡ 9) ⊎ (n ≡ 7)
  unfolding finished
  after n h =
      let b = every (λ p. is_listed (codes t) p.code) (points t) in
      ⊎_elim inl (λ e. inr (failed (leb (length (result_of (said t))) room) 7 (result_of (said t)) e).1) (own_or_behind b 9 n (placed (result_of (said t)) room) h)

  pub not_worked : (n : ℕ) → work_of unit t room ≡ refused n → (read_of unit t ≡ refused n) ⊎ ((n ≡ 9) ⊎ (n ≡ 7))
  not_worked n h =
      ⊎_elim (λ f. inl (in_front unit t ∙ fails (front unit t) (gives (counts t)) n f)) (λ p. inr (after n p.1))
      (first_or_behind (front unit t) (finished t room) n (sym work_front ∙ h))
