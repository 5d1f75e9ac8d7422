-- When a sheet is worked, and when each refusal is given. Assumes nothing.
use mathlib.Core.Path.{◌≡◌, refl, subst}
use mathlib.Core.Bool.{not, false≢true}
use mathlib.Core.List.{List}
use mathlib.Core.Logic.{◌↔◌, ◌⊎◌, inl, inr, ⊎_elim}
use Prim.Native.Nat.{ℕ, ◌+◌, ◌*◌, ◌<◌, ◌≤◌}
use native.Mathlib.Omega.{arith}
use lib.Dec.{eqb}
use lib.IntN.{ℤ, pos}
use lib.ListN.{length}
use Rattle.kinds.specs.Answer.{gives, refused, AllHold, FirstFails, in_order, placed}
use Rattle.kinds.proofs.Answers.{first_number, following_tests}
use Rattle.kinds.proofs.Demands.{written_where, unwritten_where}
use Rattle.layout.specs.Sheet.{serial, count, tests, said}
use Rattle.layout.proofs.Demands as reading
use Rattle.sheet.specs.Result.{result_of, work_of}
use Rattle.sheet.proofs.Calls.{result_long, not_read, not_worked}

-- ---- all tests, and then the room
module _ (unit : ℤ) (t : List ℕ) (room : ℕ) where
  work_tests : work_of unit t room ≡ in_order (tests unit t) (placed (result_of (said t)) room)
  work_tests = following_tests (tests unit t) (gives (said t)) (λ sheet. placed (result_of sheet) room)

  pub worked_where : (result : List ℕ) → (work_of unit t room ≡ gives result) ↔ (AllHold (tests unit t) × ((6 + count t * 13 ≤ room) × (result_of (said t) ≡ result)))
  worked_where result =
      subst
      (λ (long : ℕ). (work_of unit t room ≡ gives result) ↔ (AllHold (tests unit t) × ((long ≤ room) × (result_of (said t) ≡ result))))
      (result_long t)
      (written_where (tests unit t) (result_of (said t)) room work_tests result)

  pub refused_where : (n : ℕ) → (work_of unit t room ≡ refused n) ↔ (FirstFails (tests unit t) n ⊎ (AllHold (tests unit t) × ((room < 6 + count t * 13) × (n ≡ 7))))
  refused_where n =
      subst
      (λ (long : ℕ). (work_of unit t room ≡ refused n) ↔ (FirstFails (tests unit t) n ⊎ (AllHold (tests unit t) × ((room < long) × (n ≡ 7)))))
      (result_long t)
      (unwritten_where (tests unit t) (result_of (said t)) room work_tests n)

  -- ---- the numbers, one by one
  pub given_7 : (work_of unit t room ≡ refused 7) ↔ (AllHold (tests unit t) × (room < 6 + count t * 13))
  given_7 = (
    (λ h. ⊎_elim (λ f. absurd (false≢true (first_number (λ m. not (eqb m 7)) (tests unit t) 7 refl f))) (λ p. (p.0, p.1.0)) ((refused_where 7).0 h)),
    (λ h. (refused_where 7).1 (inr (h.0, (h.1, refl)))),
  )

  pub given_one_of : (n : ℕ) → work_of unit t room ≡ refused n → (n ≡ 1) ⊎ ((n ≡ 9) ⊎ ((n ≡ 8) ⊎ (n ≡ 7)))
  given_one_of n h =
      ⊎_elim (λ r. ⊎_elim inl (λ e. inr (⊎_elim inl (λ e. inr (inl e)) e)) (reading.given_one_of unit t n r))
      (λ e. inr (⊎_elim inl (λ e. inr (inr e)) e))
      (not_worked unit t room n h)

  pub given_8 : (work_of unit t room ≡ refused 8) ↔ ((4 ≤ length t) × ((serial t ≡ 0 → ⊥) × (unit ≡ pos (serial t) → ⊥)))
  given_8 = (
    (λ h. ⊎_elim (λ r. (reading.given_8 unit t).0 r) (⊎_elim (λ e. absurd (omega arith)) (λ e. absurd (omega arith))) (not_worked unit t room 8 h)),
    (λ h. not_read unit t room ((reading.given_8 unit t).1 h)),
  )
