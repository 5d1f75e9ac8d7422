-- What a call says that it wrote fits 4 bytes. Assumes nothing.
use mathlib.Core.Path.{◌≡◌, refl, ap, subst}
use mathlib.Core.List.{List}
use Prim.Native.Nat.{ℕ, ◌<◌, ◌≤◌}
use native.Mathlib.Nat.{lt_of_le_of_lt}
use native.Mathlib.Omega.{arith}
use lib.IntN.{ℤ}
use lib.ListN.{length}
use borrow.Author.Tests.{leb-true}
use Rattle.kinds.specs.Answer.{Answer, gives, refused, counted}
use Rattle.position.specs.Text.{Coordinate, latitude, longitude, text_length, write}
use Rattle.position.proofs.Demands as position
use Rattle.layout.specs.Sheet.{count}
use Rattle.sheet.specs.Result.{work_of}
use Rattle.sheet.proofs.Demands as sheet
use Rattle.line.specs.Line.{line_of}
use Rattle.line.proofs.Printing.{answer_line_short}
use Rattle.line.proofs.Demands as line
use Rattle.waypoint.specs.Waypoint.{waypoint_of}
use Rattle.waypoint.proofs.Demands as waypoint
use Rattle.buckettin.specs.Fields.{value_or}

-- a count in 4 bytes, whatever the answer
abbrev pub Small : Answer ℕ → Type 0
Small a = value_or 0 a < 4294967296

small : (a : Answer (List ℕ)) → ((bytes : List ℕ) → a ≡ gives bytes → length bytes < 4294967296) → Small (counted a)
small (gives bytes) h = h bytes refl
small (refused n) h = omega arith

pub write_small : (k : Coordinate) (x : ℤ) (room : ℕ) → Small (counted (write k x room))
write_small k x room = small (write k x room) (λ t h. omega (arith, ap length (position.written_is k x room h).1, position.text_length_lem k x, few k))
  where
    few : (k : Coordinate) → text_length k ≤ 12
    few latitude = omega arith
    few longitude = omega arith

pub work_small : (unit : ℤ) (bytes : List ℕ) (room : ℕ) → Small (counted (work_of unit bytes room))
work_small unit bytes room = small (work_of unit bytes room) (λ result h.
    let (_, (_, (_, (_, (_, (_, (_, (_, (most, _))))))))) = ((sheet.worked_where unit bytes room result).0 h).0 in
    omega (arith, leb-true (count bytes) 500 most, sheet.bytes_written unit bytes room h))

pub line_small : (bytes : List ℕ) (room : ℕ) → Small (counted (line_of bytes room))
line_small bytes room = small (line_of bytes room) (λ t h. subst (λ (l : List ℕ). length l < 4294967296) ((line.answered_where bytes room t).0 h).1.1 (lt_of_le_of_lt (answer_line_short _) (omega arith)))

pub waypoint_small : (code north east : ℤ) (room : ℕ) → Small (counted (waypoint_of code north east room))
waypoint_small code north east room = small (waypoint_of code north east room) (λ bytes h. lt_of_le_of_lt (waypoint.bytes_at_most code north east room bytes h) (omega arith))
