-- How an answer looks to C: the number of the refusal first, or 0; every field beside a refusal is zero.
use Rattle.std.specs.Prelude.{ℕ, ℤ, pos}
use Rattle.kinds.specs.Answer.{Answer, gives, refused, refusal_of}
use Rattle.tables.specs.Page.{Family}
use Rattle.datum.specs.Point.{first_of, second_of, third_of}
use Rattle.buckettin.specs.declared.Shift.{Shift}
use Rattle.buckettin.specs.declared.Geoid.{Geoid}
use Rattle.buckettin.specs.declared.Read.{Read}
use Rattle.buckettin.specs.declared.Written.{Written}

-- the value, or what stands where there is none
abbrev pub value_or : {A : Type 0} → A → Answer A → A
value_or none (gives value) = value
value_or none (refused n) = none

-- buckettin_shift_t
abbrev pub shift_fields : Answer (Family ℤ) → Shift
shift_fields a = record { refusal = refusal_of a; dlat = first_of (pos 0) a; dlon = second_of (pos 0) a; dh = third_of (pos 0) a }

-- buckettin_geoid_t
abbrev pub geoid_fields : Answer (Family ℤ) → Geoid
geoid_fields a = record { refusal = refusal_of a; n = first_of (pos 0) a }

-- buckettin_read_t
abbrev pub read_fields : Answer ℤ → Read
read_fields a = record { refusal = refusal_of a; ms = value_or (pos 0) a }

-- buckettin_written_t
abbrev pub written_fields : Answer ℕ → Written
written_fields a = record { refusal = refusal_of a; written = value_or 0 a }
