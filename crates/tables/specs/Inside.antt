-- The code's own datums, frames and shifts, and what its functions ask of who calls them. No promise of an entry point speaks
-- of it.
use Rattle.std.specs.Prelude.{List, ℕ, ◌≤◌, ℤ, pos, nat_abs, ◌-ℤ◌, ◌*ℤ◌, get_or}
use Rattle.std.specs.Int.{w32}
use Rattle.std.proofs.Common.{SFits}
use Rattle.whole.specs.Round.{round_div, scale}
use Rattle.equation.specs.Equation.{Term, equation_of}
use Rattle.equation.specs.Room.{Room}
use Rattle.equation.specs.Powers.{powers_of}
use Rattle.equation.specs.Inside.{size_powers, terms}
use Rattle.equation.specs.declared.Term as table
use Rattle.tables.specs.Page as page
use Rattle.tables.specs.Page.{Page, Equation, ◌near◌, Family, shift, geoid, Each}
use Rattle.tables.specs.Rule.{evaluated}
use Rattle.tables.specs.Cyprus.{cyprus}
use Rattle.tables.specs.Tables.{pages}
use Rattle.tables.specs.declared.Datum.{Datum}
use Rattle.tables.specs.declared.Datum.TheVariants.{Cyprus, Minna, Alaska, Qatar, Kandawala, Nahrwan}
use Rattle.tables.specs.declared.Axis.{Axis}
use Rattle.tables.specs.declared.Frame.{Frame}
use Rattle.tables.specs.declared.Family as code
use Rattle.tables.specs.declared.Family.TheVariants as Gives
use Rattle.tables.specs.declared.Shift.{Shift}

-- ---- the code's datums: the row of each in a list by codes, and its page
abbrev pub row_of : Datum → ℕ
row_of Cyprus = 0
row_of Minna = 1
row_of Alaska = 2
row_of Qatar = 3
row_of Kandawala = 4
row_of Nahrwan = 5

abbrev pub datum_page : Datum → Page
datum_page datum = get_or pages (row_of datum) cyprus

-- ---- its family
abbrev pub family_of : {A : Type 0} → Family A → code.Family
family_of (shift a b c) = Gives.Shift
family_of (geoid n) = Gives.Geoid

-- ---- a frame: the family, how u and v come, and the area. The axes' divisor is a literal of the code
abbrev pub axis_of : page.Axis → Axis
axis_of axis = record { factor = pos axis.factor; offset = axis.offset }

abbrev pub frame_of : Page → Frame
frame_of page = record {
  family = family_of page.equations;
  u = axis_of page.u;
  v = axis_of page.v;
  south = page.south;
  north = page.north;
  west = page.west;
  east = page.east;
}

-- u or v by the frame's axis
abbrev pub on_axis : Axis → ℤ → ℤ
on_axis axis x = round_div (axis.factor *ℤ x -ℤ axis.offset) 3600000

-- ---- a shift: dLat, dLon and dH
abbrev pub shift_says : Shift → Family ℤ
shift_says s = shift s.latitude s.longitude s.height

-- ---- the equations of tables of the code, whose coefficients are in the units of the answer; they have no bound
abbrev pub shift_by : List table.Term → List table.Term → List table.Term → Family Equation
shift_by latitude longitude height = shift (terms latitude near 0) (terms longitude near 0) (terms height near 0)

abbrev pub geoid_by : List table.Term → Family Equation
geoid_by height = geoid (terms height near 0)

-- ---- what the equations give by u and v
abbrev pub equation_at : ℕ → List Term → ℤ → ℤ → ℤ
equation_at divisor terms u v = equation_of divisor terms (powers_of scale u 10) (powers_of scale v 10)

abbrev pub evaluated_at : Family Equation → ℤ → ℤ → Family ℤ
evaluated_at equations u v = evaluated equations (powers_of scale u 10) (powers_of scale v 10)

-- ---- of what a datum gives, its shift, and three zeros of a geoid datum; its geoid height, and 0 of a shift datum
abbrev pub shift_or_none : Family ℤ → Family ℤ
shift_or_none (shift a b c) = shift a b c
shift_or_none (geoid n) = shift (pos 0) (pos 0) (pos 0)

abbrev pub geoid_or_none : Family ℤ → Family ℤ
geoid_or_none (shift a b c) = geoid (pos 0)
geoid_or_none (geoid n) = geoid n

-- ---- what is asked, and shown of every point of a box by the test that proofs/Limits computes
-- of u and v: their powers can be worked
abbrev pub Small : ℤ → ℤ → Type 0
Small u v = (nat_abs u ≤ 255000000) × (nat_abs v ≤ 255000000)

-- and of an equation: no number on the way is larger than 64 bits hold, and 4 bytes hold the answer
pub record Fits (divisor : ℕ) (terms : List Term) (u v : ℤ) : Type 0 where
  pub small : Small u v
  pub room : Room terms (size_powers u) (size_powers v)
  pub fits : SFits w32 (equation_at divisor terms u v)

-- of all equations of a datum
abbrev pub AllFit : Family Equation → ℤ → ℤ → Type 0
AllFit equations u v = Each (λ e. Fits e.divisor e.terms u v) equations

-- of an axis: factor and offset are so small that 64 bits hold what is divided, of every 4-byte number
pub record Close (axis : Axis) : Type 0 where
  pub factor : nat_abs axis.factor ≤ 1000000000
  pub offset : nat_abs axis.offset ≤ 1000000000000000000
