-- Document 02, wish 1: the waypoint of a converted point, for GPX 1.1.
use Rattle.std.specs.Prelude.{cond, List, ◌++◌, ℕ, ℤ, pos, ◌-ℤ◌, ◌*ℤ◌}
use Rattle.std.specs.Int.Signed.{le_z}
use Rattle.whole.specs.Round.{round_div}
use Rattle.kinds.specs.Answer.{Answer, gives, placed, following}
use Rattle.kinds.specs.Bytes.{ascii}
use Rattle.decimal.specs.Decimal.{billion, nine_places}
use Rattle.datum.specs.Point.{converted_of}

-- ---- decimal degrees, in billionths, of a position in 0.00001"
-- 'Decimal degrees are that whole number divided by 360,000,000, rounded as in 01'
unfoldable pub degrees : ℤ → ℤ
degrees units = round_div (units *ℤ pos billion) 360000000

-- 'longitude from -180 up to but not 180': a turn less from 180 up
abbrev pub east_or_west : ℤ → ℤ
east_or_west longitude = cond (le_z (pos 180000000000) longitude) (longitude -ℤ pos 360000000000) longitude

-- ---- the element
-- of a converted position
unfoldable pub element : ℤ → ℤ → List ℕ
element latitude longitude =
    ascii "<wpt lat=\"" ++ nine_places (degrees latitude) ++ ascii "\" lon=\"" ++ nine_places (east_or_west (degrees longitude)) ++ ascii "\"/>"

-- of a local one: refused as its shift is
abbrev pub element_of : ℤ → ℤ → ℤ → Answer (List ℕ)
element_of code latitude longitude = following (converted_of code latitude longitude) (λ position. gives (element position.0 position.1))

-- 'Refusals: as for a shift, then 7'
abbrev pub waypoint_of : ℤ → ℤ → ℤ → ℕ → Answer (List ℕ)
waypoint_of code latitude longitude room = following (element_of code latitude longitude) (λ bytes. placed bytes room)
