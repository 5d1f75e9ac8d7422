-- What document 000 has on the page of a datum, and the area that document 01 sets for it.
use Rattle.std.specs.Prelude.{Bool, true, false, not, ◌&&◌, List, ℕ, ◌+◌, ◌*◌, ℤ, pos, ◌*ℤ◌}
use Rattle.whole.specs.Round.{scale}
use Rattle.equation.specs.Equation.{Term}

-- of a shift datum, one for each of dLat, dLon and dH; of a geoid datum, one for N
pub data Family (A : Type 0) : Type 0 where
  shift : A → A → A → Family A
  geoid : A → Family A

abbrev pub is_shift : {A : Type 0} → Family A → Bool
is_shift (shift a b c) = true
is_shift (geoid n) = false

abbrev pub is_geoid : {A : Type 0} → Family A → Bool
is_geoid family = not (is_shift family)

abbrev pub is_either : {A : Type 0} → Family A → Bool
is_either family = true

-- ---- the kind of each: an angle in 0.00001", or a height in mm
pub data Kind : Type 0 where
  angle : Kind
  height : Kind

abbrev pub kinds_of : {A : Type 0} → Family A → Family Kind
kinds_of (shift a b c) = shift angle angle height
kinds_of (geoid n) = geoid height

-- ---- the same worked out of each
abbrev pub of_each : {A B : Type 0} → (A → B) → Family A → Family B
of_each work (shift a b c) = shift (work a) (work b) (work c)
of_each work (geoid n) = geoid (work n)

-- whether a test holds of each
abbrev pub each : {A : Type 0} → (A → Bool) → Family A → Bool
each test (shift a b c) = test a && (test b && test c)
each test (geoid n) = test n

-- that something holds of each
abbrev pub Each : {A : Type 0} → (A → Type 0) → Family A → Type 0
Each holds (shift a b c) = holds a × holds b × holds c
Each holds (geoid n) = holds n

-- that it is a shift of which something holds, or a geoid height of which something holds
abbrev pub OfShift : {A : Type 0} → Family A → (A → A → A → Type 0) → Type 0
OfShift (shift a b c) holds = holds a b c
OfShift (geoid n) holds = ⊥

abbrev pub OfGeoid : {A : Type 0} → Family A → (A → Type 0) → Type 0
OfGeoid (shift a b c) holds = ⊥
OfGeoid (geoid n) holds = holds n

-- that two are of one family, and something holds place by place
abbrev pub Paired : {A B : Type 0} → (A → B → Type 0) → Family A → Family B → Type 0
Paired holds (shift a b c) other = OfShift other (λ d e f. holds a d × holds b e × holds c f)
Paired holds (geoid a) other = OfGeoid other (λ b. holds a b)

-- ---- an equation of the page
-- its terms, what their sum is divided by, and how near the answer is proved to be to the exact value, in thousandths of a unit
pub record Equation : Type 0 where
  pub terms : List Term
  pub divisor : ℕ
  pub bound : ℕ

-- one whose coefficients are in the units of the answer: the sum is divided by the scale alone
infix 20 ◌near◌
abbrev pub ◌near◌ : List Term → ℕ → Equation
terms near bound = record { terms = terms; divisor = scale; bound = bound }

-- ---- how u comes of the latitude, and v of the longitude, both in ms
-- the factor times it, less the offset, over the divisor
pub record Axis : Type 0 where
  pub factor : ℕ
  pub offset : ℤ
  pub divisor : ℕ

-- K, in hundred-millionths, times its difference from a centre, over the ms of a degree
infix 20 ◌from◌
abbrev pub ◌from◌ : ℕ → ℤ → Axis
k from centre = record { factor = k; offset = pos k *ℤ centre; divisor = 3600000 }

-- ---- a page: the book's u, v and equations, and the ends of our area in ms. West of Greenwich an end may be negative
pub record Page : Type 0 where
  pub u : Axis
  pub v : Axis
  pub equations : Family Equation
  pub south : ℤ
  pub north : ℤ
  pub west : ℤ
  pub east : ℤ

-- degrees and minutes, in ms
abbrev pub at : ℕ → ℕ → ℤ
at degrees minutes = pos ((60 * degrees + minutes) * 60000)
