-- What is read of the bytes that a reader gives, where they are known, and what a run over the questions does.
use Rattle.std.specs.Prelude.{◌≡◌, ◌≤◌, ◌-◌, ◌^◌, ◌⊎◌, ℕ, List, [], ◌∷◌, length, take, Option, Some, None, Result, Ok, unwrap_or}
use Rattle.std.specs.Borrow.{MutBor}
use Rattle.std.specs.List.{FoldsTo}
use Rattle.std.specs.Io.KnownBytes.{Consumes, IsAtEnd}

-- the first bytes of a buffer were read: as many as it has, or as there were
pub record Fills (given rest : Option (List ℕ)) (read : List ℕ) : Type 0 where
  pub count : ℕ
  pub within : count ≤ length read
  pub consumed : Consumes given rest (take count read)
  pub ends : (count ≡ length read) ⊎ IsAtEnd rest

-- a letter was read, 0 where none is given, or none was there
abbrev pub IsAsked : Option (List ℕ) → Option (List ℕ) → Option ℕ → Type 0
IsAsked given rest letter = Consumes given rest (unwrap_or letter 0 ∷ []) ⊎ (Consumes given rest [] × IsAtEnd rest)

module _ {R W E : Type 0} (remaining : R → Option (List ℕ)) (post : MutBor R → MutBor W → ℕ → Result (Unit {0}) E → MutBor R → MutBor W → Type 0) where
  -- a letter is read, and a function that promises post is called with it, and is Ok
  pub record Answers (before : R × W) (asked : ℕ) (after : R × W) : Type 0 where
    pub questions : MutBor R
    pub answers : MutBor W
    pub read : IsAsked (remaining before.0) (remaining questions.now) (Some asked)
    pub writes : answers.now ≡ before.1
    pub questions' : MutBor R
    pub answers' : MutBor W
    pub met : post questions answers asked (Ok tt) questions' answers'
    pub leaves : (questions'.now ≡ after.0) × (answers'.now ≡ after.1)

  -- each question is answered, until no letter is read, or there were 2^64 - 1 of them
  pub record AnswersEach (questions : R) (answers : W) (questions' : R) (answers' : W) : Type 0 where
    pub asked : List ℕ
    pub last : R
    pub answered : FoldsTo Answers (questions, answers) asked (last, answers')
    pub ends : IsAsked (remaining last) (remaining questions') None ⊎ ((length asked ≡ 2 ^ 64 - 1) × (last ≡ questions'))
