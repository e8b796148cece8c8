-- What was read of control, and what is still to come.
use Rattle.std.specs.Prelude.{◌≡◌, ℕ, ◌+◌, ◌≤◌, true, List, [], ◌∷◌, ◌++◌, length, take, drop, Option, Some, None, ◌⊎◌}
use Rattle.ses_io.specs.Outside.{SourceOutside}
use Rattle.engine_model.specs.Lines.{control_limit, lines_from}
use Rattle.edit_script.specs.Reading.{Read, said}
use Rattle.edit_script.specs.declared.command.Command.{Command}
use Rattle.control_lines.specs.Begun.{bare, has_no_feed}

pub record LinesState (C : Type 0) : Type 0 where
  -- what the bytes are read from
  pub source : C
  -- those that were read, and are in no line yet
  pub waiting : List ℕ
  -- how many may be read yet
  pub budget : ℕ

-- of a piece of 4,096 bytes those from one to another are in no line yet
pub record IsKept (piece : List ℕ) (at end budget : ℕ) : Type 0 where
  pub long : length piece ≡ 4096
  pub order : at ≤ end
  pub within : end ≤ 4096
  pub limit : budget ≤ control_limit

-- the first n bytes left went to the front of a piece; none did only where none is left
pub record TakesFront (before after piece : List ℕ) (n : ℕ) : Type 0 where
  pub front : take n piece ≡ take n before
  pub rest : after ≡ drop n before
  pub end : n ≡ 0 → before ≡ []

-- nothing was read of it
abbrev pub at_first : {C : Type 0} → C → LinesState C
at_first source = record { source = source; waiting = []; budget = control_limit }

-- how many bytes may stand in the lines that follow
abbrev pub allowance : {C : Type 0} → LinesState C → ℕ
allowance s = length s.waiting + s.budget

module _ {C : Type 0} (outside : SourceOutside C) where
  -- all bytes that are in no line yet
  abbrev pub unread : LinesState C → List ℕ
  unread s = s.waiting ++ outside.left s.source

  -- those of them that lines are made of
  abbrev pub to_come : LinesState C → List ℕ
  to_come s = take (allowance s) (unread s)

  -- the next bytes were taken
  pub record Takes (bytes : List ℕ) (old new : LinesState C) : Type 0 where
    pub allowed : allowance old ≡ length bytes + allowance new
    pub next : outside.tells → unread old ≡ bytes ++ unread new

  -- the next byte was taken, or there is none
  abbrev pub TakesByte : LinesState C → Option ℕ → LinesState C → Type 0
  TakesByte old (Some byte) new = Takes (byte ∷ []) old new
  TakesByte old None new = Takes [] old new × (outside.tells → to_come old ≡ [])

  -- a piece was read, where none waited: it has no byte only where none is to come
  pub record Fetches (old new : LinesState C) : Type 0 where
    pub takes : Takes [] old new
    pub end : new.waiting ≡ [] → outside.tells → to_come old ≡ []

  -- what a line says was made of the bytes that were taken: those before a line feed, a carriage return at their end apart
  pub record SaysWhole (old : LinesState C) (answer : Read Command) (new : LinesState C) : Type 0 where
    pub line : List ℕ
    pub no_feed : has_no_feed line ≡ true
    pub takes : Takes (line ++ 10 ∷ []) old new
    pub says : answer ≡ said (bare line)

  -- or it has no line feed, and is the last
  pub record SaysLast (old : LinesState C) (answer : Read Command) (new : LinesState C) : Type 0 where
    pub byte : ℕ
    pub line : List ℕ
    pub no_feed : has_no_feed (byte ∷ line) ≡ true
    pub takes : Takes (byte ∷ line) old new
    pub says : answer ≡ said (byte ∷ line)
    pub last : outside.tells → to_come new ≡ []

  -- the next line was taken, or there is none
  abbrev pub TakesLine : LinesState C → Option (Read Command) → LinesState C → Type 0
  TakesLine old (Some answer) new = SaysWhole old answer new ⊎ SaysLast old answer new
  TakesLine old None new = Takes [] old new × (outside.tells → to_come old ≡ [])

  -- A read failed. The bytes of a line that was begun are lost, and none is waiting.
  pub record TakesAFront (old new : LinesState C) : Type 0 where
    pub line : List ℕ
    pub no_feed : has_no_feed line ≡ true
    pub takes : Takes line old new
    pub none : new.waiting ≡ []

-- ---- in the words of the engine

-- of these bytes the first line was taken, by what it says; the others are those of the bytes that are still to come
abbrev pub CutsLine : List ℕ → Option (Read Command) → List ℕ → Type 0
CutsLine before (Some answer) after = (line : List ℕ) × (answer ≡ said line) × (lines_from [] before ≡ line ∷ lines_from [] after)
CutsLine before None after = lines_from [] before ≡ []
