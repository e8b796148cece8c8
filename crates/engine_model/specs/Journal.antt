-- The journal of a run: one entry a cycle, which says in which edition it was, what was heard of each track and what was
-- taken of each (own). Entries and takes count from 1, blocks of a generation and of a take from 0.
use Rattle.std.specs.Prelude.{ℕ, zero, suc, Bool, true, false, ◌==◌, if◌then◌else◌, List, [], ◌∷◌}

pub data Play : Type 0 where
  -- the transport didn't play
  Silent : Play
  -- a piece of this playlist edition was heard
  Heard : ℕ → Play
  -- none was there: so many items had been received
  Short : ℕ → Play

pub data Take : Type 0 where
  Off : Take
  -- take, index
  Taken : ℕ → ℕ → Take
  -- take, index, and how many blocks had been flushed when the ring was full
  Lost : ℕ → ℕ → ℕ → Take

pub record Note : Type 0 where
  pub play : Play
  pub take : Take

pub data State : Type 0 where
  Stopped : State
  -- the track that has no first piece, and how many of its items had been received
  Seeking : ℕ → ℕ → State
  -- generation, block
  Rolling : ℕ → ℕ → State

pub record Entry : Type 0 where
  pub edition : ℕ
  -- all that is heard from here on is as this edition has it, or newer
  pub settled : ℕ
  pub state : State
  -- one for each track
  pub notes : List Note

-- ---- words on entries; what stood before is listed newest first

abbrev pub is_rolling : State → Bool
is_rolling (Rolling g s) = true
is_rolling _ = false

abbrev pub is_rolling_in : ℕ → State → Bool
is_rolling_in g (Rolling h s) = h == g
is_rolling_in g _ = false

-- how many of the entries roll in generation g
abbrev pub rolled : ℕ → List Entry → ℕ
rolled g [] = 0
rolled g (e ∷ es) = if is_rolling_in g e.state then suc (rolled g es) else rolled g es

-- the note of track t, which says nothing where there is none
abbrev pub note_at : ℕ → List Note → Note
note_at t [] = record { play = Silent; take = Off }
note_at zero (n ∷ ns) = n
note_at (suc t) (n ∷ ns) = note_at t ns

abbrev pub note_of : ℕ → Entry → Note
note_of t e = note_at t e.notes
