-- The notes that a text begins with, and the state (own).
use Rattle.std.specs.Prelude.{ℕ, zero, suc, ◌-◌, List, [], ◌∷◌, Option, Some, None, codes}
use Rattle.engine_model.specs.Journal.{Play, Silent, Heard, Short, Take, Off, Taken, Lost, Note, State, Stopped, Seeking, Rolling}
use Rattle.edit_script.specs.Forms.{largest}
use Rattle.report_reader.specs.Fields.{Read, ◌>>=◌, chosen, after, number_in, numbered}

-- ---- a note

abbrev pub heard_in : List ℕ → Read Play
heard_in bytes = do
  touched ← number_in 0 10000 bytes
  Some (Heard touched.0, touched.1)

abbrev pub short_in : List ℕ → Read Play
short_in bytes = do
  tail ← number_in 0 largest bytes
  Some (Short tail.0, tail.1)

-- `-`, `h` and a playlist edition, or `s` and a number of items
unfoldable pub play_in : List ℕ → Read Play
play_in bytes = chosen (after (codes "-") bytes) (λ rest. Some (Silent, rest)) (chosen (after (codes "h") bytes) heard_in (after (codes "s") bytes >>= short_in))

unfoldable pub taken_in : List ℕ → Read Take
taken_in bytes = do
  take ← number_in 1 100000 bytes
  index ← numbered (codes ".") 0 99999 take.1
  Some (Taken take.0 index.0, index.1)

unfoldable pub lost_in : List ℕ → Read Take
lost_in bytes = do
  take ← number_in 1 100000 bytes
  index ← numbered (codes ".") 0 99999 take.1
  head ← numbered (codes ".") 0 largest index.1
  Some (Lost take.0 index.0 head.0, head.1)

-- `-`, `t` and a block of a take, or `l` and one and a number of blocks
unfoldable pub take_in : List ℕ → Read Take
take_in bytes = chosen (after (codes "-") bytes) (λ rest. Some (Off, rest)) (chosen (after (codes "t") bytes) taken_in (after (codes "l") bytes >>= lost_in))

unfoldable pub note_in : List ℕ → Read Note
note_in bytes = do
  play ← play_in bytes
  rest ← after (codes "/") play.1
  take ← take_in rest
  Some (record { play = play.0; take = take.0 }, take.1)

-- at most so many notes, each behind a blank; nothing is left behind the last
unfoldable pub notes_in : ℕ → List ℕ → Option (List Note)
notes_in most [] = Some []
notes_in zero (b ∷ bytes) = None
notes_in (suc most) (b ∷ bytes) = do
  rest ← after (codes " ") (b ∷ bytes)
  note ← note_in rest
  notes ← notes_in most note.1
  Some (note.0 ∷ notes)

-- ---- the state

unfoldable pub seeking_in : List ℕ → Read State
seeking_in bytes = do
  track ← number_in 1 32 bytes
  tail ← numbered (codes " ") 0 largest track.1
  Some (Seeking (track.0 - 1) tail.0, tail.1)

unfoldable pub rolling_in : List ℕ → Read State
rolling_in bytes = do
  generation ← number_in 0 10000 bytes
  seq ← numbered (codes " ") 0 99999 generation.1
  Some (Rolling generation.0 seq.0, seq.1)

unfoldable pub state_in : List ℕ → Read State
state_in bytes = chosen (after (codes "stopped") bytes) (λ rest. Some (Stopped, rest)) (chosen (after (codes "seeking ") bytes) seeking_in (after (codes "rolling ") bytes >>= rolling_in))
