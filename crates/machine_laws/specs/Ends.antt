-- Why a run comes to its end: what a cycle and a turn get done, and that letters for the rest of a run exist.
use Rattle.std.specs.Prelude.{◌≡◌, ◌⊎◌, ℕ, suc, ◌+◌, ◌-◌, ◌*◌, ◌<◌, ◌≤◌, true, false, List, [], ◌∷◌, length, None}
use Rattle.session_model.specs.declared.session.Session.{Session}
use Rattle.session_model.specs.Lists.{EachAt}
use Rattle.session_model.specs.Valid.{IsValid}
use Rattle.engine_model.specs.Lines.{Line}
use Rattle.machine_model.specs.Core.{TrackState, Core}
use Rattle.machine_model.specs.Events.{after, due_of, has_room}
use Rattle.machine_model.specs.Letters.{Letter, Machine, begins, by_letters, is_idle, butler_moves, gather_moves, cycle_moves}
use Rattle.machine_model.specs.Rest.{is_finished, is_rest}
use Rattle.machine_laws.specs.SerialRun.{IsPlainRun}
use Rattle.machine_laws.specs.Stands.{Stands}

-- no more items than these are ever sent of a track, while no further edit comes
abbrev pub most_ever : ℕ → Core → ℕ
most_ever cycles c = (length c.edits + 1) * cycles * (length c.edits + 1) + (length c.edits + 1)

-- how much a butler may still move of the tracks: items below the most, and blocks that aren't flushed
abbrev pub left_to_move : ℕ → List TrackState → ℕ
left_to_move most [] = 0
left_to_move most (x ∷ xs) = (most - length x.sent) + (length x.put - x.flushed) + left_to_move most xs

-- a turn that moves something leaves less,
abbrev pub TurnsLeaveLess : Type 0
TurnsLeaveLess = (session : Session) (cycles : ℕ) (c : Core) → Stands session cycles c → is_idle session cycles c ≡ false →
    left_to_move (most_ever cycles c) (after session cycles c (butler_moves session cycles c)).tracks < left_to_move (most_ever cycles c) c.tracks

-- look-ups leave as much,
abbrev pub LooksLeaveAsMuch : Type 0
LooksLeaveAsMuch = (session : Session) (cycles : ℕ) (c : Core) → Stands session cycles c → c.in_cycle ≡ true →
    left_to_move (most_ever cycles c) (after session cycles c (gather_moves session cycles c)).tracks ≡ left_to_move (most_ever cycles c) c.tracks

-- and a cycle that is open makes its entry, whatever was received
pub record MakesItsEntry (c d : Core) : Type 0 where
  pub shut : d.in_cycle ≡ false
  pub one_more : length d.entries ≡ suc (length c.entries)

abbrev pub CycleMakesItsEntry : Type 0
CycleMakesItsEntry = (session : Session) (cycles : ℕ) (c : Core) → Stands session cycles c → c.in_cycle ≡ true → MakesItsEntry c (after session cycles c (cycle_moves session cycles c))

-- so from every machine in which all stands there are letters to its end
abbrev pub EveryRunEnds : Type 0
EveryRunEnds = (session : Session) (cycles : ℕ) (m : Machine) → Stands session cycles m.core → (letters : List Letter) × (is_rest session cycles m letters ≡ true)

-- and there are no other letters,
abbrev pub TheRestIsOne : Type 0
TheRestIsOne = (session : Session) (cycles : ℕ) (m : Machine) (one other : List Letter) → is_rest session cycles m one ≡ true → is_rest session cycles m other ≡ true → one ≡ other

-- A run at its end.
pub record IsAtEnd (session : Session) (cycles : ℕ) (m : Machine) : Type 0 where
  -- each line was carried out, and nothing is waited for
  pub lines : m.control.lines ≡ []
  pub awaits : m.control.awaits ≡ None
  -- no cycle begins any more
  pub finished : is_finished cycles m.core ≡ true
  -- the butler is in the newest edition
  pub entered : m.core.entered ≡ length m.core.edits
  -- each block was flushed
  pub flushed : EachAt (λ t x. x.flushed ≡ length x.put) m.core.tracks
  -- of each track nothing is due, or its ring is full
  pub moved : EachAt (λ t x. (due_of session cycles m.core t x ≡ None) ⊎ (has_room session x ≡ false)) m.core.tracks

-- and they leave nothing to do
abbrev pub TheRestLeavesNothing : Type 0
TheRestLeavesNothing = (session : Session) (cycles : ℕ) (m : Machine) (letters : List Letter) → Stands session cycles m.core → is_rest session cycles m letters ≡ true →
    IsAtEnd session cycles (by_letters session cycles m letters)

-- so for every valid session and list of lines there is a run on one thread, and it is the plain one
abbrev pub ThePlainRunIsReached : Type 0
ThePlainRunIsReached = (session : Session) (cycles : ℕ) (lines : List Line) → IsValid session → 1 ≤ cycles → cycles ≤ 100000 →
    (letters : List Letter) × (is_rest session cycles (begins session lines) letters ≡ true) × IsPlainRun session cycles lines (by_letters session cycles (begins session lines) letters)
