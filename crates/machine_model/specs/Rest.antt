-- How a run on one thread goes on when its letters are over (own): which letter is next, until none is. A cycle is an entering,
-- turns and looks by turns until a turn is idle, and then the cycle's own letter.
use Rattle.std.specs.Prelude.{ℕ, Bool, true, false, ◌&&◌, ◌||◌, if◌then◌else◌, List, [], ◌∷◌, length, Option, Some, None, is_none}
use Rattle.session_model.specs.declared.session.Session.{Session}
use Rattle.engine_model.specs.Edits.{has_quit}
use Rattle.engine_model.specs.Lines.{Line}
use Rattle.machine_model.specs.Core.{Core}
use Rattle.machine_model.specs.Control.{Awaited, is_over, is_played_out}
use Rattle.machine_model.specs.Letters.{Letter, C, B, E, G, P, Machine, is_idle, by_letter}

-- where the rest stands
pub data Phase : Type 0 where
  -- between two cycles
  Between : Phase
  -- in a cycle, before a turn; before a look; before the entry is made
  BeforeTurn : Phase
  BeforeLook : Phase
  BeforeEntry : Phase
  -- after the last turn
  Over : Phase

-- what is next between two cycles: a line, a cycle, or the last turns
pub data Task : Type 0 where
  Carry : Task
  Play : Task
  Finish : Task

-- after a quit, and where no cycle can begin, no cycle does
abbrev pub is_finished : ℕ → Core → Bool
is_finished cycles c = has_quit c.edits (length c.edits) || is_played_out cycles c

abbrev pub next_task : ℕ → Core → Option Awaited → List Line → Task
next_task cycles c (Some awaited) lines = if is_over cycles c awaited then Carry else Play
next_task cycles c None (line ∷ lines) = Carry
next_task cycles c None [] = if is_finished cycles c then Finish else Play

abbrev pub task_of : ℕ → Machine → Task
task_of cycles m = next_task cycles m.core m.control.awaits m.control.lines

-- the letter of a task, and where the rest stands after it
abbrev pub begin_task : Bool → Task → Letter × Phase
begin_task idle Carry = (C, Between)
begin_task idle Play = (E, BeforeTurn)
begin_task idle Finish = (B, if idle then Over else Between)

abbrev pub next_letter : Session → ℕ → Phase → Machine → Option (Letter × Phase)
next_letter session cycles Between m = Some (begin_task (is_idle session cycles m.core) (task_of cycles m))
next_letter session cycles BeforeTurn m = Some (B, if is_idle session cycles m.core then BeforeEntry else BeforeLook)
next_letter session cycles BeforeLook m = Some (G, BeforeTurn)
next_letter session cycles BeforeEntry m = Some (P, Between)
next_letter session cycles Over m = None

abbrev pub is_letter : Letter → Letter → Bool
is_letter C C = true
is_letter B B = true
is_letter E E = true
is_letter G G = true
is_letter P P = true
is_letter _ _ = false

abbrev pub is_next : Letter → Option (Letter × Phase) → (Phase → Bool) → Bool
is_next letter None rest = false
is_next letter (Some next) rest = is_letter letter next.0 && rest next.1

-- these letters are all that is left from a phase on
abbrev pub is_rest_from : Session → ℕ → Phase → Machine → List Letter → Bool
is_rest_from session cycles phase m [] = is_none (next_letter session cycles phase m)
is_rest_from session cycles phase m (letter ∷ letters) = is_next letter (next_letter session cycles phase m)
    (λ next. is_rest_from session cycles next (by_letter session cycles m letter) letters)

-- these letters are the serial rest of a run
abbrev pub is_rest : Session → ℕ → Machine → List Letter → Bool
is_rest session cycles m letters = is_rest_from session cycles Between m letters
