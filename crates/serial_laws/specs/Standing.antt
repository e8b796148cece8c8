-- Where a run on one thread stands, whatever lines of control are still to come (own). The core machine has all its lines from the
-- start; a run reads them one by one, so what it has come to is said for each list of lines that may follow.
use Rattle.std.specs.Prelude.{◌≡◌, Bool, true, false, if◌then◌else◌, ℕ, List, [], Option, None}
use Rattle.session_model.specs.declared.session.Session.{Session}
use Rattle.engine_model.specs.Lines.{Line}
use Rattle.engine_model.specs.Replies.{Reply}
use Rattle.machine_model.specs.Core as machine
use Rattle.machine_model.specs.Core.{Core}
use Rattle.machine_model.specs.Control.{Awaited}
use Rattle.machine_model.specs.Events.{after}
use Rattle.machine_model.specs.Letters.{Letter, Machine, moves}

pub record Standing : Type 0 where
  pub core : Core
  pub awaits : Option Awaited
  -- the newest first
  pub replies : List Reply
  -- no further line is carried out
  pub ended : Bool
  -- since an accepted edit quit; else control came to its end
  pub quit : Bool

-- no line was taken yet, and nothing has happened
abbrev pub at_first : Session → Standing
at_first s = record { core = machine.at_first s; awaits = None; replies = []; ended = false; quit = false }

-- These lines may still be to come: any while lines are read, and after a quit; none once control came to its end.
abbrev pub MayCome : Standing → List Line → Type 0
MayCome st lines = st.ended ≡ true → st.quit ≡ false → lines ≡ []

-- those of them that are carried out
abbrev pub carried_of : Standing → List Line → List Line
carried_of st lines = if st.ended then [] else lines

-- the core machine that stands so, with these lines to come
abbrev pub machine_of : Standing → List Line → Machine
machine_of st lines = record { core = st.core; control = record { lines = carried_of st lines; awaits = st.awaits; replies = st.replies } }

-- A letter of the workers leaves control as it is.
abbrev pub worked : Session → ℕ → Letter → Standing → Standing
worked s cycles letter st = record st { core = after s cycles st.core (moves s cycles (machine_of st []) letter) }
