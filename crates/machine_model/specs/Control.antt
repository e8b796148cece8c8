-- Control on one thread: its lines one after another, and what it waits for (own).
use Rattle.std.specs.Prelude.{ℕ, ◌+◌, Bool, true, false, ◌||◌, nat_le, if◌then◌else◌, List, [], ◌∷◌, length, Option, Some, None, Ok, Err}
use Rattle.session_model.specs.declared.session.Session.{Session}
use Rattle.engine_model.specs.Edits.{has_quit, is_quit}
use Rattle.engine_model.specs.Refusals.{Checked}
use Rattle.engine_model.specs.Editions.{Edition, edition, apply}
use Rattle.engine_model.specs.Journal.{Entry}
use Rattle.engine_model.specs.Plain.{Do, Wait, Sync}
use Rattle.engine_model.specs.Lines.{Line, Nothing, Says, Unread, accepts_after}
use Rattle.engine_model.specs.Replies.{Reply, Accepted, Refused, LineRefused, Done, synced_by}
use Rattle.machine_model.specs.Core.{Core}
use Rattle.machine_model.specs.Events.{Event, Publish}

-- what control waits for
pub data Awaited : Type 0 where
  -- so many entries
  Entries : ℕ → Awaited
  -- an entry that has this edition settled
  SettledIn : ℕ → Awaited

pub record Control : Type 0 where
  -- the lines that aren't carried out yet
  pub lines : List Line
  pub awaits : Option Awaited
  -- the newest first
  pub replies : List Reply

-- no cycle can begin any more, and none is open
abbrev pub is_played_out : ℕ → Core → Bool
is_played_out cycles c = nat_le cycles (length c.entries) || has_quit c.edits c.playing

abbrev pub is_last_settled : ℕ → List Entry → Bool
is_last_settled k [] = false
is_last_settled k (e ∷ before) = nat_le k e.settled

-- what control waits for has come, or can't come any more
abbrev pub is_over : ℕ → Core → Awaited → Bool
is_over cycles c (Entries n) = nat_le n (length c.entries) || is_played_out cycles c
is_over cycles c (SettledIn k) = is_last_settled k c.entries || is_played_out cycles c

abbrev pub answer_to : Core → Awaited → Reply
answer_to c (Entries n) = Done
answer_to c (SettledIn k) = synced_by k c.entries

abbrev pub replying : Reply → Control → Control
replying reply control = record control { replies = reply ∷ control.replies }

-- a wait that is over at its own line is answered there
abbrev pub waiting_for : ℕ → Core → Awaited → Control → Control
waiting_for cycles c awaited control = if is_over cycles c awaited then replying (answer_to c awaited) control
    else record control { awaits = Some awaited }

-- after an accepted quit no line is read
abbrev pub edit_done : Checked Edition → Bool → Control → Control
edit_done (Ok next) true control = replying (Accepted next.number) (record control { lines = [] })
edit_done (Ok next) false control = replying (Accepted next.number) control
edit_done (Err why) quits control = replying (Refused why) control

-- control after one line, where `rest` follow it
abbrev pub line_done : Session → ℕ → Core → Control → Line → Control
line_done session cycles c rest Nothing = rest
line_done session cycles c rest (Unread why) = replying (LineRefused why) rest
line_done session cycles c rest (Says (Do edit)) = edit_done (apply (edition session c.edits (length c.edits)) edit) (is_quit edit) rest
line_done session cycles c rest (Says (Wait n)) = waiting_for cycles c (Entries (length c.entries + n)) rest
line_done session cycles c rest (Says Sync) = waiting_for cycles c (SettledIn (length c.edits)) rest

-- what it publishes
abbrev pub published : Session → Core → Line → List Event
published session c Nothing = []
published session c (Unread why) = []
published session c (Says (Do edit)) = if accepts_after session c.edits edit then Publish edit ∷ [] else []
published session c (Says (Wait n)) = []
published session c (Says Sync) = []

-- the next line is carried out
abbrev pub next_line_done : Session → ℕ → Core → Control → List Line → Control
next_line_done session cycles c control [] = control
next_line_done session cycles c control (line ∷ lines) = line_done session cycles c (record control { lines = lines }) line

abbrev pub next_published : Session → Core → List Line → List Event
next_published session c [] = []
next_published session c (line ∷ lines) = published session c line

-- a control event: what is waited for and isn't over stands; where it is over, it is answered; then the next line is carried out
abbrev pub control_by : Session → ℕ → Core → Control → Option Awaited → Control
control_by session cycles c control None = next_line_done session cycles c control control.lines
control_by session cycles c control (Some awaited) = if is_over cycles c awaited
    then next_line_done session cycles c (record (replying (answer_to c awaited) control) { awaits = None }) control.lines else control

abbrev pub published_by : Session → ℕ → Core → List Line → Option Awaited → List Event
published_by session cycles c lines None = next_published session c lines
published_by session cycles c lines (Some awaited) = if is_over cycles c awaited then next_published session c lines else []

abbrev pub control_done : Session → ℕ → Core → Control → Control
control_done session cycles c control = control_by session cycles c control control.awaits

abbrev pub control_moves : Session → ℕ → Core → Control → List Event
control_moves session cycles c control = published_by session cycles c control.lines control.awaits
