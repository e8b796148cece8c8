-- Where control stands, and what is answered before a line may follow.
use Rattle.std.specs.Prelude.{ℕ, Bool, true, false, if◌then◌else◌, List, [], Option, Some, None, Result, Ok, Err}
use Rattle.session_model.specs.declared.edit.Edit.{Edit}
use Rattle.engine_model.specs.Edits.{is_quit}
use Rattle.engine_model.specs.Replies.{Reply}
use Rattle.machine_model.specs.Control.{Awaited}
use Rattle.edit_resolve.specs.declared.reason.Refusal.{Refusal}
use Rattle.control_desk.specs.declared.progress.Progress.{Progress}
use Rattle.control_desk.specs.declared.standing.End.{End}
use Rattle.control_desk.specs.declared.standing.End.TheVariants.{NoLine, Quit, ReadFailed, WriteFailed}
use Rattle.control_desk.specs.declared.standing.Standing as code
use Rattle.control_desk.specs.declared.standing.Standing.TheVariants as standing
use Rattle.control_desk.specs.Seen.{awaited_of, is_over_by, replies_by}

-- where control stands
pub data Standing : Type 0 where
  -- the next line may be carried out
  Ready : Standing
  Awaits : Awaited → Standing
  -- no line is carried out any more
  Ended : End → Standing

abbrev pub standing_of : code.Standing → Standing
standing_of standing.Ready = Ready
standing_of (standing.Awaits awaited) = Awaits (awaited_of awaited)
standing_of (standing.Ended why) = Ended why

-- ---- what is asked of it

abbrev pub is_ready : Standing → Bool
is_ready Ready = true
is_ready (Awaits awaited) = false
is_ready (Ended why) = false

abbrev pub is_ended : Standing → Bool
is_ended Ready = false
is_ended (Awaits awaited) = false
is_ended (Ended why) = true

abbrev pub awaits_of : Standing → Option Awaited
awaits_of Ready = None
awaits_of (Awaits awaited) = Some awaited
awaits_of (Ended why) = None

-- a read of control failed
abbrev pub read_failed : Standing → Bool
read_failed Ready = false
read_failed (Awaits awaited) = false
read_failed (Ended NoLine) = false
read_failed (Ended Quit) = false
read_failed (Ended ReadFailed) = true
read_failed (Ended (WriteFailed quit)) = false

-- a write of out failed
abbrev pub write_failed : Standing → Bool
write_failed Ready = false
write_failed (Awaits awaited) = false
write_failed (Ended NoLine) = false
write_failed (Ended Quit) = false
write_failed (Ended ReadFailed) = false
write_failed (Ended (WriteFailed quit)) = true

-- a quit was accepted
abbrev pub has_quit : Standing → Bool
has_quit Ready = false
has_quit (Awaits awaited) = false
has_quit (Ended NoLine) = false
has_quit (Ended Quit) = true
has_quit (Ended ReadFailed) = false
has_quit (Ended (WriteFailed quit)) = quit

-- ---- where it stands next

-- something is waited for, unless it is over
abbrev pub awaiting : Progress → Option Awaited → Standing
awaiting seen None = Ready
awaiting seen (Some awaited) = if is_over_by seen awaited then Ready else Awaits awaited

-- what is answered before a line may follow, and where control stands then
abbrev pub due : Progress → Standing → List Reply
due seen Ready = []
due seen (Awaits awaited) = replies_by seen awaited
due seen (Ended why) = []

abbrev pub after_due : Progress → Standing → Standing
after_due seen Ready = Ready
after_due seen (Awaits awaited) = awaiting seen (Some awaited)
after_due seen (Ended why) = Ended why

-- after an edit: an accepted quit is the last
abbrev pub after_edit : Edit → Result ℕ Refusal → Standing
after_edit edit (Ok k) = if is_quit edit then Ended Quit else Ready
after_edit edit (Err why) = Ready

-- where a write failed control has ended
abbrev pub cut_off : Bool → Standing → Standing
cut_off true standing = Ended (WriteFailed (has_quit standing))
cut_off false standing = standing
