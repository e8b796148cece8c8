-- What control sees of a run, and what is over and answered by it (own).
use Rattle.std.specs.Prelude.{◌≡◌, ℕ, ◌+◌, Bool, false, ◌||◌, nat_le, if◌then◌else◌, List, [], ◌∷◌, length, Option, Some, None}
use Rattle.session_model.specs.declared.edit.Edit.{Edit}
use Rattle.engine_model.specs.Journal.{Entry}
use Rattle.engine_model.specs.Lines.{Line, Nothing, Says, Unread}
use Rattle.engine_model.specs.Plain.{Do, Wait, Sync}
use Rattle.engine_model.specs.Replies.{Reply, Done, Synced, NotSynced, LineRefused}
use Rattle.machine_model.specs.Core.{Core}
use Rattle.machine_model.specs.Control.{Awaited, Entries, SettledIn, is_played_out}
use Rattle.control_desk.specs.declared.progress.Progress.{Progress}
use Rattle.control_desk.specs.declared.progress.Awaited as code
use Rattle.control_desk.specs.declared.progress.Awaited.TheVariants as awaited

-- what is waited for, in the words of the core machine
abbrev pub awaited_of : code.Awaited → Awaited
awaited_of (awaited.Entries n) = Entries n
awaited_of (awaited.SettledIn k) = SettledIn k

-- the edition that the last entry has settled
abbrev pub last_settled : List Entry → Option ℕ
last_settled [] = None
last_settled (e ∷ before) = Some e.settled

-- This is what the core machine shows of itself, where so many cycles are asked for.
pub record IsSeenOf (cycles : ℕ) (c : Core) (seen : Progress) : Type 0 where
  pub edits : seen.edits ≡ length c.edits
  pub entries : seen.entries ≡ length c.entries
  pub settled : seen.settled ≡ last_settled c.entries
  pub played_out : seen.played_out ≡ is_played_out cycles c

-- ---- what is waited for

-- the last entry, if there is one, has edition k settled
abbrev pub is_settled_by : Option ℕ → ℕ → Bool
is_settled_by None k = false
is_settled_by (Some settled) k = nat_le k settled

-- it has come, or can't come any more
abbrev pub is_over_by : Progress → Awaited → Bool
is_over_by seen (Entries n) = nat_le n seen.entries || seen.played_out
is_over_by seen (SettledIn k) = is_settled_by seen.settled k || seen.played_out

-- what is answered once it is over
abbrev pub reply_by : Progress → Awaited → Reply
reply_by seen (Entries n) = Done
reply_by seen (SettledIn k) = if is_settled_by seen.settled k then Synced k seen.entries else NotSynced k

-- and at this time
abbrev pub replies_by : Progress → Awaited → List Reply
replies_by seen awaited = if is_over_by seen awaited then reply_by seen awaited ∷ [] else []

-- ---- what a line asks for

-- the edit that is to be published
abbrev pub edit_of : Line → Option Edit
edit_of Nothing = None
edit_of (Says (Do edit)) = Some edit
edit_of (Says (Wait n)) = None
edit_of (Says Sync) = None
edit_of (Unread why) = None

-- what it waits for: so many entries more, or that the newest edition is settled
abbrev pub wait_of : Progress → Line → Option Awaited
wait_of seen Nothing = None
wait_of seen (Says (Do edit)) = None
wait_of seen (Says (Wait n)) = Some (Entries (seen.entries + n))
wait_of seen (Says Sync) = Some (SettledIn seen.edits)
wait_of seen (Unread why) = None

-- what is answered at the line itself, where it is no edit
abbrev pub replies_to : Progress → Line → List Reply
replies_to seen Nothing = []
replies_to seen (Says (Do edit)) = []
replies_to seen (Says (Wait n)) = replies_by seen (Entries (seen.entries + n))
replies_to seen (Says Sync) = replies_by seen (SettledIn seen.edits)
replies_to seen (Unread why) = LineRefused why ∷ []
