-- The status that says why a session isn't opened.
use Rattle.std.specs.Prelude.{◌≡◌, ◌⊎◌}
use Rattle.audio_source.specs.declared.refusal.FileRefusal.{FileRefusal}
use Rattle.audio_source.specs.Refusals.{why_of}
use Rattle.cycle_journal.specs.declared.status.Status.{Status}
use Rattle.cycle_journal.specs.declared.status.Status.TheVariants.{Session, SourceFile, ReadFault, NoMemory}
use Rattle.session_opening.specs.Plan.{Wrong, SessionRefused, SourceRefused}
use Rattle.session_opening.specs.declared.unopened.Unopened.{Unopened}
use Rattle.session_opening.specs.declared.unopened.Unopened.TheVariants as unopened

-- the status that says what is wrong with session or sources
abbrev pub Says : Wrong → Status → Type 0
Says (SessionRefused refusal) s = s ≡ Session refusal
Says (SourceRefused name why) s = (refusal : FileRefusal) × (s ≡ SourceFile name refusal) × (why_of refusal ≡ why)

-- the status of what isn't opened
abbrev pub status_of : Unopened → Status
status_of (unopened.Session refusal) = Session refusal
status_of (unopened.Source name why) = SourceFile name why
status_of unopened.ReadFault = ReadFault
status_of unopened.NoMemory = NoMemory

-- a failed read of the media, and want of memory, may come in place of what is wrong
abbrev pub IsUnread : Status → Type 0
IsUnread s = (s ≡ ReadFault) ⊎ (s ≡ NoMemory)
