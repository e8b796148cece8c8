-- What a turn leaves of the media, and what faults leave.
use Rattle.std.specs.Prelude.{◌≡◌, ℕ, ◌≤◌, true, false, Bool, if◌then◌else◌, length, Result, Ok, Err}
use Rattle.ses_io.specs.Faults.{risen}
use Rattle.ses_io.specs.Outside.{MediaOutside, OnlyReads}
use Rattle.session_model.specs.declared.session.Session.{Session}
use Rattle.edition_log.specs.EditionState.{EditionState as Edition}
use Rattle.read_ahead.specs.AllServes.{total_sent, AllAtHand}
use Rattle.capture_drain.specs.Drains.{total_received}
use Rattle.capture_drain.specs.Files.{NotesFault, OtherFilesStand}
use Rattle.butler.specs.declared.turning.Turn.{Turn}
use Rattle.butler.specs.declared.faults.ButlerFault.{ButlerFault}
use Rattle.butler.specs.declared.faults.ButlerFault.TheVariants.{ReadFault, WriteFault}
use Rattle.butler.specs.ButlerState.{ButlerState}
use Rattle.butler.specs.Turns.{pass_of}

abbrev pub is_read_fault : Result Turn ButlerFault → Bool
is_read_fault (Ok turn) = false
is_read_fault (Err ReadFault) = true
is_read_fault (Err WriteFault) = false

abbrev pub is_write_fault : Result Turn ButlerFault → Bool
is_write_fault (Ok turn) = false
is_write_fault (Err ReadFault) = false
is_write_fault (Err WriteFault) = true

-- a count of faults rose; it stands still at its type's end
pub record HasRisen (before now : ℕ) : Type 0 where
  pub later : before ≤ now
  pub rose : risen before ≤ now

-- it rose where its fault is answered, and else it stands
abbrev pub Counts : Bool → ℕ → ℕ → Type 0
Counts true before now = HasRisen before now
Counts false before now = now ≡ before

-- What faults leave.
pub record Fails {V : Type 0} (outside : MediaOutside V) (old : ButlerState V) (answer : Result Turn ButlerFault) (new : ButlerState V) : Type 0 where
  -- each flag is raised by its own fault, and never falls
  pub hushed : new.hushed ≡ (if is_read_fault answer then true else old.hushed)
  pub write_failed : new.write_failed ≡ (if is_write_fault answer then true else old.write_failed)
  -- a fault is answered only where its own count rose, which it did alone
  pub reads : Counts (is_read_fault answer) (outside.read_faults old.media) (outside.read_faults new.media)
  pub writes : Counts (is_write_fault answer) (outside.write_faults old.media) (outside.write_faults new.media)
  -- once it is hushed nothing is sent
  pub no_more_sent : old.hushed ≡ true → new.ends.sends ≡ old.ends.sends
  -- a write fault is noted by its take, of which nothing more is written; all others go on
  pub noted : NotesFault (is_write_fault answer) old.drain.files new.drain.files
  -- and nothing is read either, so a read fault is answered once
  pub read_once : old.hushed ≡ true → (is_read_fault answer ≡ false) × (new.sources ≡ old.sources)
      × (total_received new.ends.takes.items ≡ total_received old.ends.takes.items → new.media ≡ old.media)

-- What else a turn leaves as it was.
pub record KeepsRest {V : Type 0} (outside : MediaOutside V) (s : Session) (e : Edition) (old new : ButlerState V) : Type 0 where
  -- the sources that were opened, and how many cycles were asked
  pub sources : new.sources.opened ≡ old.sources.opened
  pub cycles : new.cycles ≡ old.cycles
  -- all files but those of takes
  pub others : outside.tells → OtherFilesStand s (outside.files old.media) (outside.files new.media)
  -- and these too where no block was received
  pub same : total_received new.ends.takes.items ≡ total_received old.ends.takes.items → OnlyReads outside old.media new.media
  -- a turn that finds all that is due made and sends nothing reads nothing
  pub quiet : old.entered ≡ length e.edits → AllAtHand (pass_of e new) old.supplies → total_sent new.ends.sends.items ≡ total_sent old.ends.sends.items →
      (new.sources ≡ old.sources) × (total_received new.ends.takes.items ≡ total_received old.ends.takes.items → new.media ≡ old.media)
