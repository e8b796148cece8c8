-- The status of a command that isn't a run: which one the words and the files determine, and what ties each fault to its count.
use Rattle.std.specs.Prelude.{◌≡◌, ◌≢◌, ℕ, ◌≤◌, ◌⊎◌, [], Option, Some, None, Result, Ok, Err}
use Rattle.ses_io.specs.Faults.{risen}
use Rattle.ses_io.specs.declared.world.World.{World}
use Rattle.cycle_journal.specs.declared.status.Status.{Status}
use Rattle.cycle_journal.specs.declared.status.Status.TheVariants.{Done, Usage, ReadFault, MasterFault, OutFault, NoMemory, Refuted, BadReport}
use Rattle.cycle_journal.specs.declared.status.Status.TheVariants as status
use Rattle.master_render.specs.declared.fault.RenderFault.{RenderFault}
use Rattle.master_render.specs.declared.fault.RenderFault.TheVariants as fault
use Rattle.session_opening.specs.declared.no_session.NoSession.{NoSession}
use Rattle.session_opening.specs.declared.unopened.Unopened.{Unopened}
use Rattle.session_opening.specs.Answers as answers
use Rattle.session_opening.specs.Plan.{Open}
use Rattle.session_play.specs.declared.outcome.Outcome.{Outcome}
use Rattle.session_opening.specs.Status.{Says, status_of}
use Rattle.session_verify.specs.Verified as verdict
use Rattle.session_run.specs.Tasks.{Task, Runs, Migrates, Checks, Renders, Verifies, Gens}

-- ---- by the words and the files

-- Where something is wrong the status says so. Else it is Done, or a write of what is written failed, which is this fault, or a read
-- of the media did. A failed read, and want of memory, may come in place of each.
abbrev pub EndsWith : {A : Type 0} → Status → Open A → Status → Type 0
EndsWith fault (Ok o) s = (s ≡ Done) ⊎ ((s ≡ fault) ⊎ ((s ≡ ReadFault) ⊎ (s ≡ NoMemory)))
EndsWith fault (Err wrong) s = Says wrong s ⊎ ((s ≡ ReadFault) ⊎ (s ≡ NoMemory))

-- the session, a source of it or takes that are there are in the way: no more than files was read then
abbrev pub IsBeforeInput : Status → Type 0
IsBeforeInput (status.Session why) = Unit {0}
IsBeforeInput (status.SourceFile name why) = Unit {0}
IsBeforeInput (status.TakesExist name) = Unit {0}
IsBeforeInput _ = ⊥

-- ---- by what failed

-- a status that a run may end with, whatever anything tells: any but those of other commands
abbrev pub IsOfRun : Status → Type 0
IsOfRun Usage = ⊥
IsOfRun (Refuted line) = ⊥
IsOfRun (BadReport line) = ⊥
IsOfRun _ = Unit {0}

-- the same of a migrate: it opens no source
abbrev pub IsOfMigrate : Status → Type 0
IsOfMigrate s = (s ≡ Done) ⊎ ((s ≡ OutFault) ⊎ ((why : NoSession) × (s ≡ status_of (answers.unopened why))))

-- the same of a check: it opens its sources
abbrev pub IsOfCheck : Status → Type 0
IsOfCheck s = (s ≡ Done) ⊎ ((s ≡ OutFault) ⊎ ((why : Unopened) × (s ≡ status_of why)))

-- how a rendering ended
abbrev pub status_after : Result (Unit {0}) RenderFault → Status
status_after (Ok v) = Done
status_after (Err fault.ReadFault) = ReadFault
status_after (Err fault.MasterFault) = MasterFault
status_after (Err fault.NoMemory) = NoMemory

-- the same of a render, which opens them too
abbrev pub IsOfRender : Status → Type 0
IsOfRender s = (s ≡ Done) ⊎ ((s ≡ MasterFault) ⊎ ((why : Unopened) × (s ≡ status_of why)))

-- the same of a verify: it opens its sources, and reads report and master
abbrev pub IsOfVerify : Status → Type 0
IsOfVerify s = (s ≡ Done) ⊎ ((s ≡ OutFault) ⊎ verdict.IsOfVerify s)

-- the same of a gen, which reads nothing
abbrev pub IsOfGen : Status → Type 0
IsOfGen s = (s ≡ Done) ⊎ ((s ≡ OutFault) ⊎ (s ≡ NoMemory))

-- the same of what was asked for, which may be no command
abbrev pub IsStatusOf : Option Task → Status → Type 0
IsStatusOf (Some (Runs r)) s = IsOfRun s
IsStatusOf (Some (Migrates name)) s = IsOfMigrate s
IsStatusOf (Some (Checks name)) s = IsOfCheck s
IsStatusOf (Some (Renders r)) s = IsOfRender s
IsStatusOf (Some (Verifies v)) s = IsOfVerify s
IsStatusOf (Some (Gens n)) s = IsOfGen s
IsStatusOf None s = s ≡ Usage

-- the media's count of failed reads, before and now
pub record ReadsFailed (before now : ℕ) (s : Status) : Type 0 where
  -- ReadFault comes only where it rose
  pub cause : s ≡ ReadFault → risen before ≤ now
  -- MasterFault goes before it, so there it may have risen
  pub later : s ≡ MasterFault → before ≤ now
  -- at every other status it is as it was
  pub same : s ≢ ReadFault → s ≢ MasterFault → now ≡ before

-- the count of failed writes of what is written, which are this fault
pub record WritesFailed (fault : Status) (before now : ℕ) (s : Status) : Type 0 where
  -- the fault comes only where it rose
  pub cause : s ≡ fault → risen before ≤ now
  -- at every other status it is as it was
  pub same : s ≢ fault → now ≡ before
  -- and it never falls
  pub later : before ≤ now

-- out's count of failed writes: the line of an error may fail too, and then the status stays
pub record RepliesFailed (before now : ℕ) (s : Status) : Type 0 where
  -- OutFault comes only where it rose
  pub cause : s ≡ OutFault → risen before ≤ now
  -- at Done it is as it was
  pub same : s ≡ Done → now ≡ before
  -- and it never falls
  pub later : before ≤ now

-- Nothing was played.
pub record HasNotPlayed {M I C W O : Type 0} (new : Outcome M I C W O) : Type 0 where
  pub journal : new.journal ≡ None
  pub rings : new.rings.items ≡ []
  pub acks : new.acks ≡ None

-- Nothing was played; the master was written to only where the session was opened.
pub record HasRendered {M I C W O : Type 0} (old : World M I C W O) (new : Outcome M I C W O) : Type 0 where
  pub unplayed : HasNotPlayed new
  -- it is as it was at each status but these
  pub refused : new.status ≢ Done → new.status ≢ MasterFault → new.status ≢ ReadFault → new.world.master ≡ old.master
