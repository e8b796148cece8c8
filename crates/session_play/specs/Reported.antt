-- What out gets of a run that was played: the replies, the report, and the line of its status.
use Rattle.std.specs.Prelude.{◌≡◌, ◌≤◌, ◌<◌, ◌-◌, ◌^◌, ℕ, Bool, true, false, ◌||◌, List, [], ◌++◌, Option, Some, None, Result, is_err}
use Rattle.ses_io.specs.Faults.{risen}
use Rattle.ses_io.specs.Outside.{SinkOutside, Writes}
use Rattle.ses_io.specs.declared.errors.Failed.{Failed}
use Rattle.ses_io.specs.Streams.{AppendsSome}
use Rattle.session_model.specs.declared.session.Session.{Session}
use Rattle.engine_model.specs.Played.{master_channels}
use Rattle.engine_model.specs.Replies.{Reply}
use Rattle.cycle_journal.specs.declared.head.ReportHead.{ReportHead}
use Rattle.cycle_journal.specs.declared.status.Status.{Status}
use Rattle.cycle_journal.specs.Report.{report}
use Rattle.cycle_journal.specs.RunReport.{reported}
use Rattle.control_desk.specs.GoesOn.{HasLastInPart}
use Rattle.control_desk.specs.Texts.{reply_texts}
use Rattle.fault_lines.specs.Fault.{fault_line, fault_words}
use Rattle.run_world.specs.declared.finished.Finished.{Finished}
use Rattle.session_play.specs.Ending.{status_at_end, with_report}
use Rattle.session_play.specs.Request.{Request}

-- the form of a run, as its report says it
abbrev pub head_of : Session → ℕ → ReportHead
head_of s cycles = record { rate = s.rate; bits = s.bits; channels = master_channels s; block = s.block; cycles = cycles }

-- the replies that go out: none to an export
abbrev pub said : Option ℕ → List Reply → List ℕ
said (Some from) replies = []
said None replies = reply_texts replies

-- a count of faults is what it was, and it didn't stand still at its end
pub record IsStill (before now : ℕ) : Type 0 where
  pub same : now ≡ before
  pub short : before < 2 ^ 64 - 1

-- A piece was written to a sink, unless a write of it had failed; and whether one has failed by then.
pub record Wrote {O : Type 0} (outs : SinkOutside O) (piece : List ℕ) (before : Bool) (old : O) (failed : Bool) (new : O) : Type 0 where
  pub silent : before ≡ true → (failed ≡ true) × (new ≡ old)
  pub written : before ≡ false → (answer : Result (Unit {0}) Failed) × (failed ≡ is_err answer) × Writes outs piece old new answer

-- The line of a status was, likewise.
pub record Ended {O : Type 0} (outs : SinkOutside O) (status : Status) (before : Bool) (old new : O) : Type 0 where
  pub silent : before ≡ true → new ≡ old
  pub written : before ≡ false → (answer : Result (Unit {0}) Failed) × Writes outs (fault_line status) old new answer
  pub untouched : fault_words status ≡ None → new ≡ old

module _ {M I C W O : Type 0} where
  -- **all that out is to get**, by its status
  abbrev pub told : Request → Session → Finished M I C W O → List Reply → Status → List ℕ
  told r s f replies status = said r.script replies ++ report (reported (head_of s r.cycles) f.edits.items f.journal.items) ++ fault_line status

  -- Out gets it, or a front of it where its count rose; and this has failed of it.
  pub record TellsOut (outs : SinkOutside O) (old new : O) (r : Request) (s : Session) (f : Finished M I C W O) (replies : List Reply) (status : Status) : Type 0 where
    -- whether a write of the report has failed
    pub unreported : Bool
    -- so this is the status: the first of what has failed
    pub status_is : status ≡ status_at_end (with_report unreported f.faults)
    pub whole : outs.tells → IsStill (outs.faults old) (outs.faults new) → outs.held new ≡ outs.held old ++ told r s f replies status
    -- where nothing of it has failed, and the status has no line, it's whole whatever the count was
    pub sure : outs.tells → (f.faults.out || unreported) ≡ false → fault_line status ≡ [] → outs.held new ≡ outs.held old ++ told r s f replies status
    pub front : outs.tells → AppendsSome (outs.held old) (outs.held new) (told r s f replies status)
    -- once the write of a reply has failed nothing follows, and it is the last that was given: no line is carried out after it
    pub silent : f.faults.out ≡ true → HasLastInPart outs replies old new
    -- out's count never falls, rose where a reply or the report has failed, and else only where the last line has
    pub later : outs.faults old ≤ outs.faults new
    pub raised : (f.faults.out || unreported) ≡ true → risen (outs.faults old) ≤ outs.faults new
    pub kept : (f.faults.out || unreported) ≡ false → fault_line status ≡ [] → outs.faults new ≡ outs.faults old

  -- The report of a run with this form, and the line of its status.
  abbrev pub reported_with : ReportHead → Finished M I C W O → Status → List ℕ
  reported_with head f status = report (reported head f.edits.items f.journal.items) ++ fault_line status

  -- Out gets them, unless a write of a reply has failed; then nothing.
  pub record Reports (outs : SinkOutside O) (head : ReportHead) (f : Finished M I C W O) (status : Status) (new : O) : Type 0 where
    pub unreported : Bool
    pub status_is : status ≡ status_at_end (with_report unreported f.faults)
    pub silent : f.faults.out ≡ true → new ≡ f.world.out
    pub whole : f.faults.out ≡ false → outs.tells → IsStill (outs.faults f.world.out) (outs.faults new) → outs.held new ≡ outs.held f.world.out ++ reported_with head f status
    pub sure : (f.faults.out || unreported) ≡ false → fault_line status ≡ [] → outs.tells → outs.held new ≡ outs.held f.world.out ++ reported_with head f status
    pub front : f.faults.out ≡ false → outs.tells → AppendsSome (outs.held f.world.out) (outs.held new) (reported_with head f status)
    pub later : outs.faults f.world.out ≤ outs.faults new
    pub raised : unreported ≡ true → risen (outs.faults f.world.out) ≤ outs.faults new
    pub kept : (f.faults.out || unreported) ≡ false → fault_line status ≡ [] → outs.faults new ≡ outs.faults f.world.out
