-- What a run has taken of its control, and what it answered.
use Rattle.std.specs.Prelude.{◌≡◌, ℕ, Bool, true, false, ◌&&◌, ◌==◌, not, List, [], ◌++◌, length, map, reverse, take, Some, None}
use Rattle.std.specs.List.{list_all}
use Rattle.ses_io.specs.Outside.{SourceOutside}
use Rattle.session_model.specs.declared.session.Session.{Session}
use Rattle.session_model.specs.declared.edit.Edit.{Edit}
use Rattle.engine_model.specs.Edits.{has_quit}
use Rattle.engine_model.specs.Lines.{Line, accepted_of, control_limit, is_too_long}
use Rattle.engine_model.specs.Replies.{Reply, AreReplies, is_acknowledged}
use Rattle.serial_laws.specs.Paced.{IsPaced}
use Rattle.serial_laws.specs.Truth.{AllHold}
use Rattle.edit_script.specs.Reading.{read_line}
use Rattle.control_lines.specs.Lines.{LinesState, at_first}
use Rattle.control_desk.specs.GoesOn.{ReadsLines}
use Rattle.control_desk.specs.State.{export_lines, lines_in}
use Rattle.piece_item.specs.Views.{ack_of}
use Rattle.run_world.specs.declared.finished.Faults.{Faults}
use Rattle.run_world.specs.declared.finished.Finished.{Finished}
use Rattle.run_end.specs.Failures.{has_stopped, nothing_failed}
use Rattle.run_end.specs.Finished.{run_end_of, failures_of, journal_of}
use Rattle.engine_core.specs.Machine.{IsPlain, IsTheMachines}
use Rattle.session_play.specs.Request.{Request}

-- an accepted edit has quit
abbrev pub quits : List Edit → Bool
quits edits = has_quit edits (length edits)

-- Control was read: these lines are made of the bytes that were taken of it.
pub record ReadsControl {C : Type 0} (controls : SourceOutside C) (old new : C) (edits : List Edit) (lines : List Line) (faults : Faults) : Type 0 where
  -- what was read, and is in no line
  pub state : LinesState C
  pub is : state.source ≡ new
  pub reads : ReadsLines controls lines (at_first old) state false faults.control
  -- all bytes were read that may be, and no quit was accepted
  pub long : faults.long ≡ ((state.budget == 0) && not (quits edits))
  -- an accepted quit ends the reading: no read fails behind it
  pub quit : quits edits ≡ true → faults.control ≡ false

module _ {M I C W O : Type 0} where
  -- An export says its two lines, and leaves control alone.
  pub record SaysItsOwn (old : C) (from : ℕ) (f : Finished M I C W O) (lines left : List Line) : Type 0 where
    pub said : lines ++ left ≡ export_lines from
    pub alone : f.world.control ≡ old
    -- so nothing of it has failed
    pub read_all : f.faults.control ≡ false
    pub short : f.faults.long ≡ false
    pub answered : f.faults.out ≡ false

  -- **A play reads control.** Where neither a read of it nor the write of a reply has failed, the lines are all that it has, up to its
  -- end, to 16,777,216 bytes or to an accepted quit.
  pub record ReadsItsLines (controls : SourceOutside C) (old : C) (s : Session) (f : Finished M I C W O) (lines left : List Line) : Type 0 where
    pub reads : ReadsControl controls old f.world.control f.edits.items lines f.faults
    pub all : controls.tells → f.faults.control ≡ false → f.faults.out ≡ false → lines_in (take control_limit (controls.left old)) ≡ lines ++ left
    -- and it is too long exactly where it gave so many bytes, with no accepted quit in them
    pub long : controls.tells → f.faults.control ≡ false → f.faults.out ≡ false → f.faults.long ≡ is_too_long read_line s (controls.left old)

  -- **Edits and replies are those of the lines.**
  pub record IsAnswered (s : Session) (f : Finished M I C W O) (lines left : List Line) (replies : List Reply) : Type 0 where
    -- only a quit leaves lines
    pub quit : quits f.edits.items ≡ false → left ≡ []
    -- of those that were taken, as of all
    pub edits : f.edits.items ≡ accepted_of s lines
    pub replies_are : AreReplies s [] lines replies
    pub all_edits : f.edits.items ≡ accepted_of s (lines ++ left)
    pub all_replies : AreReplies s [] (lines ++ left) replies
    -- **what was answered to a sync is true** of the journal, and of what was acknowledged to control
    pub holds : AllHold true (reverse (journal_of f)) (reverse replies)
    pub acknowledged : list_all (is_acknowledged (reverse (map ack_of f.acks.sent)) (journal_of f)) replies ≡ true

  -- **Where nothing of butler and process has failed the run is the core machine's** by its letters and a serial rest, and with no letter
  -- the plain run of its lines. With no letter entries and replies are by the plain walk over the lines, whatever has failed.
  pub record IsOfMachine (s : Session) (r : Request) (f : Finished M I C W O) (lines left : List Line) (replies : List Reply) : Type 0 where
    pub machine : nothing_failed (failures_of f.faults) ≡ true → IsTheMachines s r.cycles (lines ++ left) r.letters replies (run_end_of f)
    pub plainly : nothing_failed (failures_of f.faults) ≡ true → r.letters ≡ [] → IsPlain s r.cycles (lines ++ left) replies (run_end_of f)
    pub paced : r.letters ≡ [] → IsPaced s r.cycles (has_stopped (failures_of f.faults)) [] [] lines (journal_of f) replies

  -- **From bytes**: by these lines and replies the run has gone.
  pub record GoesByLines (controls : SourceOutside C) (old : C) (r : Request) (s : Session) (f : Finished M I C W O) (lines : List Line) (replies : List Reply) : Type 0 where
    -- those that an accepted quit has left
    pub left : List Line
    pub scripted : (from : ℕ) → r.script ≡ Some from → SaysItsOwn old from f lines left
    pub read : r.script ≡ None → ReadsItsLines controls old s f lines left
    pub answered : IsAnswered s f lines left replies
    pub machine : IsOfMachine s r f lines left replies
