-- What a run shows of itself to control, and where it stands by that.
use Rattle.std.specs.Prelude.{◌≡◌, ℕ, suc, Bool, if◌then◌else◌, List, length}
use Rattle.session_model.specs.declared.session.Session.{Session}
use Rattle.session_model.specs.declared.edit.Edit.{Edit}
use Rattle.engine_model.specs.Journal.{Entry}
use Rattle.engine_model.specs.Replies.{Reply}
use Rattle.machine_model.specs.Core.{Core, at_first}
use Rattle.control_desk.specs.declared.progress.Progress.{Progress}
use Rattle.control_desk.specs.Seen.{last_settled}
use Rattle.control_desk.specs.Standing as control
use Rattle.control_desk.specs.Standing.{awaits_of, has_quit, is_ended}
use Rattle.serial_laws.specs.Standing.{Standing}

-- a state of the core machine with these edits and entries; of what else it has nothing is asked
abbrev pub shown_core : Session → List Edit → List Entry → Core
shown_core s edits entries = record (at_first s) { edits = edits; entries = entries }

-- so many cycles are asked for in it that no further one can run, or one can
abbrev pub shown_cycles : Bool → List Entry → ℕ
shown_cycles over entries = if over then 0 else suc (length entries)

-- what control sees of a run with these edits and entries, the newest first
pub record IsShown (over : Bool) (edits : List Edit) (entries : List Entry) (seen : Progress) : Type 0 where
  pub edits_are : seen.edits ≡ length edits
  pub entries_are : seen.entries ≡ length entries
  pub settled : seen.settled ≡ last_settled entries
  pub played_out : seen.played_out ≡ over

-- a run stands so, by a state of the core machine, where its control stands and what was answered
abbrev pub standing_by : Core → control.Standing → List Reply → Standing
standing_by c st replies = record { core = c; awaits = awaits_of st; replies = replies; ended = is_ended st; quit = has_quit st }
