-- What control has taken and answered in a run, and what came of it.
use Rattle.std.specs.Prelude.{◌≡◌, true, false, List, [], ◌++◌, length, map, reverse, Option, Some, None}
use Rattle.std.specs.List.{list_all}
use Rattle.ses_io.specs.Outside.{SourceOutside, SinkOutside}
use Rattle.engine_model.specs.Edits.{has_quit}
use Rattle.engine_model.specs.Lines.{Line, accepted_of}
use Rattle.engine_model.specs.Replies.{Reply, AreReplies, is_acknowledged}
use Rattle.control_desk.specs.GoesOn.{GoesOn}
use Rattle.control_desk.specs.State.{ControlState, Tells, ahead, parts_of, reading, scripted}
use Rattle.control_desk.specs.Standing as desk
use Rattle.piece_item.specs.Views.{ack_of}
use Rattle.run_world.specs.declared.finished.Finished.{Finished}
use Rattle.run_world.specs.declared.opened.Opened.{Opened}
use Rattle.run_world.specs.declared.opened.Script.{Script}
use Rattle.run_end.specs.Finished.{journal_of}

-- control before its first line
abbrev pub control_of : {C O : Type 0} → C → O → Option Script → ControlState C O
control_of source out (Some script) = scripted source out script.from
control_of source out None = reading source out

module _ {M I C W O : Type 0} where
  -- **A run takes its lines**: these, and these are left; it has these edits, and these replies.
  pub record TakesItsLines (source : SourceOutside C) (sink : SinkOutside O) (o : Opened M I C W O) (lines left : List Line) (replies : List Reply) (f : Finished M I C W O) : Type 0 where
    -- control as it ended: it has taken these lines and answered them, and this is what it leaves
    pub control : ControlState C O
    pub goes : GoesOn source sink (control_of o.world.control o.world.out o.script) lines replies control
    pub parts : parts_of control ≡ record { source = f.world.control; out = f.world.out; read_failed = f.faults.control; write_failed = f.faults.out; long = f.faults.long }
    -- only a quit leaves lines; where a read of control or a write of out has failed those that weren't taken are in neither list, else
    -- all are in one of the two, where control tells its lines
    pub quits : desk.has_quit control.standing ≡ false → left ≡ []
    pub all : Tells source (control_of {C = C} {O = O} o.world.control o.world.out o.script).script → f.faults.control ≡ false → f.faults.out ≡ false →
        ahead source (control_of {C = C} {O = O} o.world.control o.world.out o.script) ≡ lines ++ left
    -- it has ended by a quit exactly where an accepted edit has quit
    pub ended_by : desk.has_quit control.standing ≡ has_quit f.edits.items (length f.edits.items)
    -- edits and replies are those of the lines that were taken
    pub taken : f.edits.items ≡ accepted_of o.edition.session lines
    pub replied : AreReplies o.edition.session [] lines replies
    -- and of all lines, since after a quit none counts
    pub edits : f.edits.items ≡ accepted_of o.edition.session (lines ++ left)
    pub answered : AreReplies o.edition.session [] (lines ++ left) replies
    -- **and what was answered to a sync is true** of the journal, and of what was acknowledged to control
    pub acknowledged : list_all (is_acknowledged (reverse (map ack_of f.acks.sent)) (journal_of f)) replies ≡ true
