-- A run that was played to its end.
use Rattle.std.specs.Prelude.{◌≡◌, ◌≤◌, false, length, None}
use Rattle.ses_io.specs.Outside.{MediaOutside, SourceOutside, SinkOutside}
use Rattle.machine_model.specs.Rest.{Between}
use Rattle.audio_source.specs.Told.{source_sound}
use Rattle.control_desk.specs.State.{parts_of}
use Rattle.control_desk.specs.declared.parts.ControlParts.{ControlParts}
use Rattle.run_world.specs.declared.finished.Finished.{Finished}
use Rattle.engine_core.specs.declared.engine.Engine.{Engine}
use Rattle.engine_core.specs.Events.{Course}
use Rattle.engine_core.specs.Going.{IsGoing}
use Rattle.engine_core.specs.Due.{IsFinished, in_rest}
use Rattle.run_end.specs.declared.parting.RunEnd.{RunEnd}
use Rattle.engine_core.specs.Ended.{AllAreCounted, GivesBack}
use Rattle.engine_core.specs.MachineEnds.{EndsAsMachine}
use Rattle.run_end.specs.Passed.{AllGenuine, RingsAreLeft}
use Rattle.run_end.specs.Takes.{LeavesTakes}
use Rattle.cycle_journal.specs.JournalView.{seen_entries}

module _ {M I C W O : Type 0} where
  -- what workers and control leave, in one
  abbrev pub finished_of : RunEnd M I W → ControlParts C O → Finished M I C W O
  finished_of ended control = record {
    world = record { media = ended.media; input = ended.input; control = control.source; master = ended.master; out = control.out };
    journal = ended.journal;
    edits = ended.edits;
    rings = ended.rings;
    acks = ended.acks;
    grants = None;
    faults = record {
      input = ended.failed.input;
      master = ended.failed.master;
      read = ended.failed.read;
      write = ended.failed.write;
      control = control.read_failed;
      long = control.long;
      out = control.write_failed;
      memory = false;
    };
  }

  -- Once its serial rest was over the run was ended, and this is what it leaves.
  pub record IsPlayed (media : MediaOutside M) (inputs : SourceOutside I) (source : SourceOutside C) (sinks : SinkOutside W) (sink : SinkOutside O) (on : Course M I C W O)
      (f : Finished M I C W O) : Type 0 where
    -- the run after its serial rest
    pub engine : Engine M I C W O
    pub going : IsGoing media inputs source sinks sink (in_rest Between on) engine
    pub finished : IsFinished engine
    -- what it leaves
    pub ended : RunEnd M I W
    pub is : f ≡ finished_of ended (parts_of engine.control)
    pub few : length ended.journal.items ≤ ended.journal.room
    pub written : GivesBack media inputs sinks on.opening.started engine.run ended
    pub counts : AllAreCounted media inputs sinks on.opening.started engine.run ended
    pub takes : LeavesTakes media inputs on.opening.started ended
    pub rings : RingsAreLeft on.opening.started.begun.session ended.edits.items (seen_entries ended.journal.items) ended.failed ended.rings.items ended.acks
    pub genuine : media.tells → AllGenuine (source_sound on.opening.started.begun.files on.opening.started.opened) on.opening.started.begun.session ended.edits.items ended.rings.items
    pub as_machine : EndsAsMachine on.opening.started.begun.session engine.run ended
