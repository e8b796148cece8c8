-- What a run on one thread begins with, and what it has then.
use Rattle.std.specs.Prelude.{List, [], map}
use Rattle.ses_io.specs.Outside.{MediaOutside, SourceOutside, SinkOutside}
use Rattle.ses_io.specs.declared.world.World.{World}
use Rattle.control_desk.specs.State.{ControlState}
use Rattle.run_world.specs.declared.opened.Opened.{Opened}
use Rattle.worker_pair.specs.declared.beginning.Start.{Start}
use Rattle.run_letters.specs.declared.event.Event.{Event}
use Rattle.run_letters.specs.Events.{letter_of}
use Rattle.run_end.specs.declared.lists.RunLists.{RunLists}
use Rattle.run_end.specs.Beginning.{started_of}
use Rattle.run_end.specs.Lines.{control_of}
use Rattle.run_end.specs.Lists.{HaveRoomFor}
use Rattle.engine_core.specs.declared.beginning.Spoken.{Spoken}
use Rattle.engine_core.specs.declared.engine.Engine.{Engine}
use Rattle.engine_core.specs.Events.{Course, given}
use Rattle.engine_core.specs.Going.{IsGoing}
use Rattle.engine_core.specs.Opening as letters

-- control before its first line
abbrev pub control_spoken : {C O : Type 0} → Spoken C O → ControlState C O
control_spoken spoken = control_of spoken.lines spoken.out spoken.script

module _ {M I C W O : Type 0} where
  -- ---- what was opened, apart

  -- what the workers begin with
  abbrev pub start_of : Opened M I C W O → Start M I W
  start_of o = record { edition = o.edition; sources = o.sources; cycles = o.cycles; form = o.form; media = o.world.media; input = o.world.input; master = o.world.master }

  -- what control is given
  abbrev pub spoken_of : Opened M I C W O → Spoken C O
  spoken_of o = record { lines = o.world.control; out = o.world.out; script = o.script }

  -- the world that it was
  abbrev pub world_of : M × I × W → Spoken C O → World M I C W O
  world_of given spoken = record { media = given.0; input = given.1; control = spoken.lines; master = given.2; out = spoken.out }

  -- ---- what a run begins with

  abbrev pub opening_of : MediaOutside M → SourceOutside I → SinkOutside W → Opened M I C W O → letters.Opening M I C W O
  opening_of media inputs sinks o = record { started = started_of media inputs sinks o; cycles = o.cycles; control = control_of o.world.control o.world.out o.script }

  -- what it began with, and the letters that it is to be given
  abbrev pub course_of : MediaOutside M → SourceOutside I → SinkOutside W → Opened M I C W O → List Event → Course M I C W O
  course_of media inputs sinks o events = record { opening = opening_of media inputs sinks o; letters = map letter_of events }

  -- no letter was given yet
  abbrev pub unlettered : letters.Opening M I C W O → Course M I C W O
  unlettered on = record { opening = on; letters = [] }

  -- **A run has begun**: no letter was given yet, and it has empty lists for all that it will leave.
  pub record HasBegun (media : MediaOutside M) (inputs : SourceOutside I) (source : SourceOutside C) (sinks : SinkOutside W) (sink : SinkOutside O) (on : letters.Opening M I C W O)
      (engine : Engine M I C W O) (lists : RunLists) : Type 0 where
    pub going : IsGoing media inputs source sinks sink (given (unlettered on)) engine
    pub room : HaveRoomFor on.started.begun.session lists
