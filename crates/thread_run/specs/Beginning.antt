-- What a play on threads begins with, and what it has then.
use Rattle.std.specs.Prelude.{◌≡◌}
use Rattle.ses_io.specs.Outside.{MediaOutside, SourceOutside, SinkOutside}
use Rattle.ses_io.specs.declared.world.World.{World}
use Rattle.control_desk.specs.State.{reading}
use Rattle.lead_worker.specs.Leads.{BeginsToLead}
use Rattle.run_end.specs.Lists.{HaveRoomFor}
use Rattle.run_world.specs.declared.opened.Opened.{Opened}
use Rattle.thread_start.specs.Ready.{AreReady}
use Rattle.worker_pair.specs.declared.beginning.Start.{Start}
use Rattle.thread_run.specs.declared.beginning.Crew.{Crew}
use Rattle.thread_run.specs.declared.beginning.Spoken.{Spoken}

module _ {M I C W O : Type 0} where
  -- what the workers begin with, and what control is given
  abbrev pub start_of : Opened M I C W O → Start M I W
  start_of o = record { edition = o.edition; sources = o.sources; cycles = o.cycles; form = o.form; media = o.world.media; input = o.world.input; master = o.world.master }

  abbrev pub spoken_of : Opened M I C W O → Spoken C O
  spoken_of o = record { lines = o.world.control; out = o.world.out }

  -- the world that it was
  abbrev pub world_of : M × I × W → Spoken C O → World M I C W O
  world_of given spoken = record { media = given.0; input = given.1; control = spoken.lines; master = given.2; out = spoken.out }

module _ {R M I C W O : Type 0} where
  -- **All three are ready**, and there is room for what the run will leave.
  pub record HaveAllBegun (media : MediaOutside M) (inputs : SourceOutside I) (sinks : SinkOutside W) (o : Opened M I C W O) (crew : Crew R M I C W O) : Type 0 where
    pub ready : AreReady media inputs sinks (start_of o) crew.playing crew.serving crew.told crew.leading.lists crew.leading.link.granting crew.leading.link.hearing
    -- control has read nothing yet
    pub control_is : crew.leading.control ≡ reading o.world.control o.world.out
    pub begins : BeginsToLead o.edition.session crew.leading.lists crew.leading.control crew.leading.link
    pub room : HaveRoomFor o.edition.session crew.lists
