-- What a play leaves once its three threads have ended: whatever the schedule was, it comes of these.
use Rattle.std.specs.Prelude.{◌≡◌, ◌≤◌, ℕ, Bool, true, false, length, None, Some}
use mathlib.Core.List.{IsPrefix}
use Rattle.ses_io.specs.Outside.{MediaOutside, SourceOutside, SinkOutside}
use Rattle.audio_source.specs.Told.{source_sound}
use Rattle.cycle_journal.specs.JournalView.{seen_entries}
use Rattle.disk_ring.specs.Rings.{Joined as Ring, Whole, joined_of}
use Rattle.edition_log.specs.EditionState.{EditionState as Edition, IsEditionOf}
use Rattle.control_desk.specs.State.{parts_of}
use Rattle.control_desk.specs.declared.parts.ControlParts.{ControlParts}
use Rattle.process_cycle.specs.declared.fault.CycleFault.TheVariants.{InputFault, MasterFault}
use Rattle.play_worker.specs.declared.playing.Played.{Played}
use Rattle.play_worker.specs.declared.worker.Ended.{Ended}
use Rattle.play_worker.specs.declared.worker.Ended.TheVariants.{All, Quit, Refused, Stopped}
use Rattle.serve_worker.specs.declared.faults.MediaFaults.{MediaFaults}
use Rattle.serve_worker.specs.declared.serving.ServeEnd.{ServeEnd}
use Rattle.serve_worker.specs.declared.serving.ServeEnd.TheVariants as serve
use Rattle.worker_pair.specs.declared.ending.Ending.{Ending}
use Rattle.worker_pair.specs.declared.ending.Stopped.{Stopped as Left}
use Rattle.run_world.specs.declared.finished.Finished.{Finished}
use Rattle.run_world.specs.declared.finished.Grant.{Grant}
use Rattle.run_world.specs.declared.opened.Opened.{Opened}
use Rattle.run_end.specs.declared.failures.Failures.{Failures}
use Rattle.run_end.specs.declared.lists.RunLists.{RunLists}
use Rattle.run_end.specs.declared.parting.RunEnd.{RunEnd}
use Rattle.run_end.specs.Beginning.{MayRun, started_of}
use Rattle.run_end.specs.Left.{IsLeftByTurns, IsLeftOver, MediaIsCounted}
use Rattle.run_end.specs.Passed.{AllGenuine, RingsAreLeft}
use Rattle.run_end.specs.Started.{Started}
use Rattle.run_end.specs.Takes.{LeavesTakes}
use Rattle.thread_run.specs.declared.beginning.Crew.{Crew}
use Rattle.thread_run.specs.declared.side_by_side.Joined.{Joined}
use Rattle.thread_run.specs.Beginning.{HaveAllBegun}
use Rattle.thread_run.specs.Joined.{HasLed, HasPlayed, HasServed}
use Rattle.thread_run.specs.Met.{HaveMetAtLast}

-- what a play was given
pub record Asked (M I C W O : Type 0) : Type 0 where
  pub opened : Opened M I C W O
  pub patience : ℕ

-- ---- what has failed

-- by why the process made no further cycle
abbrev pub input_failed : Ended → Bool
input_failed (Stopped InputFault) = true
input_failed (Stopped MasterFault) = false
input_failed All = false
input_failed Quit = false
input_failed Refused = false

abbrev pub is_refused : Ended → Bool
is_refused Refused = true
is_refused (Stopped why) = false
is_refused All = false
is_refused Quit = false

-- the butler's reader was refused
abbrev pub is_hushed : ServeEnd → Bool
is_hushed serve.Refused = true
is_hushed serve.Over = false

abbrev pub failures_left : {I W : Type 0} → Played I W → MediaFaults → Failures
failures_left played media = record { input = input_failed played.ended; master = played.cut_off; read = media.read; write = media.write }

module _ {V I W : Type 0} where
  -- **What process and butler leave**, where both readers were tied to the list.
  pub record IsEndOf (media : MediaOutside V) (inputs : SourceOutside I) (on : Started V I W) (ending : Ending V) (stopped : Left I W) (failed : Failures) (e : RunEnd V I W) : Type 0 where
    pub over : IsLeftOver ending stopped failed e
    pub takes : LeavesTakes media inputs on e
    pub rings : RingsAreLeft on.begun.session e.edits.items (seen_entries e.journal.items) e.failed e.rings.items e.acks
    pub genuine : media.tells → AllGenuine (source_sound on.begun.files on.opened) on.begun.session e.edits.items e.rings.items
    pub turns : IsLeftByTurns media on ending failed e

  -- what is so of it in any case
  pub record IsGivenBack (media : MediaOutside V) (on : Started V I W) (ending : Ending V) (stopped : Left I W) (failed : Failures) (e : RunEnd V I W) : Type 0 where
    pub edits : e.edits.items ≡ ending.edition.edits
    -- nothing more is taken from the ring to control
    pub received : e.acks.received ≡ stopped.acks.received
    pub ended : e.acks.ended ≡ stopped.acks.ended
    pub input : e.input ≡ stopped.input
    pub master : e.master ≡ stopped.master
    pub journal : e.journal ≡ stopped.journal
    pub input_failed : e.failed.input ≡ failed.input
    pub master_failed : e.failed.master ≡ failed.master
    pub counts : MediaIsCounted media on e

module _ {M I C W O : Type 0} where
  -- what the workers leave, with what control leaves
  abbrev pub finished_of : RunEnd M I W → ControlParts C O → Ring Grant → Bool → Finished M I C W O
  finished_of ended control grants memory = record {
    world = record { media = ended.media; input = ended.input; control = control.source; master = ended.master; out = control.out };
    journal = ended.journal;
    edits = ended.edits;
    rings = ended.rings;
    acks = ended.acks;
    grants = Some grants;
    faults = record {
      input = ended.failed.input;
      master = ended.failed.master;
      read = ended.failed.read;
      write = ended.failed.write;
      control = control.read_failed;
      long = control.long;
      out = control.write_failed;
      memory = memory;
    };
  }

module _ {R M I C W O : Type 0} where
  -- **All three threads have ended**: each did what its own contract says, from what the crew had at first.
  pub record HaveAllEnded (media : MediaOutside M) (inputs : SourceOutside I) (source : SourceOutside C) (sinks : SinkOutside W) (sink : SinkOutside O) (on : Asked M I C W O) (j : Joined R M I C W O) (lists : RunLists) : Type 0 where
    pub may : MayRun media on.opened
    pub reads : on.opened.script ≡ None
    pub crew : Crew R M I C W O
    pub begun : HaveAllBegun media inputs sinks on.opened crew
    pub lists_are : lists ≡ crew.lists
    pub led : HasLed source sink crew.told.session.value on.opened.cycles crew.leading.control crew.leading.link j.led
    pub served : HasServed media crew.told 8 crew.serving j.served.1 j.served.0
    pub played : HasPlayed on.patience inputs sinks crew.playing j.played

module _ (R : Type 0) {M I C W O : Type 0} where
  -- **What is left of it**: the readers were tied to the list or weren't, all ends met, and the workers were parted.
  pub record IsLeft (media : MediaOutside M) (inputs : SourceOutside I) (source : SourceOutside C) (sinks : SinkOutside W) (sink : SinkOutside O) (on : Asked M I C W O) (f : Finished M I C W O) : Type 0 where
    pub joined : Joined R M I C W O
    pub lists : RunLists
    pub all : HaveAllEnded media inputs source sinks sink on joined lists
    -- the newest edition
    pub edition : Edition
    pub edits : edition.edits ≡ joined.led.lists.edition.edits
    pub edition_of : IsEditionOf on.opened.edition.session edition
    -- whether what both workers saw are its first edits
    pub tied : Bool
    pub first : tied ≡ true → IsPrefix joined.played.reader.edition.edits edition.edits
    pub second : tied ≡ true → IsPrefix joined.served.0.reader.edition.edits edition.edits
    -- the ends met
    pub ending : Ending M
    pub stopped : Left I W
    pub met : HaveMetAtLast edition joined.served.0.butler joined.played.process joined.led.acks ending stopped
    -- and this is left
    pub ended : RunEnd M I W
    pub given : IsGivenBack media (started_of media inputs sinks on.opened) ending stopped (failures_left joined.played joined.served.0.failed) ended
    -- with takes that were made whole, or as the butler left them
    pub finished : Bool
    pub finishes : tied ≡ true → is_hushed joined.served.1 ≡ false → finished ≡ true
    pub whole : finished ≡ true → IsEndOf media inputs (started_of media inputs sinks on.opened) ending stopped (failures_left joined.played joined.served.0.failed) ended
    pub cut_short : finished ≡ false → ended.media ≡ ending.butler.media
    -- a journal has no more entries than it has room for
    pub few : length ended.journal.items ≤ ended.journal.room
    pub grants_whole : Whole (joined_of joined.led.grants joined.played.grants.from)
    -- where no want of memory is noted every edit was published, both workers were tied, and neither reader was refused
    pub memory : Bool
    pub enough : memory ≡ false → (joined.led.memory ≡ false) × (tied ≡ true) × (is_hushed joined.served.1 ≡ false) × (is_refused joined.played.ended ≡ false)
    pub is : f ≡ finished_of ended (parts_of joined.led.control) (joined_of joined.led.grants joined.played.grants.from) memory
