-- What a run leaves, and what has failed by then.
use Rattle.std.specs.Prelude.{List}
use Rattle.ses_io.specs.Outside.{MediaOutside, SourceOutside, SinkOutside}
use Rattle.sound_model.specs.Regions.{Sounds}
use Rattle.engine_model.specs.Journal.{Entry}
use Rattle.engine_model.specs.Played.{Samples, samples_of}
use Rattle.audio_source.specs.Told.{source_sound}
use Rattle.cycle_journal.specs.JournalView.{seen_entries}
use Rattle.run_world.specs.declared.finished.Faults.{Faults}
use Rattle.run_world.specs.declared.finished.Finished.{Finished}
use Rattle.run_world.specs.declared.opened.Opened.{Opened}
use Rattle.run_end.specs.declared.failures.Failures.{Failures}
use Rattle.run_end.specs.Failures.{IsFaultCount}
use Rattle.run_end.specs.declared.parting.RunEnd.{RunEnd}
use Rattle.run_end.specs.Passed.{AllGenuine, RingsAreLeft}

-- what has failed of butler and process
abbrev pub failures_of : Faults → Failures
failures_of f = record { input = f.input; master = f.master; read = f.read; write = f.write }

module _ {M I C W O : Type 0} where
  -- what the workers left of it
  abbrev pub run_end_of : Finished M I C W O → RunEnd M I W
  run_end_of f = record {
    media = f.world.media;
    input = f.world.input;
    master = f.world.master;
    journal = f.journal;
    edits = f.edits;
    rings = f.rings;
    acks = f.acks;
    failed = failures_of f.faults;
  }

  -- the entries that were made, the first one first
  abbrev pub journal_of : Finished M I C W O → List Entry
  journal_of f = seen_entries f.journal.items

  -- **What went through the rings**, and how they are left.
  abbrev pub LeavesRings : Opened M I C W O → Finished M I C W O → Type 0
  LeavesRings o f = RingsAreLeft o.edition.session f.edits.items (journal_of f) (failures_of f.faults) f.rings.items f.acks

  -- the sounds of what was opened, as the files held them at first
  abbrev pub sounds_opened : MediaOutside M → Opened M I C W O → Sounds
  sounds_opened media o = source_sound (media.files o.world.media) o.sources.opened

  -- by which a track has these samples
  abbrev pub samples_opened : MediaOutside M → Opened M I C W O → Finished M I C W O → Samples
  samples_opened media o f = samples_of (sounds_opened media o) o.edition.session f.edits.items

  -- each item sent is genuine by them
  abbrev pub SendsGenuine : MediaOutside M → Opened M I C W O → Finished M I C W O → Type 0
  SendsGenuine media o f = AllGenuine (sounds_opened media o) o.edition.session f.edits.items f.rings.items

  -- **Each count of faults rose exactly where it is noted.**
  pub record FaultsAreCounted (media : MediaOutside M) (inputs : SourceOutside I) (source : SourceOutside C) (sinks : SinkOutside W) (sink : SinkOutside O) (o : Opened M I C W O)
      (f : Finished M I C W O) : Type 0 where
    pub reads : IsFaultCount (media.read_faults o.world.media) (media.read_faults f.world.media) f.faults.read
    pub writes : IsFaultCount (media.write_faults o.world.media) (media.write_faults f.world.media) f.faults.write
    pub inputs_are : IsFaultCount (inputs.faults o.world.input) (inputs.faults f.world.input) f.faults.input
    pub masters : IsFaultCount (sinks.faults o.world.master) (sinks.faults f.world.master) f.faults.master
    pub controls : IsFaultCount (source.faults o.world.control) (source.faults f.world.control) f.faults.control
    pub outs : IsFaultCount (sink.faults o.world.out) (sink.faults f.world.out) f.faults.out
