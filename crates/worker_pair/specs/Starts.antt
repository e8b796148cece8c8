-- What the workers may begin with, and what they have then.
use Rattle.std.specs.Prelude.{◌≡◌, ◌≤◌, true, false, [], IfSome, ◌++◌, codes}
use Rattle.ses_io.specs.Files.{Files, HasNameUnder}
use Rattle.ses_io.specs.Outside.{MediaOutside, SourceOutside, SinkOutside}
use Rattle.wav_codec.specs.Info.{IsFound}
use Rattle.session_model.specs.declared.session.Session.{Session}
use Rattle.session_model.specs.Valid.{IsValid}
use Rattle.edition_log.specs.EditionState.{EditionState as Edition, IsEditionOf}
use Rattle.audio_source.specs.Opened.{IsListed}
use Rattle.input_blocks.specs.Rest.{stream_told}
use Rattle.machine_model.specs.Core as machine
use Rattle.piece_item.specs.declared.butler_ends.ButlerEnds.{ButlerEnds}
use Rattle.capture_flush.specs.Flushed.{IsFlushed}
use Rattle.capture_drain.specs.Files.{tape_of}
use Rattle.butler.specs.ButlerState.{ButlerState as Butler}
use Rattle.butler.specs.Begins.{IsGiven}
use Rattle.butler.specs.Serving.{IsServing, IsTrueTo}
use Rattle.process_ends.specs.declared.ends.ProcessEnds.{ProcessEnds}
use Rattle.process_cycle.specs.ProcessState.{ProcessState as Process}
use Rattle.process_cycle.specs.Playing.{HasBegun}
use Rattle.worker_pair.specs.declared.beginning.Start.{Start}
use Rattle.worker_pair.specs.declared.pair.Pair.{Pair}
use Rattle.worker_pair.specs.Begun.{Begun, begun_with, at_first}
use Rattle.butler.specs.Takes.{MayRecord}
use Rattle.worker_pair.specs.Runs.{Runs}
use Rattle.worker_pair.specs.Tied.{IsTied}

module _ {V I W : Type 0} where
  -- Workers may begin so: no edit has come yet.
  pub record MayBegin (s : Session) (start : Start V I W) : Type 0 where
    pub valid : IsValid s
    pub edition_of : IsEditionOf s start.edition
    pub first : start.edition.edits ≡ []
    pub not_ended : start.edition.ended ≡ false
    -- the sources were opened for the session's, and no line of them is held yet
    pub listed : IsListed s.rate s.sources.items start.sources.opened
    pub held : start.sources.held ≡ []
    pub some_cycle : 1 ≤ start.cycles
    pub near : start.cycles ≤ 100000
    pub form_found : IfSome start.form IsFound

  -- what it reads and writes
  abbrev pub given_of : Start V I W → V × I × W
  given_of start = (start.media, start.input, start.master)

  -- What a run has begun with, as media, input and master tell it; where tracks may be recorded, takes have room among the files.
  pub record IsBegunBy (media : MediaOutside V) (inputs : SourceOutside I) (sinks : SinkOutside W) (begun : Begun) (start : Start V I W) : Type 0 where
    pub told : begun ≡ begun_with media inputs sinks begun.session begun.records start.media start.input start.master
    pub may_record : begun.records ≡ true → media.tells → MayRecord begun.session begun.files start.sources.opened

-- A process and a butler that did nothing yet.
pub record HaveWorkers {V I W : Type 0} (media : MediaOutside V) (inputs : SourceOutside I) (sinks : SinkOutside W) (s : Session) (start : Start V I W) (ours : ProcessEnds) (theirs : ButlerEnds)
    (e : Edition) (p : Process I W) (b : Butler V) : Type 0 where
  pub edition : e ≡ start.edition
  pub process : HasBegun inputs sinks s start.cycles start.input start.form start.master ours p
  pub serving : IsServing s [] b
  pub given : IsGiven start.media start.sources.opened start.cycles theirs b
  -- whatever the files hold: it sent and made nothing, and where none is named as takes are, it flushed nothing
  pub true_to : (files : Files) → IsTrueTo files s [] b
  pub no_take : (held : Files) → ¬ (HasNameUnder held (s.takes ++ codes "-")) → IsFlushed (tape_of (record { session = s; held = held }) b.ends.takes.items) b.drain.files held

-- The workers have begun, and done nothing yet.
pub record HaveBegun {V I W : Type 0} (media : MediaOutside V) (inputs : SourceOutside I) (sinks : SinkOutside W) (begun : Begun) (start : Start V I W) (p : Pair V I W) : Type 0 where
  pub runs : Runs media inputs sinks (at_first begun) p
  -- they are where the core machine begins
  pub tied : IsTied begun.session (machine.at_first begun.session) p
  -- they have what they were given
  pub edition : p.edition ≡ start.edition
  pub playing : p.playing ≡ start.edition
  pub in_cycle : p.in_cycle ≡ false
  pub played : p.process.entered ≡ 0
  pub entered : p.butler.entered ≡ 0
  pub none_read : p.butler.hushed ≡ false
  pub none_written : p.butler.write_failed ≡ false
  pub media_is : p.butler.media ≡ start.media
  pub sources_are : p.butler.sources.opened ≡ start.sources.opened
  pub cycles_are : p.butler.cycles ≡ start.cycles
  pub input_is : p.process.input.input ≡ start.input
  pub stream : p.process.input.stream ≡ stream_told start.form
  pub master_is : p.process.master.sink ≡ start.master
  -- and the journal is empty
  pub journal : p.process.journal ≡ record { items = []; room = start.cycles }
