-- What a run may begin with, and what it has then.
use Rattle.std.specs.Prelude.{◌≡◌, ◌≤◌, false, [], IfSome, None, is_none}
use Rattle.ses_io.specs.Outside.{MediaOutside, SourceOutside, SinkOutside}
use Rattle.wav_codec.specs.Info.{IsFound}
use Rattle.session_model.specs.Valid.{IsValid}
use Rattle.edition_log.specs.EditionState.{IsEditionOf}
use Rattle.audio_source.specs.Opened.{IsListed}
use Rattle.input_blocks.specs.Rest.{stream_told}
use Rattle.run_world.specs.declared.opened.Opened.{Opened}
use Rattle.worker_pair.specs.Begun.{begun_with}
use Rattle.butler.specs.Takes.{MayRecord}
use Rattle.run_end.specs.Started.{Started}

module _ {M I C W O : Type 0} where
  -- A run may begin with what was opened.
  pub record MayRun (media : MediaOutside M) (o : Opened M I C W O) : Type 0 where
    -- edition 0 of a valid session, to which no edit has come yet, and whose list hasn't ended
    pub valid : IsValid o.edition.session
    pub edition_of : IsEditionOf o.edition.session o.edition
    pub first : o.edition.edits ≡ []
    pub not_ended : o.edition.ended ≡ false
    -- the sources were opened for the session's, and the cache holds none of their frames yet
    pub listed : IsListed o.edition.session.rate o.edition.session.sources.items o.sources.opened
    pub held : o.sources.held ≡ []
    pub some_cycle : 1 ≤ o.cycles
    pub near : o.cycles ≤ 100000
    pub form_found : IfSome o.form IsFound
    -- where lines are read tracks may be recorded: takes have room among the files
    pub may_record : o.script ≡ None → media.tells → MayRecord o.edition.session (media.files o.world.media) o.sources.opened

  -- what the workers begin with: tracks are recorded only where lines are read
  abbrev pub started_of : MediaOutside M → SourceOutside I → SinkOutside W → Opened M I C W O → Started M I W
  started_of media inputs sinks o = record {
    begun = begun_with media inputs sinks o.edition.session (is_none o.script) o.world.media o.world.input o.world.master;
    opened = o.sources.opened;
    stream = stream_told o.form;
    media = o.world.media;
    input = o.world.input;
    master = o.world.master;
  }
