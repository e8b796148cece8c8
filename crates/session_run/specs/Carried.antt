-- What a command that isn't a run does itself, before the line is written that says how it failed.
use Rattle.std.specs.Prelude.{◌≡◌, Option}
use Rattle.ses_io.specs.Outside.{MediaOutside, SourceOutside, SinkOutside, OnlyReads}
use Rattle.ses_io.specs.declared.world.World.{World}
use Rattle.cycle_journal.specs.declared.status.Status.TheVariants.{MasterFault, OutFault}
use Rattle.session_play.specs.declared.outcome.Outcome.{Outcome}
use Rattle.session_run.specs.Headline.{EndsAsAsked, LeavesTheMaster, OpensNoFile, PlaysAsAsked, RendersAsAsked}
use Rattle.session_run.specs.Replied.{IsOwnText, WritesItsOwn}
use Rattle.session_run.specs.Status.{IsStatusOf, ReadsFailed, WritesFailed}
use Rattle.session_run.specs.Tasks.{Task}

module _ {M I C W O : Type 0} where
  -- What was asked for is carried out.
  pub record CarriesOut (media : MediaOutside M) (inputs : SourceOutside I) (controls : SourceOutside C) (masters : SinkOutside W) (outs : SinkOutside O) (old : World M I C W O) (asked : Option Task)
      (new : Outcome M I C W O) : Type 0 where
    -- it ends with the status that words and files determine, and else with one of the command's
    pub ends : EndsAsAsked media inputs old asked new.status
    pub status : IsStatusOf asked new.status
    -- what is played and rendered
    pub played : PlaysAsAsked media inputs controls masters outs old asked new
    pub rendered : media.tells → RendersAsAsked media masters old asked new
    -- what it writes to out; a render leaves it alone
    pub own : WritesItsOwn outs (IsOwnText media old.media asked) old.out new.world.out new.status
    pub silent : ¬ (LeavesTheMaster asked) → new.world.out ≡ old.out
    -- each fault that is answered has its cause
    pub reads : ReadsFailed (media.read_faults old.media) (media.read_faults new.world.media) new.status
    pub writes : WritesFailed MasterFault (masters.faults old.master) (masters.faults new.world.master) new.status
    pub replies : WritesFailed OutFault (outs.faults old.out) (outs.faults new.world.out) new.status
    -- and what it leaves alone
    pub files : OnlyReads media old.media new.world.media
    pub input : new.world.input ≡ old.input
    pub control : new.world.control ≡ old.control
    pub unwritten : LeavesTheMaster asked → new.world.master ≡ old.master
    pub unread : OpensNoFile asked → new.world.media ≡ old.media
