-- A run that is ready to begin, and what it is while it isn't.
use Rattle.std.specs.Prelude.{◌≡◌, map}
use Rattle.ses_io.specs.Outside.{MediaOutside, SourceOutside, OnlyReads}
use Rattle.ses_io.specs.declared.world.World.{World}
use Rattle.cycle_journal.specs.declared.status.Status.{Status}
use Rattle.cycle_journal.specs.declared.status.Status.TheVariants.{InputFault, ReadFault}
use Rattle.run_letters.specs.Events.{letter_of}
use Rattle.run_world.specs.declared.opened.Opened.{Opened}
use Rattle.session_opening.specs.declared.loading.Loaded.{Loaded}
use Rattle.session_play.specs.declared.playing.Ready.{Ready}
use Rattle.session_play.specs.declared.asked.Request as code
use Rattle.input_head.specs.Taken.{TakesNoData}
use Rattle.session_play.specs.Loading.{IsHeard, IsLoadedFor}
use Rattle.session_play.specs.Opening.{IsTold}
use Rattle.session_play.specs.Reported.{head_of}
use Rattle.session_play.specs.Request.{letters_of, request_view}
use Rattle.session_play.specs.Unplayed.{CountsBefore, IsAfterHead, IsBeforePlay}

-- the session and the sources of what was opened
abbrev pub loaded_of : {M I C W O : Type 0} → Opened M I C W O → Loaded
loaded_of o = record { edition = o.edition; sources = o.sources }

module _ {M I C W O : Type 0} where
  -- Only media and input were read, and no file has changed.
  pub record OnlyOpens (media : MediaOutside M) (old new : World M I C W O) : Type 0 where
    pub files : OnlyReads media old.media new.media
    pub rest : record new { media = old.media; input = old.input } ≡ old

  -- **All that a run plays was opened.**
  pub record IsReady (media : MediaOutside M) (inputs : SourceOutside I) (old : World M I C W O) (q : code.Request) (x : Ready M I C W O) : Type 0 where
    pub loaded : IsLoadedFor media old.media (request_view q) (loaded_of x.opened)
    pub heard : IsHeard inputs x.opened.edition.session old.input x.opened.world.input x.opened.form
    pub only : OnlyOpens media old x.opened.world
    pub reads_same : media.read_faults x.opened.world.media ≡ media.read_faults old.media
    pub inputs_same : inputs.faults x.opened.world.input ≡ inputs.faults old.input
    pub cycles : x.opened.cycles ≡ q.cycles
    pub script : x.opened.script ≡ q.script
    pub head : x.head ≡ head_of x.opened.edition.session q.cycles
    pub letters : map letter_of x.events.items ≡ letters_of q.letters q.cycles

  -- **It isn't played.**
  pub record IsKept (media : MediaOutside M) (inputs : SourceOutside I) (old : World M I C W O) (q : code.Request) (s : Status) (new : World M I C W O) : Type 0 where
    pub before : IsBeforePlay s
    -- what is wrong is told exactly
    pub told : IsTold media inputs (media.files old.media) old.input (request_view q) s
    pub only : OnlyOpens media old new
    pub input : inputs.tells → TakesNoData (inputs.left old.input) (inputs.left new.input)
    pub untouched : ¬ (IsAfterHead s) → new.input ≡ old.input
    pub reads : CountsBefore ReadFault (media.read_faults old.media) (media.read_faults new.media) s
    pub inputs_are : CountsBefore InputFault (inputs.faults old.input) (inputs.faults new.input) s
