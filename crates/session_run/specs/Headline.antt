-- What a run does that was asked for a command, or for none.
use Rattle.std.specs.Prelude.{◌≡◌, ◌⊎◌, Option, Some, None, IsOk}
use Rattle.ses_io.specs.Outside.{MediaOutside, SourceOutside, SinkOutside, OnlyReads}
use Rattle.ses_io.specs.declared.world.World.{World}
use Rattle.cycle_journal.specs.declared.status.Status.{Status}
use Rattle.cycle_journal.specs.declared.status.Status.TheVariants.{Done, Usage, MasterFault, OutFault, NoMemory}
use Rattle.session_opening.specs.Plan.{read_session, session_plan}
use Rattle.session_play.specs.declared.outcome.Outcome.{Outcome}
use Rattle.session_play.specs.Causes as run
use Rattle.session_play.specs.Complete as run_complete
use Rattle.session_play.specs.Opening.{IsTold}
use Rattle.session_play.specs.Played.{WasPlayed}
use Rattle.session_play.specs.Reported.{IsStill}
use Rattle.session_verify.specs.Laws.{Agrees}
use Rattle.session_run.specs.Rendered.{GetsTheRender}
use Rattle.session_run.specs.Replied.{IsOwnText, Replies}
use Rattle.session_run.specs.Verified.{EndsAsVerified}
use Rattle.session_run.specs.Status.{EndsWith, HasNotPlayed, HasRendered, IsBeforeInput, IsStatusOf, ReadsFailed, WritesFailed, RepliesFailed}
use Rattle.session_run.specs.Tasks.{Task, Runs, Migrates, Checks, Renders, Verifies, Gens}

-- what was asked for leaves the master alone
abbrev pub LeavesTheMaster : Option Task → Type 0
LeavesTheMaster (Some (Runs r)) = ⊥
LeavesTheMaster (Some (Migrates name)) = Unit {0}
LeavesTheMaster (Some (Checks name)) = Unit {0}
LeavesTheMaster (Some (Renders r)) = ⊥
LeavesTheMaster (Some (Verifies v)) = Unit {0}
LeavesTheMaster (Some (Gens n)) = Unit {0}
LeavesTheMaster None = Unit {0}

-- what was asked for opens no file
abbrev pub OpensNoFile : Option Task → Type 0
OpensNoFile (Some (Runs r)) = ⊥
OpensNoFile (Some (Migrates name)) = ⊥
OpensNoFile (Some (Checks name)) = ⊥
OpensNoFile (Some (Renders r)) = ⊥
OpensNoFile (Some (Verifies v)) = ⊥
OpensNoFile (Some (Gens n)) = Unit {0}
OpensNoFile None = Unit {0}

module _ {M I C W O : Type 0} where
  -- ---- statuses

  -- the status is the one that the words, the files and the input determine
  abbrev pub EndsAsAsked : MediaOutside M → SourceOutside I → World M I C W O → Option Task → Status → Type 0
  EndsAsAsked media inputs old (Some (Runs r)) s = IsTold media inputs (media.files old.media) old.input r s
  EndsAsAsked media inputs old (Some (Migrates name)) s = media.tells → EndsWith OutFault (read_session (media.files old.media name)) s
  EndsAsAsked media inputs old (Some (Checks name)) s = media.tells → EndsWith OutFault (session_plan (media.files old.media) name) s
  EndsAsAsked media inputs old (Some (Renders r)) s = media.tells → EndsWith MasterFault (session_plan (media.files old.media) r.session) s
  EndsAsAsked media inputs old (Some (Verifies v)) s = media.tells → EndsAsVerified (media.files old.media) v s
  EndsAsAsked media inputs old (Some (Gens n)) s = Unit {0}
  EndsAsAsked media inputs old None s = s ≡ Usage

  -- ---- what is played, and what else is written

  -- **an export and a play are played, or nothing is**; no other command plays
  abbrev pub PlaysAsAsked : MediaOutside M → SourceOutside I → SourceOutside C → SinkOutside W → SinkOutside O → World M I C W O → Option Task → Outcome M I C W O → Type 0
  PlaysAsAsked media inputs controls masters outs old (Some (Runs r)) new = WasPlayed media inputs controls masters outs old r new new.journal
  PlaysAsAsked media inputs controls masters outs old (Some (Migrates name)) new = HasNotPlayed new
  PlaysAsAsked media inputs controls masters outs old (Some (Checks name)) new = HasNotPlayed new
  PlaysAsAsked media inputs controls masters outs old (Some (Renders r)) new = HasRendered old new
  PlaysAsAsked media inputs controls masters outs old (Some (Verifies v)) new = HasNotPlayed new
  PlaysAsAsked media inputs controls masters outs old (Some (Gens n)) new = HasNotPlayed new
  PlaysAsAsked media inputs controls masters outs old None new = HasNotPlayed new

  -- what the master gets of a render; that of a run is said with what is played, and no other command writes to it
  abbrev pub RendersAsAsked : MediaOutside M → SinkOutside W → World M I C W O → Option Task → Outcome M I C W O → Type 0
  RendersAsAsked media masters old (Some (Runs r)) new = Unit {0}
  RendersAsAsked media masters old (Some (Migrates name)) new = Unit {0}
  RendersAsAsked media masters old (Some (Checks name)) new = Unit {0}
  RendersAsAsked media masters old (Some (Renders r)) new = GetsTheRender media old.media masters r old.master new.world.master new.status
  RendersAsAsked media masters old (Some (Verifies v)) new = Unit {0}
  RendersAsAsked media masters old (Some (Gens n)) new = Unit {0}
  RendersAsAsked media masters old None new = Unit {0}

  -- out gets the text of the command, or the line that says how it failed; what it gets of a run is said with what is played
  abbrev pub RepliesAsAsked : MediaOutside M → SinkOutside O → World M I C W O → Option Task → Outcome M I C W O → Type 0
  RepliesAsAsked media outs old (Some (Runs r)) new = Unit {0}
  RepliesAsAsked media outs old (Some (Migrates name)) new = Replies outs (IsOwnText media old.media (Some (Migrates name))) old.out new.world.out new.status
  RepliesAsAsked media outs old (Some (Checks name)) new = Replies outs (IsOwnText media old.media (Some (Checks name))) old.out new.world.out new.status
  RepliesAsAsked media outs old (Some (Renders r)) new = Replies outs (IsOwnText media old.media (Some (Renders r))) old.out new.world.out new.status
  RepliesAsAsked media outs old (Some (Verifies v)) new = Replies outs (IsOwnText media old.media (Some (Verifies v))) old.out new.world.out new.status
  RepliesAsAsked media outs old (Some (Gens n)) new = Replies outs (IsOwnText media old.media (Some (Gens n))) old.out new.world.out new.status
  RepliesAsAsked media outs old None new = Replies outs (IsOwnText media old.media None) old.out new.world.out new.status

  -- ---- faults and their causes

  -- Each fault of a command that isn't a run has its cause.
  pub record FaultsHaveCauses (media : MediaOutside M) (masters : SinkOutside W) (outs : SinkOutside O) (old : World M I C W O) (new : Outcome M I C W O) : Type 0 where
    -- a failed read of the media
    pub reads : ReadsFailed (media.read_faults old.media) (media.read_faults new.world.media) new.status
    -- a failed write of the master
    pub writes : WritesFailed MasterFault (masters.faults old.master) (masters.faults new.world.master) new.status
    -- a failed write of out
    pub replies : RepliesFailed (outs.faults old.out) (outs.faults new.world.out) new.status

  abbrev pub HasCauses : MediaOutside M → SourceOutside I → SourceOutside C → SinkOutside W → SinkOutside O → World M I C W O → Option Task → Outcome M I C W O → Type 0
  HasCauses media inputs controls masters outs old (Some (Runs r)) new = run.HasCauses media inputs controls masters outs old new
  HasCauses media inputs controls masters outs old (Some (Migrates name)) new = FaultsHaveCauses media masters outs old new
  HasCauses media inputs controls masters outs old (Some (Checks name)) new = FaultsHaveCauses media masters outs old new
  HasCauses media inputs controls masters outs old (Some (Renders r)) new = FaultsHaveCauses media masters outs old new
  HasCauses media inputs controls masters outs old (Some (Verifies v)) new = FaultsHaveCauses media masters outs old new
  HasCauses media inputs controls masters outs old (Some (Gens n)) new = FaultsHaveCauses media masters outs old new
  HasCauses media inputs controls masters outs old None new = FaultsHaveCauses media masters outs old new

  -- ---- completeness

  -- only want of memory keeps it from Done
  abbrev pub IsDoneButForMemory : Outcome M I C W O → Type 0
  IsDoneButForMemory new = (new.status ≡ Done) ⊎ (new.status ≡ NoMemory)

  -- where nothing is wrong, and no count rises of what the command reads and writes, only want of memory keeps it from Done
  abbrev pub IsComplete : MediaOutside M → SourceOutside I → SourceOutside C → SinkOutside W → SinkOutside O → World M I C W O → Option Task → Outcome M I C W O → Type 0
  IsComplete media inputs controls masters outs old (Some (Runs r)) new = run_complete.IsComplete media inputs controls masters outs old r new
  IsComplete media inputs controls masters outs old (Some (Migrates name)) new = media.tells → IsOk (read_session (media.files old.media name)) →
      IsStill (media.read_faults old.media) (media.read_faults new.world.media) → IsStill (outs.faults old.out) (outs.faults new.world.out) → IsDoneButForMemory new
  IsComplete media inputs controls masters outs old (Some (Checks name)) new = media.tells → IsOk (session_plan (media.files old.media) name) →
      IsStill (media.read_faults old.media) (media.read_faults new.world.media) → IsStill (outs.faults old.out) (outs.faults new.world.out) → IsDoneButForMemory new
  IsComplete media inputs controls masters outs old (Some (Renders r)) new = media.tells → IsOk (session_plan (media.files old.media) r.session) →
      IsStill (media.read_faults old.media) (media.read_faults new.world.media) → IsStill (masters.faults old.master) (masters.faults new.world.master) → IsDoneButForMemory new
  IsComplete media inputs controls masters outs old (Some (Verifies v)) new = media.tells → Agrees (media.files old.media) v →
      IsStill (media.read_faults old.media) (media.read_faults new.world.media) → IsStill (outs.faults old.out) (outs.faults new.world.out) → IsDoneButForMemory new
  IsComplete media inputs controls masters outs old (Some (Gens n)) new = IsStill (outs.faults old.out) (outs.faults new.world.out) → IsDoneButForMemory new
  IsComplete media inputs controls masters outs old None new = Unit {0}

  -- ---- what is left alone

  -- What a command that isn't a run leaves as it was.
  pub record LeavesAlone (media : MediaOutside M) (old : World M I C W O) (asked : Option Task) (s : Status) (new : World M I C W O) : Type 0 where
    -- the files, and the count of failed writes of them
    pub files : OnlyReads media old.media new.media
    pub input : new.input ≡ old.input
    pub control : new.control ≡ old.control
    -- only a render writes to the master, and none where the session or a source is refused
    pub master : LeavesTheMaster asked → new.master ≡ old.master
    pub unwritten : IsBeforeInput s → new.master ≡ old.master
    -- what opens no file reads none
    pub unread : OpensNoFile asked → new.media ≡ old.media
    -- and nothing to out where it is Done
    pub out : ¬ (LeavesTheMaster asked) → s ≡ Done → new.out ≡ old.out

  -- **What a run leaves alone where the session, a source or takes are in the way**; else it is said with what is played.
  pub record LeavesUntouched (media : MediaOutside M) (old : World M I C W O) (s : Status) (new : World M I C W O) : Type 0 where
    -- files were read, and none has changed
    pub files : IsBeforeInput s → OnlyReads media old.media new.media
    -- nothing else was read, and the master wasn't written to
    pub input : IsBeforeInput s → new.input ≡ old.input
    pub control : IsBeforeInput s → new.control ≡ old.control
    pub master : IsBeforeInput s → new.master ≡ old.master

  -- what is left alone of the world
  abbrev pub LeavesTheRest : MediaOutside M → World M I C W O → Option Task → Status → World M I C W O → Type 0
  LeavesTheRest media old (Some (Runs r)) s new = LeavesUntouched media old s new
  LeavesTheRest media old (Some (Migrates name)) s new = LeavesAlone media old (Some (Migrates name)) s new
  LeavesTheRest media old (Some (Checks name)) s new = LeavesAlone media old (Some (Checks name)) s new
  LeavesTheRest media old (Some (Renders r)) s new = LeavesAlone media old (Some (Renders r)) s new
  LeavesTheRest media old (Some (Verifies v)) s new = LeavesAlone media old (Some (Verifies v)) s new
  LeavesTheRest media old (Some (Gens n)) s new = LeavesAlone media old (Some (Gens n)) s new
  LeavesTheRest media old None s new = LeavesAlone media old None s new

  -- What every run does that was asked for this.
  pub record Does (media : MediaOutside M) (inputs : SourceOutside I) (controls : SourceOutside C) (masters : SinkOutside W) (outs : SinkOutside O) (old : World M I C W O) (asked : Option Task)
      (new : Outcome M I C W O) : Type 0 where
    -- it ends with the status that words and files determine, and else with one of the command's
    pub ends : EndsAsAsked media inputs old asked new.status
    pub status : IsStatusOf asked new.status
    -- what is played, rendered and replied
    pub played : PlaysAsAsked media inputs controls masters outs old asked new
    pub rendered : media.tells → RendersAsAsked media masters old asked new
    pub replies : RepliesAsAsked media outs old asked new
    -- why it isn't Done
    pub complete : IsComplete media inputs controls masters outs old asked new
    pub causes : HasCauses media inputs controls masters outs old asked new
    -- and what it leaves alone
    pub rest : LeavesTheRest media old asked new.status new.world
