-- An export and a play do what a run does.
use Rattle.std.proofs.Common.{sym, subst}
use Rattle.std.specs.Prelude.{Option, Some, None}
use Rattle.ses_io.specs.FixedList.{Listed}
use Rattle.ses_io.specs.Outside.{MediaOutside, SourceOutside, SinkOutside}
use Rattle.ses_io.specs.declared.world.World.{World}
use Rattle.cycle_journal.specs.declared.entry.Entry.{Entry}
use Rattle.cycle_journal.specs.declared.status.Status.{Status}
use Rattle.cycle_journal.specs.declared.status.Status.TheVariants.{Usage, Session, SourceFile, TakesExist, Refuted, BadReport}
use Rattle.run_world.specs.declared.finished.Faults.{Faults}
use Rattle.session_play.specs.declared.outcome.Outcome.{Outcome}
use Rattle.session_play.specs.Causes as run
use Rattle.session_play.specs.Complete as run_complete
use Rattle.session_play.specs.Ending.{with_report}
use Rattle.session_play.specs.Opening.{IsTold}
use Rattle.session_play.specs.Played.{WasPlayed}
use Rattle.session_play.specs.Request.{Request}
use Rattle.session_play.specs.Unplayed.{IsAfterHead, IsBeforePlay}
use Rattle.session_play.proofs.CauseLemmas.{SaysOf, says_of}
use Rattle.session_run.specs.Headline.{Does, LeavesUntouched}
use Rattle.session_run.specs.Status.{IsBeforeInput, IsOfRun}
use Rattle.session_run.specs.Tasks.{Runs}

of_before : (s : Status) → IsBeforePlay s → IsOfRun s
of_before Usage is = absurd is
of_before (Refuted line) is = absurd is
of_before (BadReport line) is = absurd is
of_before _ is = tt

of_end : (f : Faults) (s : Status) → SaysOf f s → IsOfRun s
of_end f Usage is = absurd is
of_end f (Refuted line) is = absurd is
of_end f (BadReport line) is = absurd is
of_end f _ is = tt

-- a run that was played didn't end so
not_before : (f : Faults) (s : Status) → SaysOf f s → IsBeforeInput s → ⊥
not_before f (Session why) says before = says
not_before f (SourceFile name why) says before = says
not_before f (TakesExist name) says before = says
not_before f _ says before = before

-- and of one that ends so the input wasn't read
not_after : (s : Status) → IsBeforeInput s → ¬ (IsAfterHead s)
not_after (Session why) before after = after
not_after (SourceFile name why) before after = after
not_after (TakesExist name) before after = after
not_after _ before after = before

module _ {M I C W O : Type 0} (media : MediaOutside M) (inputs : SourceOutside I) (controls : SourceOutside C) (masters : SinkOutside W) (outs : SinkOutside O) (old : World M I C W O) (r : Request) (new : Outcome M I C W O) where
  of_run : (j : Option (Listed Entry)) → WasPlayed media inputs controls masters outs old r new j → IsOfRun new.status
  of_run (Some journal) p = let f = with_report p.out.unreported p.finished.faults in of_end f new.status (subst (SaysOf f) (sym p.out.status_is) (says_of f))
  of_run None u = of_before new.status u.status

  untouched : (j : Option (Listed Entry)) → WasPlayed media inputs controls masters outs old r new j → LeavesUntouched media old new.status new.world
  untouched (Some journal) p = let f = with_report p.out.unreported p.finished.faults in
      let never : IsBeforeInput new.status → ⊥ = not_before f new.status (subst (SaysOf f) (sym p.out.status_is) (says_of f)) in
      record { files = λ before. absurd (never before); input = λ before. absurd (never before); control = λ before. absurd (never before); master = λ before. absurd (never before) }
  untouched None u = record { files = λ before. u.files; input = λ before. u.untouched (not_after new.status before); control = λ before. u.control; master = λ before. u.master }

  pub does_run : IsTold media inputs (media.files old.media) old.input r new.status → WasPlayed media inputs controls masters outs old r new new.journal → run.HasCauses media inputs controls masters outs old new →
      run_complete.IsComplete media inputs controls masters outs old r new → Does media inputs controls masters outs old (Some (Runs r)) new
  does_run told played causes complete = record {
    ends = told;
    status = of_run new.journal played;
    played = played;
    rendered = λ t. tt;
    replies = tt;
    complete = complete;
    causes = causes;
    rest = untouched new.journal played;
  }
