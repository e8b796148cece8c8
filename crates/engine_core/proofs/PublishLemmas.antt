-- A run in another newest edition is under way, where its workers rest and run in it.
use Rattle.std.specs.Prelude.{◌⊎◌, List}
use Rattle.std.proofs.Common.{◌≡◌, refl, sym, subst}
use Rattle.ses_io.specs.Outside.{MediaOutside, SourceOutside, SinkOutside}
use Rattle.edition_log.specs.EditionState.{EditionState as Edition}
use Rattle.session_model.specs.declared.edit.Edit.{Edit}
use Rattle.process_cycle.specs.ProcessState.{Playing}
use Rattle.process_cycle.specs.Promised.{IsMastered}
use Rattle.worker_pair.specs.declared.pair.Pair.{Pair}
use Rattle.worker_pair.specs.Runs.{Rests, Runs}
use Rattle.worker_pair.proofs.NowLemmas.{now_rests, now_runs}
use Rattle.engine_core.specs.declared.run.Run.{Run}
use Rattle.run_end.specs.Started.{Started}
use Rattle.engine_core.specs.Now.{now_of}
use Rattle.process_cycle.specs.CutOff.{IsCutAtHead, IsCutInCycle}
use Rattle.engine_core.specs.UnderWay.{IsUnderWay}
use Rattle.engine_core.proofs.KeepLemmas.{counts_stand, short_stands}

module _ {V I W : Type 0} (media : MediaOutside V) (inputs : SourceOutside I) (sinks : SinkOutside W) (on : Started V I W) (r : Run V I W) (is : IsUnderWay media inputs sinks on r) (e : Edition) where
  abbrev pub edited : Run V I W
  edited = record r { pair = record r.pair { edition = e } }

  -- the process has these edits
  abbrev playing : List Edit → Playing
  playing edits = record { session = on.begun.session; edits = edits; start = on.begun.start; before = on.begun.before }

  pub under_way_edited : Rests media (now_of on r) edited.pair → (Runs media inputs sinks (now_of on r) r.pair → Runs media inputs sinks (now_of on r) edited.pair) → IsUnderWay media inputs sinks on edited
  under_way_edited rests runs = record {
    rests = now_rests media (now_of on r) edited.pair rests;
    runs = λ goes. now_runs media inputs sinks (now_of on r) edited.pair (runs (is.runs goes));
    shut = is.shut;
    counts = counts_stand media inputs sinks on r edited refl refl refl refl refl refl is.counts;
    opened = is.opened;
    hears = is.hears;
    mastered = λ fine. subst (λ l. IsMastered sinks (playing l) r.pair.process) rests.entered.played (is.mastered fine);
    cut = λ bad. subst (λ l. IsCutAtHead inputs sinks (playing l) r.pair.process ⊎ IsCutInCycle inputs sinks (playing l) r.pair.process) rests.entered.played (is.cut bad);
    input = is.input;
    input_short = λ lost. short_stands inputs on r edited refl refl (is.input_short lost);
    depths = is.depths;
  }

  -- the same run, by what a call says that changed it
  pub under_way_published : (new : Pair V I W) → new ≡ record r.pair { edition = e } → Rests media (now_of on r) new → (Runs media inputs sinks (now_of on r) r.pair → Runs media inputs sinks (now_of on r) new) →
      IsUnderWay media inputs sinks on (record r { pair = new })
  under_way_published new same rests runs = subst (λ p. IsUnderWay media inputs sinks on (record r { pair = p })) (sym same)
      (under_way_edited (subst (Rests media (now_of on r)) same rests) (λ ran. subst (Runs media inputs sinks (now_of on r)) same (runs ran)))
