-- The process of a run enters: what was so of it is so still.
use Rattle.std.proofs.Common.{◌≡◌, inl, inr, refl, sym, ap, subst, ◌∙◌}
use Rattle.std.specs.Prelude.{◌⊎◌, Bool, true, false, ◌||◌, not}
use Rattle.std.proofs.lemmas.Bool.{false≢true}
use Rattle.ses_io.specs.Outside.{MediaOutside, SourceOutside, SinkOutside}
use Rattle.edition_log.specs.EditionState.{EditionState}
use Rattle.worker_pair.specs.declared.pair.Pair.{Pair}
use Rattle.worker_pair.specs.Runs.{Runs}
use Rattle.worker_pair.specs.Steps.{Enters}
use Rattle.worker_pair.proofs.NowLemmas.{runs_rest}
use Rattle.run_end.specs.declared.failures.Failures.{Failures}
use Rattle.engine_core.specs.declared.run.Run.{Run}
use Rattle.run_end.specs.Failures.{has_stopped, nothing_failed}
use Rattle.run_end.specs.Started.{Started}
use Rattle.engine_core.specs.Now.{now_of}
use Rattle.engine_core.specs.UnderWay.{IsUnderWay}
use Rattle.engine_core.specs.Letters.{EntersOn}
use Rattle.engine_core.proofs.KeepLemmas.{counts_stand, short_stands}

-- a test is one or the other
pub either : (b : Bool) → (b ≡ true) ⊎ (b ≡ false)
either true = inl refl
either false = inr refl

-- where a process has stopped, something has failed
pub failed_where_stopped : (f : Failures) → has_stopped f ≡ true → nothing_failed f ≡ false
failed_where_stopped f stopped = ap (λ b. not (b || f.read || f.write)) stopped

module _ {V I W : Type 0} (media : MediaOutside V) (inputs : SourceOutside I) (sinks : SinkOutside W) (on : Started V I W) (old : Run V I W) (is : IsUnderWay media inputs sinks on old)
    (going : has_stopped old.failed ≡ false) where
  -- the pair in another edition
  abbrev pub in_edition : EditionState → Bool → Pair V I W
  in_edition e open_now = record old.pair { playing = e; in_cycle = open_now }

  -- a run whose pair runs in it is under way
  under_way_in : (e : EditionState) (open_now : Bool) → Runs media inputs sinks (now_of on old) (in_edition e open_now) →
      IsUnderWay media inputs sinks on (record { pair = in_edition e open_now; failed = old.failed })
  under_way_in e open_now runs = record {
    rests = runs_rest media inputs sinks (now_of on old) (in_edition e open_now) runs;
    runs = λ goes. runs;
    shut = λ stopped. absurd (false≢true (sym going ∙ stopped));
    counts = counts_stand media inputs sinks on old (record { pair = in_edition e open_now; failed = old.failed }) refl refl refl refl refl refl is.counts;
    opened = is.opened;
    hears = is.hears;
    mastered = is.mastered;
    cut = is.cut;
    input = is.input;
    input_short = λ lost. short_stands inputs on old (record { pair = in_edition e open_now; failed = old.failed }) refl refl (is.input_short lost);
    depths = is.depths;
  }

  -- so is one whose process has entered
  pub under_way_entered : (new : Pair V I W) → Enters old.pair new → Runs media inputs sinks (now_of on old) new → IsUnderWay media inputs sinks on (record { pair = new; failed = old.failed })
  under_way_entered new enters runs = subst (λ p. IsUnderWay media inputs sinks on (record { pair = p; failed = old.failed })) (sym enters.same)
      (under_way_in new.playing new.in_cycle (subst (Runs media inputs sinks (now_of on old)) enters.same runs))

-- whether it enters or not, its butler is asked for as many cycles
pub cycles_entered : {V I W : Type 0} (old new : Run V I W) → EntersOn old new → new.pair.butler.cycles ≡ old.pair.butler.cycles
cycles_entered {V} {I} {W} old new enters = elim (either (has_stopped old.failed)) [
  | inl stopped ↦ ap (λ (r : Run V I W). r.pair.butler.cycles) (enters.stays stopped)
  | inr going ↦ ap (λ (p : Pair V I W). p.butler.cycles) (enters.enters going).same
]
