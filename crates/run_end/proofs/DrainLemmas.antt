-- Turns of the butler lead on, one after another.
use Rattle.std.proofs.Common.{◌≡◌, ℕ, zero, suc}
use Rattle.std.specs.Prelude.{true, false, Result}
use Rattle.ses_io.specs.Outside.{MediaOutside}
use Rattle.butler.specs.declared.turning.Turn.{Turn}
use Rattle.butler.specs.declared.faults.ButlerFault.{ButlerFault}
use Rattle.worker_pair.specs.declared.ending.Ending.{Ending}
use Rattle.worker_pair.specs.Begun.{Begun}
use Rattle.worker_pair.specs.Runs.{Serves}
use Rattle.worker_pair.specs.Steps.{Turns, is_idle_answer}
use Rattle.run_end.specs.declared.failures.Failures.{Failures}
use Rattle.run_end.specs.Failures.{after_turn}
use Rattle.run_end.specs.LastTurns.{HasTurned, TurnsTo, at_last}

module _ {V : Type 0} (media : MediaOutside V) (begun : Begun) where
  -- whatever turns lead on from the second state, with those before lead from the first
  abbrev pub LeadsFrom : Ending V → Failures → Ending V → Failures → Type 0
  LeadsFrom first was now by = (n : ℕ) (last : Ending V) (failed : Failures) → TurnsTo media begun n now by last failed → HasTurned media begun first was last failed

  -- none was taken yet
  pub leads_at_first : (e : Ending V) (failed : Failures) → LeadsFrom e failed e failed
  leads_at_first e failed n last by to = record { busy = n; to = to }

  module _ (first : Ending V) (was : Failures) (old : Ending V) (by : Failures) (leads : LeadsFrom first was old by) (serves : Serves media (at_last begun old) old) (answer : Result Turn ButlerFault)
      (new : Ending V) (turns : Turns media (at_last begun old) old answer new) (now : Failures) (noted : now ≡ after_turn answer by) where
    -- one that wasn't Idle
    pub leads_on : is_idle_answer answer ≡ false → LeadsFrom first was new now
    leads_on busy n last failed to = leads (suc n) last failed (new, now, record { answer = answer; serves = serves; turns = turns; noted = noted; idle_so = busy }, to)

    -- and the one that was
    pub leads_to_rest : is_idle_answer answer ≡ true → HasTurned media begun first was new now
    leads_to_rest idle = leads zero new now (record { answer = answer; serves = serves; turns = turns; noted = noted; idle_so = idle })
