-- How the master ends: whole, or cut off.
use Rattle.std.proofs.Common.{◌≡◌, length, refl, sym, ap, ◌∙◌, subst, arith}
use Rattle.std.specs.Prelude.{Bool, true, false, is_err, Result, Ok, Err}
use Rattle.ses_io.specs.Faults.{HasCause}
use Rattle.ses_io.specs.Outside.{SourceOutside, SinkOutside, Writes}
use Rattle.ses_io.specs.Streams.{AppendsSome}
use Rattle.master_blocks.specs.Bytes.{end_bytes}
use Rattle.process_cycle.specs.declared.fault.CycleFault.{CycleFault}
use Rattle.process_cycle.specs.CutOff.{HoldsAll}
use Rattle.process_cycle.specs.ProcessState.{Playing, ProcessState}
use Rattle.process_cycle.specs.Promised.{IsMastered}
use Rattle.process_cycle.proofs.EndLemmas.{holds_all}
use Rattle.play_worker.specs.declared.worker.PlayWorker.{PlayWorker}
use Rattle.play_worker.specs.declared.worker.Ended.{Ended}
use Rattle.play_worker.specs.Leaves.{EndsMaster, MasterIsLeft, MasterStands, is_cut, master_answered}
use Rattle.play_worker.proofs.FaultLemmas.{none_failed}

module _ {I W : Type 0} (inputs : SourceOutside I) (sinks : SinkOutside W) (at : Playing) (w : PlayWorker I W) where
  -- where a write had failed it is left as it is
  pub left_cut : (ended : Ended) → is_cut ended ≡ true → MasterStands inputs sinks at (is_cut ended) w.process →
      HasCause (sinks.faults w.told.sink.value) (sinks.faults w.process.master.sink) (master_answered (is_cut ended)) → EndsMaster inputs sinks at ended w true w
  left_cut ended cut stands faults = record {
    same = refl;
    master = subst (λ c. MasterIsLeft inputs sinks at c true w.process) (sym cut) (refl, subst (λ c. MasterStands inputs sinks at c w.process) cut stands);
    faults = subst (λ c. HasCause (sinks.faults w.told.sink.value) (sinks.faults w.process.master.sink) (master_answered c)) cut faults;
  }

  module _ (p : ProcessState I W) (same : p ≡ record w.process { master = record w.process.master { sink = p.master.sink } }) (mastered : IsMastered sinks at w.process)
      (counted : HasCause {T = Unit {0}} {E = CycleFault} (sinks.faults w.told.sink.value) (sinks.faults w.process.master.sink) (Ok tt)) where
    abbrev written : PlayWorker I W
    written = record w { process = p }

    same_worker : written ≡ record w { process = record w.process { master = record w.process.master { sink = p.master.sink } } }
    same_worker = ap (λ q. record w { process = q }) same

    -- else it is whole, or cut off in its end
    ended_by : (ended : Ended) → is_cut ended ≡ false → (answer : Result (Unit {0}) CycleFault) → Writes sinks (end_bytes at.session w.process.journal.room (length w.process.journal.items)) w.process.master.sink p.master.sink answer →
        (cut_off : Bool) → cut_off ≡ is_err answer → EndsMaster inputs sinks at ended w cut_off written
    ended_by ended uncut (Ok x) writes cut_off is = subst (λ c. EndsMaster inputs sinks at ended w c written) (sym is) (record {
      same = same_worker;
      master = subst (λ c. MasterIsLeft inputs sinks at c false p) (sym uncut) (λ tells. subst (HoldsAll sinks at) (sym same) (holds_all sinks at w.process p.master.sink mastered tells (writes.all tells)));
      faults = none_failed _ _ tt (writes.cause.kept ∙ counted.kept);
    })
    ended_by ended uncut (Err why) writes cut_off is = subst (λ c. EndsMaster inputs sinks at ended w c written) (sym is) (record {
      same = same_worker;
      master = subst (λ c. MasterIsLeft inputs sinks at c true p) (sym uncut) (record {
        before = w.process;
        mastered = mastered;
        same = same;
        front = λ tells. subst (λ (q : ProcessState I W). AppendsSome (sinks.held w.process.master.sink) (sinks.held p.master.sink) (end_bytes at.session q.journal.room (length q.journal.items))) (sym same) (writes.front tells);
      });
      faults = let was = counted.kept in record {
        later = omega (arith, was, writes.cause.later);
        kept = tt;
        rose = omega (arith, was, writes.cause.rose);
      };
    })

    pub is_ended : (ended : Ended) → is_cut ended ≡ false → (answer : Result (Unit {0}) CycleFault) → Writes sinks (end_bytes at.session w.process.journal.room (length w.process.journal.items)) w.process.master.sink p.master.sink answer →
        (cut_off : Bool) → cut_off ≡ is_err answer → EndsMaster inputs sinks at ended w cut_off written
    is_ended ended uncut answer writes cut_off is = ended_by ended uncut answer writes cut_off is
