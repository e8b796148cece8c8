-- How the master of a run ends: all of it is written, or a front where a write failed.
use Rattle.std.proofs.Common.{◌≡◌, inl, inr, length, refl, sym, ap, subst, ◌∙◌}
use Rattle.std.specs.Prelude.{Bool, true, false, Result, Ok, Err, IfErr}
use Rattle.std.proofs.lemmas.Bool.{true≢false, false≢true}
use Rattle.ses_io.specs.Outside.{MediaOutside, SourceOutside, SinkOutside, Writes}
use Rattle.master_blocks.specs.Bytes.{end_bytes}
use Rattle.process_cycle.specs.declared.fault.CycleFault.{CycleFault}
use Rattle.process_cycle.specs.declared.fault.CycleFault.TheVariants.{InputFault, MasterFault}
use Rattle.worker_pair.specs.declared.pair.Pair.{Pair}
use Rattle.worker_pair.specs.Begun.{playing_at}
use Rattle.worker_pair.specs.Plays.{OnlyTheMaster}
use Rattle.worker_pair.specs.Runs.{HearsInput, Rests, at_now}
use Rattle.worker_pair.proofs.NowLemmas.{now_rests}
use Rattle.run_end.specs.declared.failures.Failures.{Failures}
use Rattle.engine_core.specs.declared.run.Run.{Run}
use Rattle.run_end.specs.Failures.{IsFaultCount, after_cycle}
use Rattle.run_end.specs.Started.{Started}
use Rattle.engine_core.specs.Now.{AreCounted, now_of}
use Rattle.process_cycle.proofs.EndLemmas.{holds_all}
use Rattle.process_cycle.specs.CutOff.{HoldsAll, IsCutAtEnd}
use Rattle.engine_core.specs.UnderWay.{InputIsShort, IsInputOf, IsUnderWay, IsWritten}
use Rattle.run_end.proofs.CountedLemmas.{counted_still, counted_ok, counted_err}
use Rattle.engine_core.proofs.KeepLemmas.{short_stands}
use Rattle.engine_core.proofs.MasterHeadLemmas.{not_input}

module _ {V I W : Type 0} (media : MediaOutside V) (inputs : SourceOutside I) (sinks : SinkOutside W) (on : Started V I W) (old : Run V I W) (under : IsUnderWay media inputs sinks on old) where
  -- a master that was cut off is left as it is
  pub left_cut : old.failed.master ≡ true → IsWritten media inputs sinks on old old
  left_cut broken = record {
    only = refl;
    rests = under.rests;
    counts = under.counts;
    hears = under.hears;
    input = under.input;
    input_short = under.input_short;
    failed = refl;
    stays = λ so. refl;
    ends = λ fine. absurd (true≢false (sym broken ∙ fine));
    whole = λ fine. absurd (true≢false (sym broken ∙ fine));
    cut = λ so. inl (under.cut so);
  }

  module _ (q : Pair V I W) (fine : old.failed.master ≡ false) (rests : Rests media (now_of on old) q) (same : OnlyTheMaster old.pair q) where
    -- what the calls of the outside counted
    counts_now : (m : Bool) → IsFaultCount (sinks.faults on.master) (sinks.faults q.process.master.sink) m → AreCounted media inputs sinks on (record { pair = q; failed = record old.failed { master = m } })
    counts_now m masters = record {
      reads = counted_still (media.read_faults on.media) (media.read_faults old.pair.butler.media) (media.read_faults q.butler.media) old.failed.read
          (ap (λ (z : Pair V I W). media.read_faults z.butler.media) same) under.counts.reads;
      writes = counted_still (media.write_faults on.media) (media.write_faults old.pair.butler.media) (media.write_faults q.butler.media) old.failed.write
          (ap (λ (z : Pair V I W). media.write_faults z.butler.media) same) under.counts.writes;
      inputs_are = counted_still (inputs.faults on.input) (inputs.faults old.pair.process.input.input) (inputs.faults q.process.input.input) old.failed.input
          (ap (λ (z : Pair V I W). inputs.faults z.process.input.input) same) under.counts.inputs_are;
      masters = masters;
      butler_reads = ap (λ (z : Pair V I W). z.butler.hushed) same ∙ under.counts.butler_reads;
      butler_writes = ap (λ (z : Pair V I W). z.butler.write_failed) same ∙ under.counts.butler_writes;
    }

    -- what was captured is of one sound still,
    hears_ended : HearsInput inputs (now_of on old) q
    hears_ended = subst (λ (z : Pair V I W). HearsInput inputs (now_of on old) z) (sym same) under.hears

    -- and the input is as it was
    input_ended : q.process.input ≡ old.pair.process.input
    input_ended = ap (λ (z : Pair V I W). z.process.input) same

    short_ended : (m : Bool) → old.failed.input ≡ true → InputIsShort inputs on (record { pair = q; failed = record old.failed { master = m } })
    short_ended m broken = short_stands inputs on old (record { pair = q; failed = record old.failed { master = m } }) (ap (λ (z : Pair V I W). z.process.journal) same) input_ended
        (under.input_short broken)

    -- the end was written, or a front of it
    ended : (answer : Result (Unit {0}) CycleFault) → Writes sinks (end_bytes on.begun.session old.pair.process.journal.room (length old.pair.process.journal.items))
        old.pair.process.master.sink q.process.master.sink answer → IfErr answer (λ why. why ≡ MasterFault) → IsWritten media inputs sinks on old (record { pair = q; failed = after_cycle answer old.failed })
    ended (Ok u) writes fault = record {
      only = same;
      rests = now_rests media (now_of on old) q rests;
      counts = counts_now old.failed.master
          (counted_ok (sinks.faults on.master) (sinks.faults old.pair.process.master.sink) (sinks.faults q.process.master.sink) old.failed.master u writes.cause under.counts.masters);
      hears = hears_ended;
      input = subst (IsInputOf on) (sym input_ended) under.input;
      input_short = short_ended old.failed.master;
      failed = refl;
      stays = λ broken. absurd (false≢true (sym fine ∙ broken));
      ends = λ so. record { answer = Ok u; writes = writes; failed = refl };
      whole = λ so tells. subst (λ (z : Pair V I W). HoldsAll sinks (playing_at (at_now on.begun true z)) z.process) (sym same)
          (holds_all sinks (playing_at (now_of on old)) old.pair.process q.process.master.sink (under.mastered fine) tells (writes.all tells));
      cut = λ broken. absurd (false≢true (sym fine ∙ broken));
    }
    ended (Err InputFault) writes fault = absurd (not_input fault)
    ended (Err MasterFault) writes fault = record {
      only = same;
      rests = now_rests media (now_of on old) q rests;
      counts = counts_now true
          (counted_err (sinks.faults on.master) (sinks.faults old.pair.process.master.sink) (sinks.faults q.process.master.sink) old.failed.master MasterFault writes.cause under.counts.masters);
      hears = hears_ended;
      input = subst (IsInputOf on) (sym input_ended) under.input;
      input_short = short_ended true;
      failed = refl;
      stays = λ broken. absurd (false≢true (sym fine ∙ broken));
      ends = λ so. record { answer = Err MasterFault; writes = writes; failed = refl };
      whole = λ so. absurd (true≢false so);
      cut = λ broken. inr (subst (λ (z : Pair V I W). IsCutAtEnd sinks (playing_at (at_now on.begun true z)) z.process) (sym same)
          (record { before = old.pair.process; mastered = under.mastered fine; same = refl; front = writes.front }));
    }

    -- whatever the flags were made of
    pub run_ended : (answer : Result (Unit {0}) CycleFault) (f : Failures) → f ≡ after_cycle answer old.failed → Writes sinks (end_bytes on.begun.session old.pair.process.journal.room
        (length old.pair.process.journal.items)) old.pair.process.master.sink q.process.master.sink answer → IfErr answer (λ why. why ≡ MasterFault) →
        IsWritten media inputs sinks on old (record { pair = q; failed = f })
    run_ended answer f is writes fault = subst (λ z. IsWritten media inputs sinks on old (record { pair = q; failed = z })) (sym is) (ended answer writes fault)
