-- How the master of a run begins: its header is written, or a front of it where the write failed.
use Rattle.std.proofs.Common.{◌≡◌, inl, List, length, refl, sym, ap, subst, ◌∙◌}
use Rattle.std.specs.Prelude.{true, false, Result, Ok, Err, OnOk, IfErr}
use Rattle.std.proofs.lemmas.Bool.{true≢false, false≢true}
use Rattle.ses_io.specs.Streams.{AppendsSome}
use Rattle.ses_io.specs.Outside.{MediaOutside, SourceOutside, SinkOutside, Writes}
use Rattle.session_model.specs.declared.edit.Edit.{Edit}
use Rattle.input_blocks.specs.State.{IsReadTo}
use Rattle.master_blocks.specs.Bytes.{head_bytes}
use Rattle.process_cycle.specs.declared.fault.CycleFault.{CycleFault}
use Rattle.process_cycle.specs.declared.fault.CycleFault.TheVariants.{InputFault, MasterFault}
use Rattle.worker_pair.specs.declared.pair.Pair.{Pair}
use Rattle.worker_pair.specs.Begun.{at_first, headed, playing_at}
use Rattle.worker_pair.specs.Plays.{OnlyTheMaster}
use Rattle.worker_pair.specs.Runs.{HearsInput, Rests, Runs, at_now}
use Rattle.worker_pair.proofs.NowLemmas.{now_rests, now_runs}
use Rattle.run_end.specs.declared.failures.Failures.{Failures}
use Rattle.run_end.specs.Failures.{IsFaultCount, after_cycle}
use Rattle.run_end.specs.Started.{Started}
use Rattle.run_end.specs.Depths.{HaveDepths}
use Rattle.process_cycle.specs.CutOff.{IsCutAtHead}
use Rattle.engine_core.specs.UnderWay.{IsFresh, IsInputOf, IsUnderWay}
use Rattle.run_end.proofs.DepthLemmas.{depths_played}
use Rattle.run_end.proofs.CountedLemmas.{counted_still, counted_none, counted_ok, counted_err}
use Rattle.engine_core.proofs.KeepLemmas.{none_failed, none_is, rests_headed}

-- it was no fault of the input
pub not_input : InputFault ≡ MasterFault → ⊥
not_input e = cc

module _ {V I W : Type 0} (media : MediaOutside V) (inputs : SourceOutside I) (sinks : SinkOutside W) (on : Started V I W) (p q : Pair V I W) (fresh : IsFresh media inputs sinks on p)
    (rests : Rests media (at_first on.begun) q) (same : OnlyTheMaster p q) where
  -- no read of the media was counted,
  reads_none : IsFaultCount (media.read_faults on.media) (media.read_faults q.butler.media) false
  reads_none = counted_still (media.read_faults on.media) (media.read_faults on.media) (media.read_faults q.butler.media) false
      (ap (λ (z : Pair V I W). media.read_faults z.butler.media) same ∙ ap media.read_faults fresh.media_is) (counted_none (media.read_faults on.media))

  -- no write of it,
  writes_none : IsFaultCount (media.write_faults on.media) (media.write_faults q.butler.media) false
  writes_none = counted_still (media.write_faults on.media) (media.write_faults on.media) (media.write_faults q.butler.media) false
      (ap (λ (z : Pair V I W). media.write_faults z.butler.media) same ∙ ap media.write_faults fresh.media_is) (counted_none (media.write_faults on.media))

  -- no read of the input,
  inputs_none : IsFaultCount (inputs.faults on.input) (inputs.faults q.process.input.input) false
  inputs_none = counted_still (inputs.faults on.input) (inputs.faults on.input) (inputs.faults q.process.input.input) false
      (ap (λ (z : Pair V I W). inputs.faults z.process.input.input) same ∙ ap inputs.faults fresh.input_is) (counted_none (inputs.faults on.input))

  -- and, before the header, no write of the master
  master_none : IsFaultCount (sinks.faults on.master) (sinks.faults p.process.master.sink) false
  master_none = counted_still (sinks.faults on.master) (sinks.faults on.master) (sinks.faults p.process.master.sink) false (ap sinks.faults fresh.master_is) (counted_none (sinks.faults on.master))

  -- the butler knows of no failed read,
  no_read : q.butler.hushed ≡ false
  no_read = ap (λ (z : Pair V I W). z.butler.hushed) same ∙ fresh.none_read

  -- and of no failed write
  no_write : q.butler.write_failed ≡ false
  no_write = ap (λ (z : Pair V I W). z.butler.write_failed) same ∙ fresh.none_written

  -- the workers rest behind the header
  rests_begun : Rests media (at_now on.begun true q) q
  rests_begun = now_rests media (headed (at_first on.begun)) q (rests_headed media (at_first on.begun) q rests)

  -- the sources are those that were opened,
  opened_same : q.butler.sources.opened ≡ on.opened
  opened_same = ap (λ (z : Pair V I W). z.butler.sources.opened) same ∙ fresh.opened

  -- and no cycle is open
  still_shut : q.in_cycle ≡ false
  still_shut = ap (λ (z : Pair V I W). z.in_cycle) same ∙ fresh.shut

  -- the input is that of the run,
  input_begun : IsInputOf on q.process.input
  input_begun = subst (λ (z : Pair V I W). IsInputOf on z.process.input) (sym same) (record { stream = fresh.stream_is; block = fresh.runs.playing.frames; untouched = λ none. fresh.input_is })

  -- and what was captured is of one sound
  hears_begun : HearsInput inputs (at_first on.begun) q
  hears_begun = subst (λ (z : Pair V I W). HearsInput inputs (at_first on.begun) z) (sym same) fresh.runs.playing.hears

  -- a front of the header was written
  cut_at_head : (edits : List Edit) → (sinks.tells → AppendsSome (sinks.held p.process.master.sink) (sinks.held q.process.master.sink) (head_bytes on.begun.session p.process.journal.room)) →
      IsCutAtHead inputs sinks (record { session = on.begun.session; edits = edits; start = on.begun.start; before = on.begun.before }) q.process
  cut_at_head edits front = record {
    none = ap (λ (z : Pair V I W). z.process.journal.items) same ∙ fresh.none;
    read = subst (λ (z : Pair V I W). IsReadTo inputs (record { start = on.begun.start; blocks = 0 }) z.process.input) (sym same)
        (subst (λ n. IsReadTo inputs (record { start = on.begun.start; blocks = n }) p.process.input) (ap length fresh.none) fresh.runs.playing.read);
    front = λ tells. subst (λ before. AppendsSome before (sinks.held q.process.master.sink) (head_bytes on.begun.session q.process.journal.room)) (ap sinks.held fresh.master_is ∙ fresh.held)
        (subst (λ n. AppendsSome (sinks.held p.process.master.sink) (sinks.held q.process.master.sink) (head_bytes on.begun.session n)) (sym (ap (λ (z : Pair V I W). z.process.journal.room) same)) (front tells));
  }

  -- the rings have their depths
  depths_begun : HaveDepths on.begun.session q.process.ends
  depths_begun = subst (λ (z : Pair V I W). HaveDepths on.begun.session z.process.ends) (sym same) (depths_played inputs (playing_at (at_first on.begun)) p.process fresh.runs.playing)

  -- the run is under way
  under_begun : (answer : Result (Unit {0}) CycleFault) → OnOk answer (Runs media inputs sinks (headed (at_first on.begun)) q) →
      Writes sinks (head_bytes on.begun.session p.process.journal.room) p.process.master.sink q.process.master.sink answer → IfErr answer (λ why. why ≡ MasterFault) →
      IsUnderWay media inputs sinks on (record { pair = q; failed = after_cycle answer none_failed })
  under_begun (Ok u) runs writes fault = record {
    rests = rests_begun;
    runs = λ going. now_runs media inputs sinks (headed (at_first on.begun)) q runs;
    shut = λ over. still_shut;
    counts = record {
      reads = reads_none;
      writes = writes_none;
      inputs_are = inputs_none;
      masters = counted_ok (sinks.faults on.master) (sinks.faults p.process.master.sink) (sinks.faults q.process.master.sink) false u writes.cause master_none;
      butler_reads = no_read;
      butler_writes = no_write;
    };
    opened = opened_same;
    hears = hears_begun;
    input = input_begun;
    mastered = λ fine. (now_runs media inputs sinks (headed (at_first on.begun)) q runs).mastered refl;
    cut = λ broken. absurd (false≢true broken);
    input_short = λ broken. absurd (false≢true broken);
    depths = depths_begun;
  }
  under_begun (Err InputFault) runs writes fault = absurd (not_input fault)
  under_begun (Err MasterFault) runs writes fault = record {
    rests = rests_begun;
    runs = λ going. absurd (true≢false going);
    shut = λ over. still_shut;
    counts = record {
      reads = reads_none;
      writes = writes_none;
      inputs_are = inputs_none;
      masters = counted_err (sinks.faults on.master) (sinks.faults p.process.master.sink) (sinks.faults q.process.master.sink) false MasterFault writes.cause master_none;
      butler_reads = no_read;
      butler_writes = no_write;
    };
    opened = opened_same;
    hears = hears_begun;
    input = input_begun;
    mastered = λ fine. absurd (true≢false fine);
    cut = λ broken. inl (cut_at_head _ writes.front);
    input_short = λ broken. absurd (false≢true broken);
    depths = depths_begun;
  }

  -- whatever the flags were made of
  pub run_begun : (answer : Result (Unit {0}) CycleFault) (none f : Failures) → none.input ≡ false → none.master ≡ false → none.read ≡ false → none.write ≡ false → f ≡ after_cycle answer none →
      OnOk answer (Runs media inputs sinks (headed (at_first on.begun)) q) → Writes sinks (head_bytes on.begun.session p.process.journal.room) p.process.master.sink q.process.master.sink answer →
      IfErr answer (λ why. why ≡ MasterFault) → IsUnderWay media inputs sinks on (record { pair = q; failed = f })
  run_begun answer none f i m r w is runs writes fault = subst (λ z. IsUnderWay media inputs sinks on (record { pair = q; failed = z })) (sym (is ∙ ap (after_cycle answer) (none_is none i m r w)))
      (under_begun answer runs writes fault)
