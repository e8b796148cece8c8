-- A turn of the butler leaves a run under way, and is the letter B of the core machine while nothing fails.
use Rattle.std.proofs.Common.{◌≡◌, sym, ap, subst, ◌∙◌}
use Rattle.std.specs.Prelude.{◌⊎◌, Bool, Result, Ok, Err}
use Rattle.std.proofs.lemmas.Bool.{false≢true}
use Rattle.ses_io.specs.Outside.{MediaOutside, SourceOutside, SinkOutside}
use Rattle.session_model.specs.declared.session.Session.{Session}
use Rattle.butler.specs.declared.turning.Turn.{Turn}
use Rattle.butler.specs.declared.faults.ButlerFault.{ButlerFault}
use Rattle.butler.specs.declared.faults.ButlerFault.TheVariants.{ReadFault, WriteFault}
use Rattle.butler.specs.ButlerState.{ButlerState}
use Rattle.process_cycle.specs.ProcessState.{Playing, items_of}
use Rattle.process_cycle.specs.Promised.{IsMastered}
use Rattle.worker_pair.specs.declared.ending.Ending.{Ending}
use Rattle.worker_pair.specs.declared.pair.Pair.{Pair}
use Rattle.worker_pair.specs.Begun.{At, playing_at, turned}
use Rattle.worker_pair.specs.Runs.{HearsInput, Rests, Runs}
use Rattle.worker_pair.specs.Steps.{PairTurnsAsMachine, Turns, TurnsOnly, is_idle_answer}
use Rattle.worker_pair.specs.Tied.{rings_of}
use Rattle.worker_pair.proofs.NowLemmas.{now_rests, now_runs}
use Rattle.worker_pair.proofs.TurnLemmas.{others_turned}
use Rattle.run_end.specs.declared.failures.Failures.{Failures}
use Rattle.engine_core.specs.declared.run.Run.{Run}
use Rattle.run_end.specs.Failures.{IsFaultCount, after_turn, has_stopped, nothing_failed}
use Rattle.run_end.specs.Started.{Started}
use Rattle.engine_core.specs.Now.{AreCounted, now_of}
use Rattle.engine_core.specs.Letters.{TurnIsB}
use Rattle.process_cycle.specs.CutOff.{IsCutAtHead, IsCutInCycle}
use Rattle.engine_core.specs.UnderWay.{IsInputOf, IsUnderWay}
use Rattle.run_end.proofs.DepthLemmas.{depths_met}
use Rattle.run_end.proofs.CountedLemmas.{counted_still}
use Rattle.run_end.proofs.FaultLemmas.{input_same, master_same, read_known, reads_on, some_read, some_write, stops_same, write_known, writes_on}
use Rattle.engine_core.proofs.KeepLemmas.{items_met, cut_stands, short_stands}

-- ---- the letter

module _ {V I W : Type 0} where
  -- where nothing has failed after the turn it was answered Ok
  pub turn_is_b : (s : Session) (old new : Run V I W) (idle : Bool) (answer : Result Turn ButlerFault) → new.failed ≡ after_turn answer old.failed → idle ≡ is_idle_answer answer →
      PairTurnsAsMachine s old.pair answer new.pair → TurnIsB s old idle new
  turn_is_b s old new idle (Ok t) failed is machine c fine tied = let m = machine c tied in (m.0, is ∙ m.1)
  turn_is_b s old new idle (Err ReadFault) failed is machine c fine tied =
      absurd (false≢true (sym (some_read old.failed.input old.failed.master old.failed.write) ∙ sym (ap nothing_failed failed) ∙ fine))
  turn_is_b s old new idle (Err WriteFault) failed is machine c fine tied =
      absurd (false≢true (sym (some_write old.failed.input old.failed.master old.failed.read) ∙ sym (ap nothing_failed failed) ∙ fine))

-- ---- the run

module _ {V I W : Type 0} (media : MediaOutside V) (inputs : SourceOutside I) (sinks : SinkOutside W) (on : Started V I W) (old : Run V I W) (under : IsUnderWay media inputs sinks on old)
    (new : Run V I W) (answer : Result Turn ButlerFault) (only : TurnsOnly old.pair new.pair) (turns : Turns media (now_of on old) (rings_of old.pair) answer (rings_of new.pair))
    (failed : new.failed ≡ after_turn answer old.failed) where
  -- the place that the turn leaves
  abbrev at : At
  at = turned old.pair.edition.edits (now_of on old)

  -- the process has stopped where it had,
  stopped_same : has_stopped new.failed ≡ has_stopped old.failed
  stopped_same = ap has_stopped failed ∙ stops_same answer old.failed

  -- the master was cut off where it had been,
  master_failed : new.failed.master ≡ old.failed.master
  master_failed = ap (λ (f : Failures). f.master) failed ∙ master_same answer old.failed

  -- and so was the input
  input_failed : new.failed.input ≡ old.failed.input
  input_failed = ap (λ (f : Failures). f.input) failed ∙ input_same answer old.failed

  -- the butler is that of the turn, but for its ends
  butler_is : new.pair.butler ≡ record turns.butler { ends = new.pair.butler.ends }
  butler_is = ap (λ (e : Ending V). e.butler) turns.same

  -- the counts of faults
  counts_on : AreCounted media inputs sinks on new
  counts_on = record {
    reads = subst (λ (f : Failures). IsFaultCount (media.read_faults on.media) (media.read_faults new.pair.butler.media) f.read) (sym failed)
        (subst (λ (b : ButlerState V). IsFaultCount (media.read_faults on.media) (media.read_faults b.media) (after_turn answer old.failed).read) (sym butler_is)
        (reads_on answer old.failed (media.read_faults on.media) (media.read_faults old.pair.butler.media) (media.read_faults turns.butler.media) turns.turn.fails.reads under.counts.reads));
    writes = subst (λ (f : Failures). IsFaultCount (media.write_faults on.media) (media.write_faults new.pair.butler.media) f.write) (sym failed)
        (subst (λ (b : ButlerState V). IsFaultCount (media.write_faults on.media) (media.write_faults b.media) (after_turn answer old.failed).write) (sym butler_is)
        (writes_on answer old.failed (media.write_faults on.media) (media.write_faults old.pair.butler.media) (media.write_faults turns.butler.media) turns.turn.fails.writes under.counts.writes));
    inputs_are = subst (λ z. IsFaultCount (inputs.faults on.input) (inputs.faults new.pair.process.input.input) z) (sym input_failed)
        (counted_still (inputs.faults on.input) (inputs.faults old.pair.process.input.input) (inputs.faults new.pair.process.input.input) old.failed.input
        (ap (λ (z : Pair V I W). inputs.faults z.process.input.input) only) under.counts.inputs_are);
    masters = subst (λ z. IsFaultCount (sinks.faults on.master) (sinks.faults new.pair.process.master.sink) z) (sym master_failed)
        (counted_still (sinks.faults on.master) (sinks.faults old.pair.process.master.sink) (sinks.faults new.pair.process.master.sink) old.failed.master
        (ap (λ (z : Pair V I W). sinks.faults z.process.master.sink) only) under.counts.masters);
    butler_reads = read_known answer old.failed old.pair.butler.hushed new.pair.butler.hushed (ap (λ (b : ButlerState V). b.hushed) butler_is ∙ turns.turn.fails.hushed) under.counts.butler_reads
        ∙ sym (ap (λ (f : Failures). f.read) failed);
    butler_writes = write_known answer old.failed old.pair.butler.write_failed new.pair.butler.write_failed (ap (λ (b : ButlerState V). b.write_failed) butler_is ∙ turns.turn.fails.write_failed)
        under.counts.butler_writes ∙ sym (ap (λ (f : Failures). f.write) failed);
  }

  -- nothing was received
  items_same : items_of new.pair.process ≡ items_of old.pair.process
  items_same = ap (λ (z : Pair V I W). items_of z.process) only ∙ items_met old.pair.process turns.butler.ends new.pair.process.ends new.pair.butler.ends
      (others_turned media (now_of on old) (rings_of old.pair) answer turns.butler under.rests.serves turns.turn) turns.met

  -- the process looked where it did
  played_same : playing_at (now_of on new) ≡ playing_at (now_of on old)
  played_same = ap (λ (z : Pair V I W). playing_at (now_of on (record { pair = z; failed = old.failed }))) only

  -- it is under way
  pub under_turned : Rests media at new.pair → (Runs media inputs sinks (now_of on old) old.pair → Runs media inputs sinks at new.pair) →
      (IsMastered sinks (playing_at (now_of on old)) old.pair.process → IsMastered sinks (playing_at (now_of on old)) new.pair.process) →
      (HearsInput inputs (now_of on old) old.pair → HearsInput inputs (now_of on old) new.pair) → IsUnderWay media inputs sinks on new
  under_turned rests runs mastered hears = record {
    rests = now_rests media at new.pair rests;
    runs = λ going. now_runs media inputs sinks at new.pair (runs (under.runs (sym stopped_same ∙ going)));
    shut = λ over. ap (λ (z : Pair V I W). z.in_cycle) only ∙ under.shut (sym stopped_same ∙ over);
    counts = counts_on;
    opened = ap (λ (b : ButlerState V). b.sources.opened) butler_is ∙ turns.turn.rest.sources ∙ under.opened;
    hears = hears under.hears;
    mastered = λ fine. subst (λ (z : Playing). IsMastered sinks z new.pair.process) (sym played_same) (mastered (under.mastered (sym master_failed ∙ fine)));
    cut = λ broken. subst (λ (z : Playing). IsCutAtHead inputs sinks z new.pair.process ⊎ IsCutInCycle inputs sinks z new.pair.process) (sym played_same)
        (cut_stands inputs sinks (playing_at (now_of on old)) old.pair.process new.pair.process (ap (λ (z : Pair V I W). z.process.journal) only) items_same
        (ap (λ (z : Pair V I W). z.process.input) only) (ap (λ (z : Pair V I W). z.process.master.sink) only) (under.cut (sym master_failed ∙ broken)));
    input = subst (IsInputOf on) (sym (ap (λ (z : Pair V I W). z.process.input) only)) under.input;
    input_short = λ broken. short_stands inputs on old new (ap (λ (z : Pair V I W). z.process.journal) only) (ap (λ (z : Pair V I W). z.process.input) only) (under.input_short (sym input_failed ∙ broken));
    depths = depths_met on.begun.session old.pair.process.ends new.pair.process.ends turns.butler.ends new.pair.butler.ends
        (others_turned media (now_of on old) (rings_of old.pair) answer turns.butler under.rests.serves turns.turn) turns.met under.depths;
  }
