-- The process of a run makes a cycle: what is so of the run then, whatever was answered.
use Rattle.std.proofs.Common.{◌≡◌, inr, ℕ, suc, List, length, take, refl, sym, ap, subst, ◌∙◌, arith}
use Rattle.std.specs.Prelude.{true, false, Result, Ok, Err, OnOk, OnErr}
use Rattle.std.proofs.Math.Seq.{take-append_seam}
use Rattle.std.proofs.lemmas.Bool.{false≢true, or_right}
use Rattle.ses_io.specs.Outside.{MediaOutside, SourceOutside, SinkOutside}
use Rattle.ses_io.specs.Streams.{AppendsSome}
use Rattle.session_model.specs.declared.session.Session.{Session}
use Rattle.session_model.specs.Valid.{IsValid}
use Rattle.edition_log.specs.EditionState.{EditionState as Edition}
use Rattle.input_blocks.specs.Rest.{StreamForm}
use Rattle.input_blocks.specs.State.{InputState, IsCutShort, IsReadTo}
use Rattle.master_blocks.specs.State.{MasterState}
use Rattle.butler.specs.ButlerState.{ButlerState}
use Rattle.process_cycle.specs.declared.fault.CycleFault.{CycleFault}
use Rattle.process_cycle.specs.declared.fault.CycleFault.TheVariants.{InputFault, MasterFault}
use Rattle.process_cycle.specs.Cycles.{HasStopped, MakesEntry, next_bytes}
use Rattle.process_ends.specs.Ends.{AreOtherEnds}
use Rattle.process_cycle.specs.Looked.{HasLooked}
use Rattle.process_cycle.specs.Promised.{HoldsBlocks, IsMastered}
use Rattle.process_cycle.specs.ProcessState.{ProcessState, entries_of, items_of}
use Rattle.worker_pair.specs.declared.pair.Pair.{Pair}
use Rattle.worker_pair.specs.Begun.{playing_at}
use Rattle.worker_pair.specs.Plays.{Cycles, MayCycle}
use Rattle.worker_pair.specs.Runs.{HearsInput, Rests, Runs, given_last}
use Rattle.worker_pair.proofs.NowLemmas.{now_rests, now_runs}
use Rattle.run_end.specs.declared.failures.Failures.{Failures}
use Rattle.engine_core.specs.declared.run.Run.{Run}
use Rattle.run_end.specs.Failures.{IsFaultCount, after_cycle, has_stopped}
use Rattle.run_end.specs.Depths.{HaveDepths}
use Rattle.process_cycle.specs.CutOff.{IsCutInCycle}
use Rattle.run_end.specs.Started.{Started}
use Rattle.engine_core.specs.Now.{now_of, AreCounted}
use Rattle.engine_core.specs.UnderWay.{InputIsShort, IsInputOf, IsUnderWay}
use Rattle.run_end.proofs.DepthLemmas.{depths_met, depths_played}
use Rattle.engine_core.proofs.GatherLemmas.{going, input_is_fine, master_is_fine, old_runs}
use Rattle.run_end.proofs.CountedLemmas.{counted_more}
use Rattle.engine_core.proofs.KeepLemmas.{items_met}

-- all of a stream without frames was read
all_read : {I : Type 0} (inputs : SourceOutside I) (start : List ℕ) (blocks : ℕ) (x : InputState I) → IsReadTo inputs (record { start = start; blocks = blocks }) x → x.stream.frames ≡ 0 →
    x.done ≡ x.stream.frames
all_read inputs start blocks x read none = omega (arith, read.done, none)

-- a cycle leaves the number of the edition that was given last
entered_still : {I W : Type 0} (s : Session) (e : Edition) (answer : Result (Unit {0}) CycleFault) (p q : ProcessState I W) → OnOk answer (MakesEntry s e p q) → OnErr answer (HasStopped p q) → q.entered ≡ p.entered
entered_still {I} {W} s e (Ok x) p q made stopped = ap (λ (z : ProcessState I W). z.entered) made.same
entered_still {I} {W} s e (Err why) p q made stopped = ap (λ (z : ProcessState I W). z.entered) stopped

module _ {V I W : Type 0} (media : MediaOutside V) (inputs : SourceOutside I) (sinks : SinkOutside W) (on : Started V I W) (old : Run V I W) (is : IsUnderWay media inputs sinks on old)
    (in_cycle : old.pair.in_cycle ≡ true) (played : old.pair.process.entered ≡ length old.pair.playing.edits) (looked : HasLooked (playing_at (now_of on old)) old.pair.process) where
  -- the process hasn't stopped,
  goes : has_stopped old.failed ≡ false
  goes = going media inputs sinks on old is in_cycle

  -- and runs
  runs : Runs media inputs sinks (now_of on old) old.pair
  runs = old_runs media inputs sinks on old is in_cycle

  -- **A cycle may be made.**
  pub may_cycle : MayCycle media inputs sinks (now_of on old) old.pair
  may_cycle = record {
    runs = runs;
    in_cycle = in_cycle;
    given = ap (λ n. take n old.pair.edition.edits) played ∙ ap (take (length old.pair.playing.edits)) (sym runs.entered.begins.1)
        ∙ take-append_seam old.pair.playing.edits runs.entered.begins.0;
    looked = looked;
  }

  module _ (new : Pair V I W) (answer : Result (Unit {0}) CycleFault) (cycles : Cycles inputs sinks (now_of on old) old.pair answer new) where
    -- the run afterwards
    abbrev cycled : Failures → Run V I W
    cycled failed = record { pair = new; failed = failed }

    -- the place is the same
    played_same : given_last new ≡ given_last old.pair
    played_same = (λ i. take (cycles.met.process_is i).entered (cycles.same i).edition.edits)
        ∙ ap (λ n. take n old.pair.edition.edits) (entered_still on.begun.session old.pair.playing answer old.pair.process cycles.process cycles.made cycles.fault)

    -- the meeting changes nothing of the input,
    input_met : new.process.input ≡ cycles.process.input
    input_met = ap (λ (z : ProcessState I W). z.input) cycles.met.process_is

    -- and nothing of the master
    master_met : new.process.master ≡ cycles.process.master
    master_met = ap (λ (z : ProcessState I W). z.master) cycles.met.process_is

    -- all counts, by those of input and master
    counted : (failed : Failures) → failed.read ≡ old.failed.read → failed.write ≡ old.failed.write → IsFaultCount (inputs.faults on.input) (inputs.faults cycles.process.input.input) failed.input →
        IsFaultCount (sinks.faults on.master) (sinks.faults cycles.process.master.sink) failed.master → AreCounted media inputs sinks on (cycled failed)
    counted failed read write input master = record {
      reads = subst (λ (b : ButlerState V). IsFaultCount (media.read_faults on.media) (media.read_faults b.media) failed.read) (sym cycles.met.butler)
          (subst (IsFaultCount (media.read_faults on.media) (media.read_faults old.pair.butler.media)) (sym read) is.counts.reads);
      writes = subst (λ (b : ButlerState V). IsFaultCount (media.write_faults on.media) (media.write_faults b.media) failed.write) (sym cycles.met.butler)
          (subst (IsFaultCount (media.write_faults on.media) (media.write_faults old.pair.butler.media)) (sym write) is.counts.writes);
      inputs_are = subst (λ (z : InputState I). IsFaultCount (inputs.faults on.input) (inputs.faults z.input) failed.input) (sym input_met) input;
      masters = subst (λ (z : MasterState W). IsFaultCount (sinks.faults on.master) (sinks.faults z.sink) failed.master) (sym master_met) master;
      butler_reads = ap (λ (b : ButlerState V). b.hushed) cycles.met.butler ∙ is.counts.butler_reads ∙ sym read;
      butler_writes = ap (λ (b : ButlerState V). b.write_failed) cycles.met.butler ∙ is.counts.butler_writes ∙ sym write;
    }

    -- the same sources are open
    opened : new.butler.sources.opened ≡ on.opened
    opened = ap (λ (b : ButlerState V). b.sources.opened) cycles.met.butler ∙ is.opened

    -- no cycle is open any more
    shut : new.in_cycle ≡ false
    shut = ap (λ (p : Pair V I W). p.in_cycle) cycles.same

    -- its stream and its blocks are those of the run, and past its frames nothing was asked
    input_of : cycles.process.input.stream ≡ old.pair.process.input.stream → cycles.process.input.block ≡ old.pair.process.input.block →
        (old.pair.process.input.done ≡ old.pair.process.input.stream.frames → cycles.process.input.input ≡ old.pair.process.input.input) → IsInputOf on new.process.input
    input_of stream block ended = subst (IsInputOf on) (sym input_met) (record {
      stream = stream ∙ is.input.stream;
      block = block ∙ is.input.block;
      untouched = λ none. ended (all_read inputs on.begun.start (length old.pair.process.journal.items) old.pair.process.input runs.playing.read
          (ap (λ (x : StreamForm). x.frames) is.input.stream ∙ none)) ∙ is.input.untouched none;
    })

    -- ---- after a fault

    module _ (stopped : HasStopped old.pair.process cycles.process) where
      -- nothing was noted,
      journal_same : new.process.journal ≡ old.pair.process.journal
      journal_same = ap (λ (z : ProcessState I W). z.journal) cycles.met.process_is ∙ ap (λ (z : ProcessState I W). z.journal) stopped

      -- and nothing received
      items_same : items_of new.process ≡ items_of old.pair.process
      items_same = ap items_of cycles.met.process_is
          ∙ items_met cycles.process old.pair.butler.ends new.process.ends new.butler.ends
          (subst (λ (z : ProcessState I W). AreOtherEnds z.ends old.pair.butler.ends) (sym stopped) runs.serves.others) cycles.met.ends
          ∙ ap items_of stopped

      -- the rings have their depths
      depths_still : HaveDepths on.begun.session new.process.ends
      depths_still = depths_met on.begun.session cycles.process.ends new.process.ends old.pair.butler.ends new.butler.ends
          (subst (λ (z : ProcessState I W). AreOtherEnds z.ends old.pair.butler.ends) (sym stopped) runs.serves.others) cycles.met.ends
          (subst (λ (z : ProcessState I W). HaveDepths on.begun.session z.ends) (sym stopped) is.depths)

      -- where the master stands, it holds what it held
      mastered_still : cycles.process.master ≡ old.pair.process.master → IsMastered sinks (playing_at (now_of on old)) old.pair.process → (failed : Failures) →
          IsMastered sinks (playing_at (now_of on (cycled failed))) new.process
      mastered_still master was failed tells =
          subst (λ l. HoldsBlocks sinks (record { session = on.begun.session; edits = l; start = on.begun.start; before = on.begun.before }) new.process.journal.room (entries_of new.process)
          (items_of new.process) new.process.master.sink) (sym played_same)
          (subst (λ (m : MasterState W). HoldsBlocks sinks (playing_at (now_of on old)) new.process.journal.room (entries_of new.process) (items_of new.process) m.sink) (sym (master_met ∙ master))
          (subst (λ l. HoldsBlocks sinks (playing_at (now_of on old)) new.process.journal.room (entries_of new.process) l old.pair.process.master.sink) (sym items_same)
          (subst (λ j. HoldsBlocks sinks (playing_at (now_of on old)) j.room (entries_of (record new.process { journal = j })) (items_of old.pair.process) old.pair.process.master.sink) (sym journal_same)
          (was tells))))

      -- where a write of it failed, it was cut in this cycle
      cut_in_cycle : IsValid old.pair.playing.session → IsReadTo inputs (record { start = on.begun.start; blocks = suc (length old.pair.process.journal.items) }) cycles.process.input →
          (sinks.tells → AppendsSome (sinks.held old.pair.process.master.sink) (sinks.held cycles.process.master.sink) (next_bytes on.begun.session old.pair.playing old.pair.process)) →
          (failed : Failures) → IsCutInCycle inputs sinks (playing_at (now_of on (cycled failed))) new.process
      cut_in_cycle valid read front failed = subst (λ l. IsCutInCycle inputs sinks (record { session = on.begun.session; edits = l; start = on.begun.start; before = on.begun.before }) new.process)
          (sym played_same) (record {
            before = old.pair.process;
            edition = old.pair.playing;
            playing = runs.playing;
            looked = looked;
            edition_of = runs.entered.edition_of;
            valid = valid;
            given = sym may_cycle.given;
            unended = runs.entered.unended in_cycle;
            room = runs.entered.room in_cycle;
            mastered = runs.mastered refl;
            journal = journal_same;
            items = items_same;
            read = subst (λ j. IsReadTo inputs (record { start = on.begun.start; blocks = suc (length j.items) }) new.process.input) (sym journal_same)
                (subst (IsReadTo inputs (record { start = on.begun.start; blocks = suc (length old.pair.process.journal.items) })) (sym input_met) read);
            front = λ tells. subst (λ (m : MasterState W). AppendsSome (sinks.held old.pair.process.master.sink) (sinks.held m.sink) (next_bytes on.begun.session old.pair.playing old.pair.process))
                (sym master_met) (front tells);
          })

      -- where a read failed, the input is short
      short : (failed : Failures) → IsCutShort inputs old.pair.process.input cycles.process.input → InputIsShort inputs on (cycled failed)
      short failed lost = record {
        before = old.pair.process.input;
        of = is.input;
        read = subst (λ j. IsReadTo inputs (record { start = on.begun.start; blocks = length j.items }) old.pair.process.input) (sym journal_same) runs.playing.read;
        lost = subst (IsCutShort inputs old.pair.process.input) (sym input_met) lost;
      }

  -- ---- whatever was answered

  -- by what was answered
  under_way_by : IsValid old.pair.playing.session → (new : Pair V I W) (answer : Result (Unit {0}) CycleFault) → Cycles inputs sinks (now_of on old) old.pair answer new → OnOk answer (Runs media inputs sinks (now_of on old) new) →
      Rests media (now_of on old) new → HearsInput inputs (now_of on old) new → IsUnderWay media inputs sinks on (record { pair = new; failed = after_cycle answer old.failed })
  under_way_by valid new (Ok x) cycles ok rests hears = let now = now_runs media inputs sinks (now_of on old) new ok in record {
    rests = now_rests media (now_of on old) new rests;
    runs = λ still. now;
    shut = λ stopped. absurd (false≢true (sym goes ∙ stopped));
    counts = counted new (Ok x) cycles old.failed refl refl
        (subst (λ n. IsFaultCount (inputs.faults on.input) n old.failed.input) (sym cycles.reads.no_fault) is.counts.inputs_are)
        (subst (λ n. IsFaultCount (sinks.faults on.master) n old.failed.master) (sym cycles.writes.cause.kept) is.counts.masters);
    opened = opened new (Ok x) cycles;
    hears = hears;
    input = input_of new (Ok x) cycles cycles.reads.stream cycles.reads.block cycles.reads.ended;
    mastered = λ fine. now.mastered refl;
    cut = λ bad. absurd (master_is_fine old.failed goes bad);
    input_short = λ bad. absurd (input_is_fine old.failed goes bad);
    depths = depths_played inputs (playing_at (now_of on (record { pair = new; failed = old.failed }))) new.process now.playing;
  }
  under_way_by valid new (Err InputFault) cycles ok rests hears = record {
    rests = now_rests media (now_of on old) new rests;
    runs = λ still. absurd (false≢true (sym still));
    shut = λ stopped. shut new (Err InputFault) cycles;
    counts = counted new (Err InputFault) cycles (record old.failed { input = true }) refl refl
        (counted_more (inputs.faults on.input) (inputs.faults old.pair.process.input.input) (inputs.faults cycles.process.input.input) old.failed.input
        cycles.reads.later cycles.reads.rose is.counts.inputs_are)
        (subst (λ (m : MasterState W). IsFaultCount (sinks.faults on.master) (sinks.faults m.sink) old.failed.master) (sym cycles.writes) is.counts.masters);
    opened = opened new (Err InputFault) cycles;
    hears = hears;
    input = input_of new (Err InputFault) cycles cycles.reads.stream cycles.reads.block cycles.reads.ended;
    mastered = λ fine. mastered_still new (Err InputFault) cycles cycles.fault cycles.writes (is.mastered fine) (record old.failed { input = true });
    cut = λ bad. absurd (master_is_fine old.failed goes bad);
    input_short = λ bad. short new (Err InputFault) cycles cycles.fault (record old.failed { input = true }) cycles.reads.short;
    depths = depths_still new (Err InputFault) cycles cycles.fault;
  }
  under_way_by valid new (Err MasterFault) cycles ok rests hears = record {
    rests = now_rests media (now_of on old) new rests;
    runs = λ still. absurd (false≢true (sym still ∙ or_right old.failed.input true refl));
    shut = λ stopped. shut new (Err MasterFault) cycles;
    counts = counted new (Err MasterFault) cycles (record old.failed { master = true }) refl refl
        (subst (λ n. IsFaultCount (inputs.faults on.input) n old.failed.input) (sym cycles.reads.no_fault) is.counts.inputs_are)
        (counted_more (sinks.faults on.master) (sinks.faults old.pair.process.master.sink) (sinks.faults cycles.process.master.sink) old.failed.master
        cycles.writes.cause.later cycles.writes.cause.rose is.counts.masters);
    opened = opened new (Err MasterFault) cycles;
    hears = hears;
    input = input_of new (Err MasterFault) cycles cycles.reads.stream cycles.reads.block cycles.reads.ended;
    mastered = λ fine. absurd (false≢true (sym fine));
    cut = λ bad. inr (cut_in_cycle new (Err MasterFault) cycles cycles.fault valid cycles.reads.place cycles.writes.front (record old.failed { master = true }));
    input_short = λ bad. absurd (input_is_fine old.failed goes bad);
    depths = depths_still new (Err MasterFault) cycles cycles.fault;
  }

  -- **A run that made a cycle is under way.**
  pub under_way_cycled : IsValid old.pair.playing.session → (new : Pair V I W) (answer : Result (Unit {0}) CycleFault) (failed : Failures) → failed ≡ after_cycle answer old.failed → Cycles inputs sinks (now_of on old) old.pair answer new →
      OnOk answer (Runs media inputs sinks (now_of on old) new) → Rests media (now_of on old) new → HearsInput inputs (now_of on old) new →
      IsUnderWay media inputs sinks on (record { pair = new; failed = failed })
  under_way_cycled valid new answer failed same cycles ok rests hears = subst (λ (f : Failures). IsUnderWay media inputs sinks on (record { pair = new; failed = f })) (sym same)
      (under_way_by valid new answer cycles ok rests hears)
