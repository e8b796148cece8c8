-- Why the process's thread leaves what it promises, by why no further cycle was made.
use Rattle.std.proofs.Common.{◌≡◌, inl, inr, ℕ, suc, [], length, refl, sym, ap, ◌∙◌, subst, arith}
use Rattle.std.specs.Prelude.{Some, false, reverse, take, Ok, Err}
use Rattle.ses_io.specs.Faults.{HasCause}
use Rattle.ses_io.specs.Outside.{SourceOutside, SinkOutside, Writes}
use Rattle.ses_io.specs.Streams.{AppendsSome}
use Rattle.cycle_journal.specs.JournalView.{seen_entries}
use Rattle.input_blocks.specs.State.{InputState, IsReadTo}
use Rattle.master_blocks.specs.Bytes.{head_bytes}
use Rattle.process_cycle.specs.declared.fault.CycleFault.{CycleFault}
use Rattle.process_cycle.specs.declared.fault.CycleFault.TheVariants.{InputFault, MasterFault}
use Rattle.process_cycle.specs.Looked.{HasLooked}
use Rattle.process_cycle.specs.Playing.{IsPlaying}
use Rattle.process_cycle.specs.ProcessState.{Playing, ProcessState, entered, items_of}
use Rattle.process_cycle.specs.Promised.{IsMastered}
use Rattle.track_playback.specs.SpareBoxes.{received_kinds}
use Rattle.cycle_grants.specs.Allowed.{KeepsAllowances}
use Rattle.cycle_grants.specs.Patience.{IsWaitedFor}
use Rattle.play_worker.specs.Patient.{IsPatient}
use Rattle.cycle_grants.proofs.AllowedLemmas.{no_entry_is_allowed_yet}
use Rattle.play_worker.specs.declared.told.Told.{Told}
use Rattle.play_worker.specs.declared.worker.PlayWorker.{PlayWorker}
use Rattle.play_worker.specs.declared.worker.Ended.{Ended}
use Rattle.play_worker.specs.declared.worker.Ended.TheVariants.{All, Quit, Refused, Stopped}
use Rattle.play_worker.specs.Leaves.{InputGives, IsReady, IsWhy, MasterStands, PlaysNoMore, first_at, input_answered, is_cut, master_answered}
use Rattle.play_worker.specs.Plays.{Plays, PlaysAt, RestsAt, StepLeaves, Stops, at_now}
use Rattle.play_worker.proofs.FaultLemmas.{idle, looked_input, none_failed}
use Rattle.play_worker.proofs.PlaysLemmas.{by_number}

module _ {I W : Type 0} (inputs : SourceOutside I) (sinks : SinkOutside W) (patience : ℕ) where
  -- ---- where the process might have gone on

  rests : (at : Playing) (w : PlayWorker I W) → PlaysAt patience inputs sinks at w → RestsAt patience inputs at w
  rests at w plays = record {
    reader_of = plays.reader_of;
    begins = plays.begins;
    numbered = plays.playing.entered;
    promises = plays.playing.promises;
    hears = plays.playing.hears;
    master_of = plays.playing.master;
    cycles = plays.playing.cycles;
    patient = plays.patient;
    allowed = plays.allowed;
  }

  no_more : (at : Playing) (ended : Ended) (w : PlayWorker I W) → PlaysAt patience inputs sinks at w → IsWhy ended w → InputGives inputs at ended w.process → input_answered ended ≡ Ok tt → is_cut ended ≡ false →
      PlaysNoMore patience inputs sinks at ended w
  no_more at ended w plays why gives fine uncut = record {
    rests = rests at w plays;
    why = why;
    input = record {
      gives = gives;
      faults = subst (HasCause (inputs.faults w.told.input.value) (inputs.faults w.process.input.input)) (sym fine) (none_failed _ _ tt plays.unfailed.input);
      untouched = plays.unfailed.untouched;
    };
    master = subst (λ cut. MasterStands inputs sinks at cut w.process) (sym uncut) plays.mastered;
    master_faults = subst (λ cut. HasCause (sinks.faults w.told.sink.value) (sinks.faults w.process.master.sink) (master_answered cut)) (sym uncut) (none_failed _ _ tt plays.unfailed.master);
  }

  -- ---- where a cycle has failed

  module _ (at : Playing) (why : CycleFault) (w : PlayWorker I W) (stops : Stops patience inputs sinks at why w) where
    abbrev looked : ProcessState I W
    looked = stops.cycle.looked

    told_is : w.told ≡ stops.before.told
    told_is = ap (λ (x : PlayWorker I W). x.told) stops.same

    input_is : looked.input ≡ stops.before.process.input
    input_is = looked_input inputs stops.before.process looked stops.cycle.keeps

    -- by the counts as the run began
    input_counted : inputs.faults looked.input.input ≡ inputs.faults w.told.input.value
    input_counted = ap (λ (x : InputState I). inputs.faults x.input) input_is ∙ stops.plays.unfailed.input ∙ ap (λ (t : Told I W). inputs.faults t.input.value) (sym told_is)

    master_counted : sinks.faults looked.master.sink ≡ sinks.faults w.told.sink.value
    master_counted = ap (λ (p : ProcessState I W). sinks.faults p.master.sink) stops.cycle.keeps.same ∙ stops.plays.unfailed.master ∙ ap (λ (t : Told I W). sinks.faults t.sink.value) (sym told_is)

    untouched_by : w.process.input.stream ≡ looked.input.stream → (looked.input.done ≡ looked.input.stream.frames → w.process.input.input ≡ looked.input.input) → w.process.input.stream.frames ≡ 0 →
        w.process.input.input ≡ w.told.input.value
    untouched_by stream ended none = let before : looked.input.stream.frames ≡ 0 = ap (λ s. s.frames) (sym stream) ∙ none in
        ended (idle inputs _ looked stops.cycle.may.playing before) ∙ ap (λ (x : InputState I). x.input) input_is ∙
        stops.plays.unfailed.untouched (ap (λ (x : InputState I). x.stream.frames) (sym input_is) ∙ before) ∙ ap (λ (t : Told I W). t.input.value) (sym told_is)

    -- the edits of that cycle are those in which it looked last
    at_is : entered stops.before.reader.edition.edits (entered stops.was at) ≡ at
    at_is = ap (λ es. entered es at) stops.given

  input_failed : (at : Playing) (w : PlayWorker I W) → RestsAt patience inputs at w → Stops patience inputs sinks at InputFault w → PlaysNoMore patience inputs sinks at (Stopped InputFault) w
  input_failed at w is stops = let cycle = stops.cycle in let p = cycle.looked in let reads = cycle.reads in let journal : w.process.journal ≡ p.journal = ap (λ (q : ProcessState I W). q.journal) cycle.fault in record {
    rests = is;
    why = tt;
    input = record {
      gives = record {
        before = p.input;
        read = subst (λ j. IsReadTo inputs (record { start = at.start; blocks = length j.items }) p.input) (sym journal) cycle.may.playing.read;
        stream = reads.stream;
        block = reads.block;
        lost = reads.short;
      };
      faults = let was = input_counted at InputFault w stops in record {
        later = omega (arith, was, reads.later);
        kept = tt;
        rose = omega (arith, was, reads.rose);
      };
      untouched = untouched_by at InputFault w stops reads.stream reads.ended;
    };
    master = subst (λ a. IsMastered sinks a w.process) (at_is at InputFault w stops) (subst (λ (q : ProcessState I W). IsMastered sinks (entered stops.before.reader.edition.edits (entered stops.was at)) q)
        (sym (cycle.fault ∙ ap (λ m. record p { input = w.process.input; master = m }) cycle.writes)) cycle.mastered);
    master_faults = none_failed _ _ tt (ap (λ m. sinks.faults m.sink) cycle.writes ∙ master_counted at InputFault w stops);
  }

  master_failed : (at : Playing) (w : PlayWorker I W) → RestsAt patience inputs at w → Stops patience inputs sinks at MasterFault w → PlaysNoMore patience inputs sinks at (Stopped MasterFault) w
  master_failed at w is stops = let cycle = stops.cycle in let p = cycle.looked in let reads = cycle.reads in let journal : w.process.journal ≡ p.journal = ap (λ (q : ProcessState I W). q.journal) cycle.fault in
      let same = at_is at MasterFault w stops in record {
        rests = is;
        why = tt;
        input = record {
          gives = tt;
          faults = none_failed _ _ tt (reads.no_fault ∙ input_counted at MasterFault w stops);
          untouched = untouched_by at MasterFault w stops reads.stream reads.ended;
        };
        master = inr (record {
          before = p;
          edition = stops.before.reader.edition;
          playing = subst (λ a. IsPlaying inputs a p) same cycle.may.playing;
          looked = subst (λ a. HasLooked a p) same cycle.may.looked;
          edition_of = cycle.may.edition;
          valid = cycle.valid;
          given = stops.given;
          unended = cycle.may.unended;
          room = cycle.may.room;
          mastered = subst (λ a. IsMastered sinks a p) same cycle.mastered;
          journal = journal;
          items = ap (λ (q : ProcessState I W). items_of q) cycle.fault;
          read = subst (λ j. IsReadTo inputs (record { start = at.start; blocks = suc (length j.items) }) w.process.input) (sym journal) reads.place;
          front = cycle.writes.front;
        });
        master_faults = let was = master_counted at MasterFault w stops in record {
          later = omega (arith, was, cycle.writes.cause.later);
          kept = tt;
          rose = omega (arith, was, cycle.writes.cause.rose);
        };
      }

  -- **By why.**
  pub plays_no_more : (at : Playing) (ended : Ended) (w : PlayWorker I W) → StepLeaves patience inputs sinks at (Some ended) w → PlaysNoMore patience inputs sinks at ended w
  plays_no_more at All w left = no_more at All w left.0 left.1 left.0.playing.read refl refl
  plays_no_more at Quit w left = no_more at Quit w left.0 left.1 left.0.playing.read refl refl
  plays_no_more at Refused w left = no_more at Refused w left tt left.playing.read refl refl
  plays_no_more at (Stopped InputFault) w left = input_failed at w left.0 left.1
  plays_no_more at (Stopped MasterFault) w left = master_failed at w left.0 left.1

  -- ---- the header

  module _ (w : PlayWorker I W) (ready : IsReady inputs sinks w) (p : ProcessState I W) (same : p ≡ record w.process { master = record w.process.master { sink = p.master.sink } })
      (playing : IsPlaying inputs (first_at inputs sinks w) p) where
    abbrev headed : PlayWorker I W
    headed = record w { process = p }

    abbrev first : Playing
    first = first_at inputs sinks w

    none_made : p.journal.items ≡ []
    none_made = ap (λ (q : ProcessState I W). q.journal.items) same ∙ ready.none

    -- it has looked in none
    pub first_now : at_now inputs sinks headed ≡ first
    first_now = ap (λ es. record first { edits = es }) (ap (λ n. take n w.reader.edition.edits) playing.entered)

    none_allowed : KeepsAllowances patience (seen_entries p.journal.items) w.grants
    none_allowed = subst (λ l. KeepsAllowances patience (seen_entries l) w.grants) (sym none_made) (no_entry_is_allowed_yet patience w.grants ready.waits)

    none_missed : IsPatient patience first p
    none_missed unended t r h = subst (λ l. IsWaitedFor patience [] first.session.depth t (received_kinds r) r.tails (reverse (seen_entries l))) (sym none_made) refl

    input_same : p.input ≡ w.process.input
    input_same = ap (λ (q : ProcessState I W). q.input) same

    input_told : p.input.input ≡ w.told.input.value
    input_told = ap (λ (x : InputState I). x.input) input_same ∙ ready.input_is

    -- with its header it plays,
    pub plays_first : IsMastered sinks first p → sinks.faults p.master.sink ≡ sinks.faults w.process.master.sink → Plays patience inputs sinks headed
    plays_first mastered kept = by_number inputs sinks first patience headed (record {
      reader_of = ready.reader_of;
      begins = (w.reader.edition.edits, refl);
      playing = playing;
      mastered = mastered;
      patient = none_missed;
      allowed = none_allowed;
      unfailed = record {
        input = ap inputs.faults input_told;
        master = kept ∙ ap sinks.faults ready.sink_is;
        untouched = λ none. input_told;
      };
    })

    -- and without it, it plays nothing
    pub head_failed : (why : CycleFault) → why ≡ MasterFault → Writes {E = CycleFault} sinks (head_bytes first.session w.process.journal.room) w.process.master.sink p.master.sink (Err why) →
        PlaysNoMore patience inputs sinks (at_now inputs sinks headed) (Stopped why) headed
    head_failed why is writes = subst (λ a. PlaysNoMore patience inputs sinks a (Stopped why) headed) (sym first_now) (subst (λ y. PlaysNoMore patience inputs sinks first (Stopped y) headed) (sym is) (record {
      rests = record {
        reader_of = ready.reader_of;
        begins = (w.reader.edition.edits, refl);
        numbered = playing.entered;
        promises = playing.promises;
        hears = playing.hears;
        master_of = playing.master;
        cycles = playing.cycles;
        patient = none_missed;
        allowed = none_allowed;
      };
      why = tt;
      input = record { gives = tt; faults = none_failed _ _ tt (ap inputs.faults input_told); untouched = λ none. input_told };
      master = inl (record {
        none = none_made;
        read = subst (λ l. IsReadTo inputs (record { start = first.start; blocks = length l }) p.input) none_made playing.read;
        front = λ tells. subst (λ b. AppendsSome b (sinks.held p.master.sink) (head_bytes first.session p.journal.room)) (ap sinks.held ready.sink_is)
            (subst (λ (q : ProcessState I W). AppendsSome (sinks.held w.process.master.sink) (sinks.held p.master.sink) (head_bytes first.session q.journal.room)) (sym same) (writes.front tells));
      });
      master_faults = let was = ap sinks.faults ready.sink_is in record {
        later = omega (arith, was, writes.cause.later);
        kept = tt;
        rose = omega (arith, was, writes.cause.rose);
      };
    }))
