-- What is so of a run under way stands while its workers go on: what was received, and where master and input were cut off.
use Rattle.std.proofs.Common.{◌≡◌, inl, inr, suc, length, refl, sym, ap, subst, ◌∙◌}
use Rattle.std.specs.Prelude.{◌⊎◌, false}
use Rattle.ses_io.specs.FixedList.{Listed}
use Rattle.ses_io.specs.Streams.{AppendsSome}
use Rattle.ses_io.specs.Outside.{MediaOutside, SourceOutside, SinkOutside}
use Rattle.piece_item.specs.declared.butler_ends.ButlerEnds.{ButlerEnds}
use Rattle.cycle_journal.specs.declared.entry.Entry.{Entry}
use Rattle.input_blocks.specs.State.{IsReadTo, IsCutShort}
use Rattle.master_blocks.specs.Bytes.{head_bytes}
use Rattle.track_playback.specs.SpareBoxes.{received_items}
use Rattle.process_ends.specs.declared.ends.ProcessEnds.{ProcessEnds}
use Rattle.process_cycle.specs.Cycles.{next_bytes}
use Rattle.process_ends.specs.Ends.{AreOtherEnds, EndsMeet}
use Rattle.process_cycle.specs.ProcessState.{Playing, ProcessState, items_of}
use Rattle.worker_pair.specs.Begun.{At, headed}
use Rattle.worker_pair.specs.Runs.{Rests}
use Rattle.worker_pair.specs.Tied.{rings_of}
use Rattle.worker_pair.specs.declared.pair.Pair.{Pair}
use Rattle.worker_pair.proofs.EntryLemmas.{same_maps}
use Rattle.worker_pair.proofs.MetLemmas.{play_met}
use Rattle.worker_pair.proofs.NowLemmas.{serves_as}
use Rattle.run_end.specs.declared.failures.Failures.{Failures}
use Rattle.run_end.specs.Failures.{IsFaultCount}
use Rattle.run_end.proofs.CountedLemmas.{counted_still}
use Rattle.engine_core.specs.declared.run.Run.{Run}
use Rattle.run_end.specs.Started.{Started}
use Rattle.engine_core.specs.Now.{AreCounted}
use Rattle.process_cycle.specs.CutOff.{IsCutAtHead, IsCutInCycle}
use Rattle.engine_core.specs.UnderWay.{InputIsShort}

-- ---- what failed

-- nothing failed yet
abbrev pub none_failed : Failures
none_failed = record { input = false; master = false; read = false; write = false }

-- so it is where each is false
pub none_is : (f : Failures) → f.input ≡ false → f.master ≡ false → f.read ≡ false → f.write ≡ false → f ≡ none_failed
none_is f i m r w = ap (λ x. record f { input = x }) i ∙ ap (λ x. record f { input = false; master = x }) m ∙ ap (λ x. record { input = false; master = false; read = x; write = f.write }) r
    ∙ ap (λ x. record { input = false; master = false; read = false; write = x }) w

-- ---- what was received

-- a meeting changes nothing of it
pub items_met : {I W : Type 0} (q : ProcessState I W) (theirs : ButlerEnds) (ours_now : ProcessEnds) (theirs_now : ButlerEnds) → AreOtherEnds q.ends theirs → EndsMeet q.ends theirs ours_now theirs_now →
    items_of (record q { ends = ours_now }) ≡ items_of q
items_met q theirs ours_now theirs_now others meet = same_maps received_items received_items ours_now.plays.items q.ends.plays.items meet.plays.receivers
    (λ t b a hb ha. ap received_items (play_met q.ends ours_now theirs theirs_now others meet t a b ha hb))

-- ---- where master and input were cut off

module _ {I W : Type 0} where
  -- the master, where nothing was noted, received, read or written since
  pub cut_stands : (inputs : SourceOutside I) (sinks : SinkOutside W) (at : Playing) (p q : ProcessState I W) → q.journal ≡ p.journal → items_of q ≡ items_of p → q.input ≡ p.input →
      q.master.sink ≡ p.master.sink → IsCutAtHead inputs sinks at p ⊎ IsCutInCycle inputs sinks at p → IsCutAtHead inputs sinks at q ⊎ IsCutInCycle inputs sinks at q
  cut_stands inputs sinks at p q journal items input sink (inl cut) = inl record {
    none = ap (λ (j : Listed Entry). j.items) journal ∙ cut.none;
    read = subst (IsReadTo inputs (record { start = at.start; blocks = 0 })) (sym input) cut.read;
    front = λ tells. subst (λ n. AppendsSome at.before (sinks.held q.master.sink) (head_bytes at.session n)) (sym (ap (λ (j : Listed Entry). j.room) journal))
        (subst (λ w. AppendsSome at.before (sinks.held w) (head_bytes at.session p.journal.room)) (sym sink) (cut.front tells));
  }
  cut_stands inputs sinks at p q journal items input sink (inr cut) = inr record {
    before = cut.before;
    edition = cut.edition;
    playing = cut.playing;
    looked = cut.looked;
    edition_of = cut.edition_of;
    valid = cut.valid;
    given = cut.given;
    unended = cut.unended;
    room = cut.room;
    mastered = cut.mastered;
    journal = journal ∙ cut.journal;
    items = items ∙ cut.items;
    read = subst (λ (j : Listed Entry). IsReadTo inputs (record { start = at.start; blocks = suc (length j.items) }) q.input) (sym journal)
        (subst (IsReadTo inputs (record { start = at.start; blocks = suc (length p.journal.items) })) (sym input) cut.read);
    front = λ tells. subst (λ w. AppendsSome (sinks.held cut.before.master.sink) (sinks.held w) (next_bytes at.session cut.edition cut.before)) (sym sink) (cut.front tells);
  }

module _ {V I W : Type 0} where
  -- the input, where nothing was noted or read since
  pub short_stands : (inputs : SourceOutside I) (on : Started V I W) (r q : Run V I W) → q.pair.process.journal ≡ r.pair.process.journal → q.pair.process.input ≡ r.pair.process.input →
      InputIsShort inputs on r → InputIsShort inputs on q
  short_stands inputs on r q journal input short = record {
    before = short.before;
    of = short.of;
    read = subst (λ (j : Listed Entry). IsReadTo inputs (record { start = on.begun.start; blocks = length j.items }) short.before) (sym journal) short.read;
    lost = subst (IsCutShort inputs short.before) (sym input) short.lost;
  }

  -- the counts, where no media, input or master was called since
  pub counts_stand : (media : MediaOutside V) (inputs : SourceOutside I) (sinks : SinkOutside W) (on : Started V I W) (r q : Run V I W) → q.failed ≡ r.failed →
      q.pair.butler.media ≡ r.pair.butler.media → q.pair.butler.hushed ≡ r.pair.butler.hushed → q.pair.butler.write_failed ≡ r.pair.butler.write_failed →
      q.pair.process.input.input ≡ r.pair.process.input.input → q.pair.process.master.sink ≡ r.pair.process.master.sink → AreCounted media inputs sinks on r → AreCounted media inputs sinks on q
  counts_stand media inputs sinks on r q failed butler read write input sink c = record {
    reads = subst (λ f. IsFaultCount (media.read_faults on.media) (media.read_faults q.pair.butler.media) f.read) (sym failed)
        (counted_still (media.read_faults on.media) (media.read_faults r.pair.butler.media) (media.read_faults q.pair.butler.media) r.failed.read (ap media.read_faults butler) c.reads);
    writes = subst (λ f. IsFaultCount (media.write_faults on.media) (media.write_faults q.pair.butler.media) f.write) (sym failed)
        (counted_still (media.write_faults on.media) (media.write_faults r.pair.butler.media) (media.write_faults q.pair.butler.media) r.failed.write (ap media.write_faults butler) c.writes);
    inputs_are = subst (λ f. IsFaultCount (inputs.faults on.input) (inputs.faults q.pair.process.input.input) f.input) (sym failed)
        (counted_still (inputs.faults on.input) (inputs.faults r.pair.process.input.input) (inputs.faults q.pair.process.input.input) r.failed.input (ap inputs.faults input) c.inputs_are);
    masters = subst (λ f. IsFaultCount (sinks.faults on.master) (sinks.faults q.pair.process.master.sink) f.master) (sym failed)
        (counted_still (sinks.faults on.master) (sinks.faults r.pair.process.master.sink) (sinks.faults q.pair.process.master.sink) r.failed.master (ap sinks.faults sink) c.masters);
    butler_reads = read ∙ c.butler_reads ∙ sym (ap (λ f. f.read) failed);
    butler_writes = write ∙ c.butler_writes ∙ sym (ap (λ f. f.write) failed);
  }

  -- ---- behind the header

  -- workers that rest do so behind the header too
  pub rests_headed : (media : MediaOutside V) (at : At) (p : Pair V I W) → Rests media at p → Rests media (headed at) p
  rests_headed media at p rests = record {
    serves = serves_as media at (headed at) (rings_of p) refl refl rests.serves;
    entered = record {
      edition_of = rests.entered.edition_of;
      begins = rests.entered.begins;
      not_ended = rests.entered.not_ended;
      newest_not_ended = rests.entered.newest_not_ended;
      forms = rests.entered.forms;
      room = rests.entered.room;
      unended = rests.entered.unended;
      few = rests.entered.few;
      played = rests.entered.played;
    };
    control = rests.control;
    promises = rests.promises;
    master = rests.master;
    asked = rests.asked;
  }
