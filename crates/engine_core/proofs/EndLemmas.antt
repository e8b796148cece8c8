-- What a run leaves at its end: what is its own beside what every run leaves.
use Rattle.std.proofs.Common.{◌≡◌, ℕ, refl, sym, ap, subst, ◌∙◌}
use Rattle.std.specs.Prelude.{Bool, true, false, map, reverse, slice_get, Some}
use Rattle.std.proofs.lemmas.Bool.{true≢false}
use Rattle.ses_io.specs.FixedList.{Listed}
use Rattle.ses_io.specs.Outside.{MediaOutside, SourceOutside, SinkOutside}
use Rattle.session_model.specs.declared.session.Session.{Session}
use Rattle.machine_model.specs.Core.{AckRing, Core, TrackState}
use Rattle.piece_item.specs.Views.{ack_of}
use Rattle.cycle_journal.specs.declared.entry.Entry as made
use Rattle.cycle_journal.specs.JournalView.{seen_entries}
use Rattle.edition_log.specs.EditionState.{EditionState as Edition}
use Rattle.butler.specs.ButlerState.{ButlerState}
use Rattle.run_rings.specs.declared.joining.TrackRings.{TrackRings}
use Rattle.worker_pair.specs.declared.ending.Ending.{Ending}
use Rattle.worker_pair.specs.declared.ending.Stopped.{Stopped}
use Rattle.worker_pair.specs.declared.pair.Pair.{Pair}
use Rattle.worker_pair.specs.Closes.{Closes, ClosesAsMachine}
use Rattle.worker_pair.specs.Runs.{Serves}
use Rattle.worker_pair.specs.Tied.{AreRingsOf, IsTied}
use Rattle.run_end.specs.declared.failures.Failures.{Failures}
use Rattle.run_end.specs.declared.parting.RunEnd.{RunEnd}
use Rattle.run_end.specs.AtRest.{ProcessHasEnded}
use Rattle.run_end.specs.Depths.{HaveDepths}
use Rattle.run_end.specs.Failures.{IsFaultCount, nothing_failed}
use Rattle.run_end.specs.Left.{IsLeftByTurns, IsLeftOver, MediaIsCounted}
use Rattle.run_end.specs.Passed.{PassedOn}
use Rattle.run_end.specs.Started.{Started}
use Rattle.run_end.proofs.CountedLemmas.{counted_still}
use Rattle.run_end.proofs.FaultLemmas.{write_fine}
use Rattle.run_end.proofs.JoinLemmas.{joints}
use Rattle.engine_core.specs.declared.run.Run.{Run}
use Rattle.engine_core.specs.Ended.{AllAreCounted, GivesBack}
use Rattle.engine_core.specs.MachineEnds.{AreRingsOfTrack, DrainsFrom, EndsAsMachine, EndsAt}
use Rattle.engine_core.specs.Now.{now_of}
use Rattle.engine_core.specs.UnderWay.{IsUnderWay, IsWritten}
use Rattle.engine_core.proofs.CloseLemmas.{MayClose, has_ended, none_taken}
use Rattle.engine_core.proofs.DrainLemmas.{drains_from}

-- nothing has failed where the one that may have hasn't
all_fine : (a b : Failures) → b ≡ record a { write = b.write } → a.write ≡ b.write → nothing_failed b ≡ true → nothing_failed a ≡ true
all_fine a b same write fine = ap nothing_failed (ap (λ w. record a { write = w }) write ∙ sym same) ∙ fine

-- what had failed has failed
back : (was now : Bool) → (was ≡ true → now ≡ true) → now ≡ false → was ≡ now
back true now stays none = absurd (true≢false (sym (stays refl) ∙ none))
back false now stays none = sym none

module _ {V I W : Type 0} (media : MediaOutside V) (inputs : SourceOutside I) (sinks : SinkOutside W) (on : Started V I W) (run : Run V I W) (under : IsUnderWay media inputs sinks on run) (written : Run V I W)
    (is : IsWritten media inputs sinks on run written) (ending : Ending V) (stopped : Stopped I W) (closes : Closes written.pair ending stopped) where
  abbrev s : Session
  s = on.begun.session

  -- once its master was ended the process may end
  may_close : MayClose media inputs sinks on written
  may_close = record {
    rests = is.rests;
    counts = is.counts;
    opened = ap (λ (p : Pair V I W). p.butler.sources.opened) is.only ∙ under.opened;
    depths = subst (λ (p : Pair V I W). HaveDepths on.begun.session p.process.ends) (sym is.only) under.depths;
    hears = is.hears;
    input = is.input;
  }

  -- and it has
  pub may_leave : Serves media (now_of on written) ending → ProcessHasEnded media inputs on ending stopped written.failed
  may_leave serves = has_ended media inputs sinks on written may_close ending stopped closes serves

  module _ (ended : RunEnd V I W) (over : IsLeftOver ending stopped written.failed ended) where
    input_same : ended.failed.input ≡ run.failed.input
    input_same = ap (λ (f : Failures). f.input) over.failed ∙ ap (λ (f : Failures). f.input) is.failed

    pub gives_back : GivesBack media inputs sinks on run ended
    gives_back = record {
      written = written;
      is_written = is;
      master = over.master ∙ closes.master;
      master_failed = ap (λ (f : Failures). f.master) over.failed;
      input_failed = input_same;
      input = over.input ∙ closes.input ∙ ap (λ (p : Pair V I W). p.process.input.input) is.only;
      journal = over.journal ∙ closes.journal ∙ ap (λ (p : Pair V I W). p.process.journal) is.only;
      edits = over.edits ∙ ap (λ (e : Edition). e.edits) closes.edition ∙ ap (λ (p : Pair V I W). p.edition.edits) is.only;
      none_taken = over.received ∙ none_taken media inputs sinks on written may_close ending stopped closes;
    }

    pub counts : MediaIsCounted media on ended → AllAreCounted media inputs sinks on run ended
    counts counted = record {
      reads = counted.reads;
      writes = counted.writes;
      inputs_are = subst (IsFaultCount (inputs.faults on.input) (inputs.faults ended.input)) (sym (ap (λ (f : Failures). f.input) over.failed))
          (counted_still (inputs.faults on.input) (inputs.faults written.pair.process.input.input) (inputs.faults ended.input) written.failed.input (ap inputs.faults (over.input ∙ closes.input)) is.counts.inputs_are);
      masters = subst (IsFaultCount (sinks.faults on.master) (sinks.faults ended.master)) (sym (ap (λ (f : Failures). f.master) over.failed))
          (counted_still (sinks.faults on.master) (sinks.faults written.pair.process.master.sink) (sinks.faults ended.master) written.failed.master (ap sinks.faults (over.master ∙ closes.master)) is.counts.masters);
      read_still = λ failed. over.read_still (ap (λ (f : Failures). f.read) is.failed ∙ failed);
      write_still = λ failed. over.write_still (ap (λ (f : Failures). f.write) is.failed ∙ failed);
    }

    -- ---- the core machine

    tied_written : (d : Core) → IsTied s d run.pair → IsTied s d written.pair
    tied_written d tied = subst (IsTied s d) (sym is.only) (record {
      rings = record {
        edits = tied.rings.edits;
        entered = tied.rings.entered;
        many = tied.rings.many;
        tracks = tied.rings.tracks;
        acks = tied.rings.acks;
        taken = tied.rings.taken;
        none_read = tied.rings.none_read;
        none_written = tied.rings.none_written;
      };
      entries = tied.entries;
      playing = tied.playing;
      in_cycle = tied.in_cycle;
      control = tied.control;
      told_butler = tied.told_butler;
      told_control = tied.told_control;
    })

    module _ (by : IsLeftByTurns media on ending written.failed ended) (passed : PassedOn s ended.edits.items (seen_entries ended.journal.items) ended.rings.items) where
      -- the rings of a track that are left
      track_left : (x : TrackState) (t : ℕ) (r : TrackRings) (last : Core) → AreRingsOf s last by.last → slice_get last.tracks t ≡ Some x → slice_get ended.rings.items t ≡ Some r → AreRingsOfTrack x r
      track_left x t r last rings hx hr = let e = by.last in
          let j = joints e.butler.ends.sends.items e.ends.plays.items e.ends.takes.items e.butler.ends.takes.items t r (subst (λ l. slice_get l t ≡ Some r) by.rings hr) in
          let was = rings.tracks t x j.send j.play j.capture j.flush hx j.send_at j.play_at j.capture_at j.flush_at in
          subst (AreRingsOfTrack x) (sym j.is) (record { sent = was.sent; received = was.received; tails = was.tails; put = was.put; flushed = was.flushed; heads = was.heads })

      ends_at : (cycles : ℕ) (d : Core) → DrainsFrom s cycles d by.last → IsTied s d written.pair → d.to_control.sent ≡ reverse (map ack_of ending.ends.to_control.sent) → EndsAt s cycles d ended
      ends_at cycles d to tied control = record {
        last = to.last;
        turns = to.turns;
        drains = to.drains;
        left = record {
          edits = to.rings.edits ∙ sym by.edits;
          entries = to.entries ∙ tied.entries ∙ sym (ap (λ (j : Listed made.Entry). reverse (seen_entries j.items)) (over.journal ∙ closes.journal));
          many = to.rings.many ∙ sym passed.many;
          tracks = λ t x r hx hr. track_left x t r to.last to.rings hx hr;
          to_control = ap (λ (ring : AckRing). ring.sent) to.to_control ∙ control ∙ sym (ap (λ l. reverse (map ack_of l)) over.sent);
        };
      }

      -- **the end of a run in which nothing has failed is the core machine's**
      pub as_machine : ClosesAsMachine s written.pair ending → EndsAsMachine s run ended
      as_machine machine d fine tied = let then_tied = tied_written d tied in let left = machine d then_tied in
          subst (λ n. EndsAt s n d ended) (ap (λ (b : ButlerState V). b.cycles) closes.butler ∙ ap (λ (p : Pair V I W). p.butler.cycles) is.only)
          (ends_at ending.butler.cycles d (drains_from media on.begun by.turned.busy ending written.failed by.last by.noted by.turned.to d all left.0) then_tied left.1)
        where
          all : nothing_failed by.noted ≡ true
          all = all_fine by.noted ended.failed by.failed (back by.noted.write ended.failed.write by.write_still (write_fine ended.failed fine)) fine
