-- A run shows to control what a state of the core machine shows.
use Rattle.std.proofs.Common.{◌≡◌, ℕ, List, length, refl, sym, ap, ◌∙◌, arith}
use Rattle.std.specs.Prelude.{Bool, true, false, ◌||◌, not, nat_le, suc}
use Rattle.std.proofs.lemmas.Bool.{false≢true, le-leb, lt-leb, or_parts}
use Rattle.std.proofs.lemmas.List.{length-map, length-reverse}
use Rattle.ses_io.specs.Outside.{MediaOutside, SourceOutside, SinkOutside}
use Rattle.session_model.specs.declared.session.Session.{Session}
use Rattle.session_model.specs.declared.edit.Edit.{Edit}
use Rattle.engine_model.specs.Edits.{has_quit}
use Rattle.engine_model.specs.Journal.{Entry}
use Rattle.machine_model.specs.Core.{Core}
use Rattle.machine_model.specs.Control as machine
use Rattle.edition_log.proofs.PlayLaws.{editions_play_their_places}
use Rattle.cycle_journal.specs.JournalView.{seen_entries, seen_entry}
use Rattle.process_cycle.specs.ProcessState.{ProcessState, entries_of}
use Rattle.control_desk.specs.Seen.{IsSeenOf, last_settled}
use Rattle.control_letter.specs.Shown.{shown_core, shown_cycles}
use Rattle.worker_pair.specs.Tied.{IsTied}
use Rattle.worker_pair.proofs.LongerLemmas.{quit_longer}
use Rattle.engine_core.specs.declared.run.Run.{Run}
use Rattle.run_end.specs.Failures.{has_stopped, nothing_failed}
use Rattle.run_end.specs.Started.{Started}
use Rattle.engine_core.specs.Now.{is_played_out}
use Rattle.engine_core.specs.UnderWay.{IsUnderWay}
use Rattle.engine_core.specs.Shows.{edits_of, made_of, shows}

-- a state that shows that no cycle can be made, or that one can
pub shown_over : (s : Session) (edits : List Edit) (over : Bool) (entries : List Entry) → machine.is_played_out (shown_cycles over entries) (shown_core s edits entries) ≡ over
shown_over s edits true entries = ap (λ b. b || false) (le-leb 0 (length entries) (omega arith))
shown_over s edits false entries = ap (λ b. b || false) (lt-leb (suc (length entries)) (length entries) (omega arith))

-- as many entries as the process noted
many_made : {I W : Type 0} (p : ProcessState I W) → length (entries_of p) ≡ length p.journal.items
many_made p = length-reverse (seen_entries p.journal.items) ∙ length-map p.journal.items seen_entry

-- nothing has failed, so the process hasn't stopped
fine_goes : (i m r w : Bool) → (i || m || r || w) ≡ false → (i || m) ≡ false
fine_goes i m r w none = (or_parts (i || m) r (or_parts (i || m || r) w none).0).0

module _ {V I W : Type 0} (s : Session) where
  -- it shows what any state with its edits and entries shows,
  pub shown_of : (r : Run V I W) → IsSeenOf (shown_cycles (is_played_out r) (made_of r)) (shown_core s (edits_of r) (made_of r)) (shows r)
  shown_of r = record { edits = refl; entries = sym (many_made r.pair.process); settled = refl; played_out = sym (shown_over s (edits_of r) (is_played_out r) (made_of r)) }

  -- and what the core machine shows where it has gone the same way
  pub seen_of : (media : MediaOutside V) (inputs : SourceOutside I) (sinks : SinkOutside W) (on : Started V I W) (r : Run V I W) → on.begun.session ≡ s → IsUnderWay media inputs sinks on r →
      (k : ℕ) (c : Core) → r.pair.butler.cycles ≡ k → nothing_failed r.failed ≡ true → IsTied s c r.pair → IsSeenOf k c (shows r)
  seen_of media inputs sinks on r same is k c asked fine tied = record {
    edits = ap length (sym tied.rings.edits);
    entries = sym (many_made r.pair.process) ∙ ap length (sym tied.entries);
    settled = ap (λ l. last_settled l) (sym tied.entries);
    played_out = (λ i. goes i || (nat_le (room i) (many i) || quits i));
  }
    where
      goes : has_stopped r.failed ≡ false
      goes = fine_goes r.failed.input r.failed.master r.failed.read r.failed.write (not_so (r.failed.input || r.failed.master || r.failed.read || r.failed.write) fine)
        where
          not_so : (b : Bool) → not b ≡ true → b ≡ false
          not_so false e = refl
          not_so true e = absurd (false≢true e)

      room : r.pair.process.journal.room ≡ k
      room = is.rests.asked ∙ asked

      many : length r.pair.process.journal.items ≡ length c.entries
      many = sym (many_made r.pair.process) ∙ ap length (sym tied.entries)

      quits : r.pair.playing.transport.quit ≡ has_quit c.edits c.playing
      quits = (editions_play_their_places on.begun.session r.pair.playing is.rests.entered.edition_of).quit ∙ sym (quit_longer r.pair.playing.edits r.pair.edition.edits is.rests.entered.begins)
          ∙ (λ i. has_quit (sym tied.rings.edits i) (sym tied.playing i))
