-- A serial cycle makes an entry, or the process stops.
use Rattle.std.proofs.Common.{◌≡◌, inl, inr, suc, [], ◌∷◌, length, refl, sym, ap, arith, ◌∙◌, length-append}
use Rattle.std.specs.Prelude.{◌⊎◌, true, false, ◌&&◌, ◌||◌, not, nat_le, nat_lt, Result, Ok, Err}
use Rattle.std.proofs.lemmas.Bool.{and_from, false≢true, leb-false, lt-ltb, not_from_false, or_parts, or_right}
use Rattle.std.proofs.lemmas.List.{length-map, length-reverse}
use Rattle.ses_io.specs.Outside.{MediaOutside, SourceOutside, SinkOutside}
use Rattle.engine_model.specs.Edits.{has_quit}
use Rattle.engine_model.specs.Journal.{Entry}
use Rattle.edition_log.proofs.PlayLaws.{editions_play_their_places}
use Rattle.cycle_journal.specs.JournalView.{seen_entries, seen_entry}
use Rattle.process_cycle.specs.declared.fault.CycleFault.{CycleFault}
use Rattle.process_cycle.specs.declared.fault.CycleFault.TheVariants.{InputFault, MasterFault}
use Rattle.process_cycle.specs.ProcessState.{ProcessState, entries_of}
use Rattle.worker_pair.specs.Plays.{Cycles}
use Rattle.worker_pair.specs.Steps.{may_enter}
use Rattle.engine_core.specs.declared.run.Run.{Run}
use Rattle.run_end.specs.Failures.{after_cycle, has_stopped}
use Rattle.run_end.specs.Started.{Started}
use Rattle.engine_core.specs.Now.{is_played_out, now_of}
use Rattle.engine_core.specs.UnderWay.{IsUnderWay}
use Rattle.engine_core.specs.Letters.{CyclesOn, EntersOn}
use Rattle.engine_core.proofs.EnterLemmas.{either}
use Rattle.engine_core.specs.Shows.{made_of}
use Rattle.engine_core.specs.WentOn.{WentOn}
use Rattle.engine_core.proofs.GrowLemmas.{cycle_went}
use Rattle.engine_core.specs.Cycles.{IsServed, MakesAnEntry, MayPlay}
use Rattle.engine_core.proofs.ServeLemmas.{enters_none, gather_serves}

-- as many entries as the process noted
pub many_made : {I W : Type 0} (p : ProcessState I W) → length (entries_of p) ≡ length p.journal.items
many_made p = length-reverse (seen_entries p.journal.items) ∙ length-map p.journal.items seen_entry

-- where a cycle may be made, and none is open, the process may enter
pub may_enter_now : {V I W : Type 0} (old : Run V I W) → MayPlay old → old.pair.in_cycle ≡ false → may_enter old.pair ≡ true
may_enter_now {V} {I} {W} old may shut = let many = length old.pair.process.journal.items in let all = old.pair.process.journal.room in
    and_from (not old.pair.in_cycle && nat_lt many all) (not old.pair.playing.transport.quit)
    (and_from (not old.pair.in_cycle) (nat_lt many all) (not_from_false old.pair.in_cycle shut) (lt-ltb many all (leb-false all many room.0)))
    (not_from_false old.pair.playing.transport.quit room.1)
  where
    room : (nat_le old.pair.process.journal.room (length old.pair.process.journal.items) ≡ false) × (old.pair.playing.transport.quit ≡ false)
    room = or_parts (nat_le old.pair.process.journal.room (length old.pair.process.journal.items)) old.pair.playing.transport.quit
        (or_parts (has_stopped old.failed) (nat_le old.pair.process.journal.room (length old.pair.process.journal.items) || old.pair.playing.transport.quit) may.can_run).1

module _ {V I W : Type 0} (media : MediaOutside V) (inputs : SourceOutside I) (sinks : SinkOutside W) (on : Started V I W) where
  -- where a cycle may be made it is open once the process has entered
  pub entered_opens : (old entered : Run V I W) → MayPlay old → EntersOn old entered → IsUnderWay media inputs sinks on entered → entered.pair.in_cycle ≡ true
  entered_opens old entered may enters is = elim (either old.pair.in_cycle) [
    | inl opens ↦ ap (λ (r : Run V I W). r.pair.in_cycle) (enters_none old entered enters opens) ∙ opens
    | inr shut ↦ let e = enters.enters goes in e.opens (may_now shut) ∙ not_from_false entered.pair.playing.transport.quit (quits ∙ (λ i. has_quit (e.newest (may_now shut) i) (length (e.newest (may_now shut) i))) ∙ may.unquit)
  ]
    where
      goes : has_stopped old.failed ≡ false
      goes = (or_parts (has_stopped old.failed) (nat_le old.pair.process.journal.room (length old.pair.process.journal.items) || old.pair.playing.transport.quit) may.can_run).0

      may_now : old.pair.in_cycle ≡ false → may_enter old.pair ≡ true
      may_now = may_enter_now old may

      quits : entered.pair.playing.transport.quit ≡ has_quit entered.pair.playing.edits (length entered.pair.playing.edits)
      quits = (editions_play_their_places on.begun.session entered.pair.playing is.rests.entered.edition_of).quit

  -- ---- what is made of it

  made_by : (old gathered new : Run V I W) → length (made_of gathered) ≡ length (made_of old) → (answer : Result (Unit {0}) CycleFault) → Cycles inputs sinks (now_of on gathered) gathered.pair answer new.pair →
      new.failed ≡ after_cycle answer gathered.failed → MakesAnEntry old new
  made_by old gathered new same (Ok x) c failed = inl (omega (
    arith,
    ap (λ (z : ProcessState I W). length z.journal.items) c.met.process_is,
    ap length (ap (λ (j : _). j.items) c.made.noted),
    length-append gathered.pair.process.journal.items (c.made.made ∷ []),
    many_made new.pair.process,
    many_made gathered.pair.process,
    same,
  ))
  made_by old gathered new same (Err InputFault) c failed = inr (ap has_stopped failed)
  made_by old gathered new same (Err MasterFault) c failed = inr (ap has_stopped failed ∙ or_right gathered.failed.input true refl)

  pub cycle_makes : (old new : Run V I W) → old.pair.in_cycle ≡ true → CyclesOn inputs sinks on old new → MakesAnEntry old new
  cycle_makes old new opens cycles = let served = gather_serves old cycles.gathered cycles.gathers in let makes = cycles.cycles (served.stays_open opens) in
      made_by old cycles.gathered new (ap length served.made) makes.answer makes.cycles makes.failed

  -- ---- the whole of a serial cycle

  module _ (old served new : Run V I W) (can_run : is_played_out old ≡ false) (kept : IsServed old served) where
    went_by : WentOn served new → WentOn old new
    went_by went = record {
      edition = went.edition ∙ kept.edition;
      asked = went.asked ∙ kept.asked;
      grows = record { entries_are = entries went.grows.entries_are; stays_over = λ over. absurd (false≢true (sym can_run ∙ over)) };
      fine = λ fine. kept.fine (went.fine fine);
    }
      where
        entries : (made_of new ≡ made_of served) ⊎ ((e : Entry) × (made_of new ≡ e ∷ made_of served) × (is_played_out served ≡ false)) →
            (made_of new ≡ made_of old) ⊎ ((e : Entry) × (made_of new ≡ e ∷ made_of old) × (is_played_out old ≡ false))
        entries (inl same) = inl (same ∙ kept.made)
        entries (inr more) = inr (more.0, more.1 ∙ ap (λ l. more.0 ∷ l) kept.made, can_run)

    pub cycle_goes_on : IsUnderWay media inputs sinks on served → CyclesOn inputs sinks on served new → WentOn old new
    cycle_goes_on is cycles = went_by (cycle_went media inputs sinks on served new is cycles)

    pub cycle_is_made : served.pair.in_cycle ≡ true → CyclesOn inputs sinks on served new → MakesAnEntry old new
    cycle_is_made opens cycles = elim (cycle_makes served new opens cycles) [
      | inl one ↦ inl (one ∙ ap (λ l. suc (length l)) kept.made)
      | inr stopped ↦ inr stopped
    ]
