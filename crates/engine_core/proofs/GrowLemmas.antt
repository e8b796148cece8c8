-- What the letters of the workers leave of what control sees: one entry more at most, and none once no cycle can be made.
use Rattle.std.proofs.Common.{◌≡◌, inl, inr, [], ◌∷◌, ◌++◌, length, refl, sym, ap, subst, ◌∙◌}
use Rattle.std.specs.Prelude.{◌⊎◌, Bool, true, false, ◌&&◌, ◌||◌, not, nat_le, nat_lt, reverse, Result, Ok, Err}
use Rattle.std.proofs.lemmas.Bool.{and_parts, false≢true, lt-leb, ltb-true}
use Rattle.std.proofs.lemmas.List.{map-append, reverse-append}
use Rattle.ses_io.specs.FixedList.{Listed}
use Rattle.ses_io.specs.Outside.{MediaOutside, SourceOutside, SinkOutside}
use Rattle.engine_model.specs.Journal.{Entry}
use Rattle.cycle_journal.specs.declared.entry.Entry as journal
use Rattle.cycle_journal.specs.JournalView.{seen_entries, seen_entry}
use Rattle.butler.specs.declared.turning.Turn.{Turn}
use Rattle.butler.specs.declared.faults.ButlerFault.{ButlerFault}
use Rattle.butler.specs.declared.faults.ButlerFault.TheVariants.{ReadFault, WriteFault}
use Rattle.butler.specs.ButlerState.{ButlerState}
use Rattle.process_cycle.specs.declared.fault.CycleFault.{CycleFault}
use Rattle.process_cycle.specs.declared.fault.CycleFault.TheVariants.{InputFault, MasterFault}
use Rattle.process_cycle.specs.ProcessState.{ProcessState, entries_of}
use Rattle.worker_pair.specs.declared.ending.Ending.{Ending}
use Rattle.worker_pair.specs.declared.pair.Pair.{Pair}
use Rattle.worker_pair.specs.Plays.{Cycles}
use Rattle.worker_pair.specs.Steps.{may_enter}
use Rattle.run_end.specs.declared.failures.Failures.{Failures}
use Rattle.engine_core.specs.declared.run.Run.{Run}
use Rattle.run_end.specs.Failures.{after_cycle, after_turn, has_stopped, nothing_failed}
use Rattle.run_end.specs.Started.{Started}
use Rattle.engine_core.specs.Now.{is_played_out, now_of}
use Rattle.engine_core.specs.UnderWay.{IsUnderWay}
use Rattle.engine_core.specs.Letters.{CyclesOn, EntersOn, GathersOn, TurnsOn}
use Rattle.engine_core.proofs.EnterLemmas.{either}
use Rattle.engine_core.specs.Shows.{made_of}
use Rattle.engine_core.specs.WentOn.{WentOn}

-- ---- what failed

never_with_read : (i m w : Bool) → not (i || m || true || w) ≡ true → ⊥
never_with_read true m w e = false≢true e
never_with_read false true w e = false≢true e
never_with_read false false w e = false≢true e

never_with_write : (i m r : Bool) → not (i || m || r || true) ≡ true → ⊥
never_with_write true m r e = false≢true e
never_with_write false true r e = false≢true e
never_with_write false false true e = false≢true e
never_with_write false false false e = false≢true e

never_with_master : (i r w : Bool) → not (i || true || r || w) ≡ true → ⊥
never_with_master true r w e = false≢true e
never_with_master false r w e = false≢true e

-- where nothing has failed after a turn, nothing had before
turn_fine : (answer : Result Turn ButlerFault) (f : Failures) → nothing_failed (after_turn answer f) ≡ true → nothing_failed f ≡ true
turn_fine (Ok turn) f fine = fine
turn_fine (Err ReadFault) f fine = absurd (never_with_read f.input f.master f.write fine)
turn_fine (Err WriteFault) f fine = absurd (never_with_write f.input f.master f.read fine)

-- and so it is with a cycle
cycle_fine : (answer : Result (Unit {0}) CycleFault) (f : Failures) → nothing_failed (after_cycle answer f) ≡ true → nothing_failed f ≡ true
cycle_fine (Ok x) f fine = fine
cycle_fine (Err InputFault) f fine = absurd (false≢true fine)
cycle_fine (Err MasterFault) f fine = absurd (never_with_master f.input f.read f.write fine)

-- a turn stops no process
turn_stops : (answer : Result Turn ButlerFault) (f : Failures) → has_stopped (after_turn answer f) ≡ has_stopped f
turn_stops (Ok turn) f = refl
turn_stops (Err ReadFault) f = refl
turn_stops (Err WriteFault) f = refl

-- the entries with one more
pub more_made : {I W : Type 0} (p q : ProcessState I W) (made : journal.Entry) → q.journal ≡ record p.journal { items = p.journal.items ++ made ∷ [] } → entries_of q ≡ seen_entry made ∷ entries_of p
more_made p q made noted = ap (λ (j : Listed journal.Entry). reverse (seen_entries j.items)) noted ∙ ap reverse (map-append seen_entry p.journal.items (made ∷ []))
    ∙ reverse-append (seen_entries p.journal.items) (seen_entry made ∷ [])

-- ---- letters that make no entry

module _ {V I W : Type 0} where
  -- No entry was made, and where no cycle could be made none can.
  pub record Stays (old new : Run V I W) : Type 0 where
    pub edition : new.pair.edition ≡ old.pair.edition
    pub asked : new.pair.butler.cycles ≡ old.pair.butler.cycles
    pub made : made_of new ≡ made_of old
    pub over : is_played_out old ≡ true → is_played_out new ≡ true
    pub fine : nothing_failed new.failed ≡ true → nothing_failed old.failed ≡ true

  pub stays_went : (old new : Run V I W) → Stays old new → WentOn old new
  stays_went old new stays = record { edition = stays.edition; asked = stays.asked; grows = record { entries_are = inl stays.made; stays_over = stays.over }; fine = stays.fine }

  stays_by : (old new : Run V I W) → new ≡ old → Stays old new
  stays_by old new same = subst (Stays old) (sym same) (record { edition = refl; asked = refl; made = refl; over = λ e. e; fine = λ e. e })

  stays_on : (a b c : Run V I W) → Stays a b → Stays b c → Stays a c
  stays_on a b c one two = record {
    edition = two.edition ∙ one.edition;
    asked = two.asked ∙ one.asked;
    made = two.made ∙ one.made;
    over = λ e. two.over (one.over e);
    fine = λ e. one.fine (two.fine e);
  }

  -- ---- a turn

  pub turn_stays : (media : MediaOutside V) (on : Started V I W) (old new : Run V I W) (idle : Bool) → TurnsOn media on old idle new → Stays old new
  turn_stays media on old new idle turned = record {
    edition = ap (λ (p : Pair V I W). p.edition) turned.only;
    asked = ap (λ (e : Ending V). e.butler.cycles) turned.turns.same ∙ turned.turns.turn.rest.cycles;
    made = ap (λ (p : Pair V I W). entries_of p.process) turned.only;
    over = λ e. out ∙ e;
    fine = λ e. turn_fine turned.answer old.failed (sym (ap nothing_failed turned.failed) ∙ e);
  }
    where
      out : is_played_out new ≡ is_played_out old
      out = ap (λ b. b || (nat_le new.pair.process.journal.room (length new.pair.process.journal.items) || new.pair.playing.transport.quit)) (ap has_stopped turned.failed ∙ turn_stops turned.answer old.failed)
          ∙ ap (λ (p : Pair V I W). has_stopped old.failed || (nat_le p.process.journal.room (length p.process.journal.items) || p.playing.transport.quit)) turned.only

  -- ---- an entering

  -- where the process may enter, a cycle can be made unless it has stopped
  may_play : (r : Run V I W) → may_enter r.pair ≡ true → is_played_out r ≡ has_stopped r.failed
  may_play r may = let p = r.pair in
      let one = and_parts (not p.in_cycle && nat_lt (length p.process.journal.items) p.process.journal.room) (not p.playing.transport.quit) may in
      let two = and_parts (not p.in_cycle) (nat_lt (length p.process.journal.items) p.process.journal.room) one.0 in
      (λ i. has_stopped r.failed || (lt-leb p.process.journal.room (length p.process.journal.items) (ltb-true (length p.process.journal.items) p.process.journal.room two.1) i || unquit p.playing.transport.quit one.1 i))
      ∙ no_more (has_stopped r.failed)
    where
      unquit : (b : Bool) → not b ≡ true → b ≡ false
      unquit false e = refl
      unquit true e = absurd (false≢true e)

      no_more : (b : Bool) → (b || false) ≡ b
      no_more true = refl
      no_more false = refl

  pub enter_stays : (old new : Run V I W) → EntersOn old new → Stays old new
  enter_stays old new enters = elim (either (has_stopped old.failed)) [
    | inl stopped ↦ stays_by old new (enters.stays stopped)
    | inr goes ↦ let e = enters.enters goes in record {
      edition = ap (λ (p : Pair V I W). p.edition) e.same;
      asked = ap (λ (p : Pair V I W). p.butler.cycles) e.same;
      made = ap (λ (p : Pair V I W). entries_of p.process) e.same;
      over = λ over. elim (either (may_enter old.pair)) [
        | inl may ↦ absurd (false≢true (sym (may_play old may ∙ goes) ∙ over))
        | inr never ↦ (λ i. has_stopped (enters.failed i) || (nat_le (e.stays never i).process.journal.room (length (e.stays never i).process.journal.items) || (e.stays never i).playing.transport.quit)) ∙ over
      ];
      fine = λ fine. sym (ap nothing_failed enters.failed) ∙ fine;
    }
  ]

  -- ---- looks

  pub gather_stays : (old new : Run V I W) → GathersOn old new → Stays old new
  gather_stays old new gathers = stays_on old gathers.entered new (enter_stays old gathers.entered gathers.enters) (elim (either gathers.entered.pair.in_cycle) [
    | inr shut ↦ stays_by gathers.entered new (gathers.stays shut)
    | inl opens ↦ let l = gathers.looks opens in let failed = gathers.failed ∙ sym gathers.enters.failed in record {
      edition = ap (λ (p : Pair V I W). p.edition) l.same;
      asked = ap (λ (b : ButlerState V). b.cycles) l.met.butler;
      made = ap entries_of l.met.process_is ∙ ap (λ (z : ProcessState I W). entries_of z) l.keeps.same;
      over = λ over. (λ i. has_stopped (failed i) || (nat_le new.pair.process.journal.room (length new.pair.process.journal.items) || (l.same i).playing.transport.quit))
          ∙ ap (λ (j : Listed journal.Entry). has_stopped gathers.entered.failed || (nat_le j.room (length j.items) || gathers.entered.pair.playing.transport.quit))
          (ap (λ (z : ProcessState I W). z.journal) l.met.process_is ∙ ap (λ (z : ProcessState I W). z.journal) l.keeps.same) ∙ over;
      fine = λ fine. sym (ap nothing_failed failed) ∙ fine;
    }
  ])

  -- ---- a cycle

  module _ (media : MediaOutside V) (inputs : SourceOutside I) (sinks : SinkOutside W) (on : Started V I W) where
    -- where one is open after the look, one could be made before
    pub could_play : (old gathered : Run V I W) → IsUnderWay media inputs sinks on old → GathersOn old gathered → gathered.pair.in_cycle ≡ true → is_played_out old ≡ false
    could_play old gathered is gathers opens = elim (either (has_stopped old.failed)) [
      | inl stopped ↦ absurd (false≢true (sym (is.shut stopped) ∙ sym (ap (λ (r : Run V I W). r.pair.in_cycle) (gathers.enters.stays stopped)) ∙ entered_opens))
      | inr goes ↦ elim (either (may_enter old.pair)) [
        | inl may ↦ may_play old may ∙ goes
        | inr never ↦ let in_it : old.pair.in_cycle ≡ true = sym (ap (λ (p : Pair V I W). p.in_cycle) ((gathers.enters.enters goes).stays never)) ∙ entered_opens in
            (λ i. goes i || (lt-leb old.pair.process.journal.room (length old.pair.process.journal.items) (is.rests.entered.room in_it) i || is.rests.entered.unended in_it i))
      ]
    ]
      where
        entered_opens : gathers.entered.pair.in_cycle ≡ true
        entered_opens = elim (either gathers.entered.pair.in_cycle) [
          | inl is ↦ is
          | inr shut ↦ absurd (false≢true (sym (ap (λ (r : Run V I W). r.pair.in_cycle) (gathers.stays shut) ∙ shut) ∙ opens))
        ]

    -- by what a cycle answers
    cycled : (old gathered new : Run V I W) → is_played_out old ≡ false → Stays old gathered → (answer : Result (Unit {0}) CycleFault) → Cycles inputs sinks (now_of on gathered) gathered.pair answer new.pair →
        new.failed ≡ after_cycle answer gathered.failed → WentOn old new
    cycled old gathered new plays before answer c failed = record {
      edition = ap (λ (p : Pair V I W). p.edition) c.same ∙ before.edition;
      asked = ap (λ (b : ButlerState V). b.cycles) c.met.butler ∙ before.asked;
      grows = record { entries_are = by answer c; stays_over = λ over. absurd (false≢true (sym plays ∙ over)) };
      fine = λ fine. before.fine (cycle_fine answer gathered.failed (sym (ap nothing_failed failed) ∙ fine));
    }
      where
        by : (answer : Result (Unit {0}) CycleFault) → Cycles inputs sinks (now_of on gathered) gathered.pair answer new.pair →
            (made_of new ≡ made_of old) ⊎ ((e : Entry) × (made_of new ≡ e ∷ made_of old) × (is_played_out old ≡ false))
        by (Ok x) c = inr (seen_entry c.made.made, ap entries_of c.met.process_is ∙ more_made gathered.pair.process c.process c.made.made c.made.noted ∙ ap (λ l. seen_entry c.made.made ∷ l) before.made, plays)
        by (Err InputFault) c = inl (ap entries_of c.met.process_is ∙ ap (λ (z : ProcessState I W). entries_of z) c.fault ∙ before.made)
        by (Err MasterFault) c = inl (ap entries_of c.met.process_is ∙ ap (λ (z : ProcessState I W). entries_of z) c.fault ∙ before.made)

    pub cycle_went : (old new : Run V I W) → IsUnderWay media inputs sinks on old → CyclesOn inputs sinks on old new → WentOn old new
    cycle_went old new is cycles = elim (either cycles.gathered.pair.in_cycle) [
      | inr shut ↦ subst (WentOn old) (sym (cycles.stays shut)) (stays_went old cycles.gathered (gather_stays old cycles.gathered cycles.gathers))
      | inl opens ↦ let made = cycles.cycles opens in
          cycled old cycles.gathered new (could_play old cycles.gathered is cycles.gathers opens) (gather_stays old cycles.gathered cycles.gathers) made.answer made.cycles made.failed
    ]
