-- What is so of a run without letters stays so, by a cycle and by a line.
use Rattle.std.proofs.Common.{◌≡◌, inl, inr, ℕ, List, [], ◌∷◌, length, refl, sym, ap, subst, arith, ◌∙◌}
use Rattle.std.specs.Prelude.{◌⊎◌, true, false, ◌||◌, nat_le, Result, Ok, Err}
use Rattle.std.proofs.lemmas.Bool.{or_from, or_parts, true≢false}
use Rattle.std.proofs.lemmas.Option.{none-some, same_Some}
use Rattle.ses_io.specs.Outside.{MediaOutside, SourceOutside, SinkOutside}
use Rattle.session_model.specs.declared.session.Session.{Session}
use Rattle.session_model.specs.declared.edit.Edit.{Edit}
use Rattle.engine_model.specs.Edits.{has_quit}
use Rattle.engine_model.specs.Journal.{Entry}
use Rattle.engine_model.specs.Lines.{Line}
use Rattle.engine_model.specs.Replies.{Reply}
use Rattle.machine_model.specs.Control.{Awaited, Entries, SettledIn, is_last_settled}
use Rattle.edition_log.specs.EditionState.{EditionState}
use Rattle.cycle_journal.specs.JournalView.{seen_entry}
use Rattle.process_cycle.specs.declared.fault.CycleFault.{CycleFault}
use Rattle.process_cycle.specs.declared.fault.CycleFault.TheVariants.{InputFault, MasterFault}
use Rattle.process_cycle.specs.ProcessState.{ProcessState, entries_of}
use Rattle.control_desk.specs.Seen.{is_settled_by, last_settled}
use Rattle.control_desk.specs.Standing as desk
use Rattle.control_desk.specs.Standing.{Awaits, Ended, Ready, awaits_of, is_ended}
use Rattle.control_letter.specs.Shown.{shown_core, standing_by}
use Rattle.serial_laws.specs.Paced.{IsNext, has_come}
use Rattle.serial_laws.proofs.PacedLemmas.{each_entry_is_paced, it_is_paced_still}
use Rattle.worker_pair.specs.declared.pair.Pair.{Pair}
use Rattle.worker_pair.specs.Plays.{Cycles, Looks}
use Rattle.engine_core.specs.declared.run.Run.{Run}
use Rattle.engine_core.specs.Cycles.{IsServed, MayPlay}
use Rattle.engine_core.specs.Due.{is_line_due}
use Rattle.run_end.specs.Failures.{has_stopped}
use Rattle.engine_core.specs.Letters.{CyclesOn, EntersOn, MakesCycle}
use Rattle.engine_core.specs.Fed.{PlayAsPlain, PlaysPlain}
use Rattle.engine_core.specs.Lost.{LosesNone}
use Rattle.engine_core.specs.Serial.{KeepsUp, PlaysNewest}
use Rattle.engine_core.specs.Shows.{edits_of, made_of, shows}
use Rattle.run_end.specs.Started.{Started}
use Rattle.engine_core.specs.Now.{is_played_out, now_of}
use Rattle.engine_core.specs.UnderWay.{IsUnderWay}
use Rattle.engine_core.specs.WentOn.{WentOn}
use Rattle.engine_core.proofs.FedBeginLemmas.{plain_with}
use Rattle.engine_core.proofs.GrowLemmas.{more_made}
use Rattle.engine_core.proofs.SerialCycleLemmas.{many_made, may_enter_now}
use Rattle.engine_core.proofs.ServeLemmas.{enters_none, gather_serves}

-- ---- the edition of a serial cycle

-- the edition of an entry that was made
edition_by : (e x : Entry) (before now : List Entry) → now ≡ x ∷ before → now ≡ e ∷ before → x.edition ≡ e.edition
edition_by e x before now one two = ap head (sym one ∙ two)
  where
    head : List Entry → ℕ
    head [] = 0
    head (y ∷ ys) = y.edition

longer : (e : Entry) (before : List Entry) → before ≡ e ∷ before → ⊥
longer e before same = omega (arith, ap length same)

module _ {V I W : Type 0} where
  module _ (media : MediaOutside V) (inputs : SourceOutside I) (sinks : SinkOutside W) (on : Started V I W) (old entered served new : Run V I W) (may : MayPlay old) (enters : EntersOn old entered)
      (kept : IsServed entered served) (is : IsUnderWay media inputs sinks on served) (opens : entered.pair.in_cycle ≡ true) (cycles : CyclesOn inputs sinks on served new) where
    opens_now : served.pair.in_cycle ≡ true
    opens_now = kept.stays_open opens

    entered_same : cycles.gathers.entered ≡ served
    entered_same = enters_none served cycles.gathers.entered cycles.gathers.enters opens_now

    looked : Looks served.pair cycles.gathered.pair
    looked = subst (λ (r : Run V I W). Looks r.pair cycles.gathered.pair) entered_same (cycles.gathers.looks (ap (λ (r : Run V I W). r.pair.in_cycle) entered_same ∙ opens_now))

    makes : MakesCycle inputs sinks on cycles.gathered new
    makes = cycles.cycles (ap (λ (p : Pair V I W). p.in_cycle) looked.same ∙ opens_now)

    playing_new : new.pair.playing ≡ served.pair.playing
    playing_new = ap (λ (p : Pair V I W). p.playing) makes.cycles.same ∙ ap (λ (p : Pair V I W). p.playing) looked.same

    made_gathered : made_of cycles.gathered ≡ made_of old
    made_gathered = (gather_serves served cycles.gathered cycles.gathers).made ∙ kept.made ∙ ap (λ (p : Pair V I W). entries_of p.process) entered_pair
      where
        entered_pair : entered.pair ≡ record old.pair { playing = entered.pair.playing; in_cycle = entered.pair.in_cycle }
        entered_pair = (enters.enters (or_parts (has_stopped old.failed) (nat_le old.pair.process.journal.room (length old.pair.process.journal.items) || old.pair.playing.transport.quit) may.can_run).0).same

    -- it plays the newest edition
    newest : old.pair.in_cycle ≡ false → served.pair.playing.edits ≡ edits_of old
    newest shut = ap (λ (e : EditionState). e.edits) (kept.playing opens)
        ∙ (enters.enters (or_parts (has_stopped old.failed) (nat_le old.pair.process.journal.room (length old.pair.process.journal.items) || old.pair.playing.transport.quit) may.can_run).0).newest
        (may_enter_now old may shut)

    edition_of : (answer : Result (Unit {0}) CycleFault) → Cycles inputs sinks (now_of on cycles.gathered) cycles.gathered.pair answer new.pair → old.pair.in_cycle ≡ false → (e : Entry) → made_of new ≡ e ∷ made_of old →
        e.edition ≡ length (edits_of old)
    edition_of (Ok x) c shut e made = sym (edition_by e (seen_entry c.made.made) (made_of old) (made_of new)
        (ap entries_of c.met.process_is ∙ more_made cycles.gathered.pair.process c.process c.made.made c.made.noted ∙ ap (λ l. seen_entry c.made.made ∷ l) made_gathered) made)
        ∙ ap (λ (y : Entry). y.edition) c.made.entry ∙ ap (λ (p : Pair V I W). length p.playing.edits) looked.same ∙ ap length (newest shut)
    edition_of (Err InputFault) c shut e made = absurd (longer e (made_of old) (sym (ap entries_of c.met.process_is ∙ ap (λ (z : ProcessState I W). entries_of z) c.fault ∙ made_gathered) ∙ made))
    edition_of (Err MasterFault) c shut e made = absurd (longer e (made_of old) (sym (ap entries_of c.met.process_is ∙ ap (λ (z : ProcessState I W). entries_of z) c.fault ∙ made_gathered) ∙ made))

    -- **It is in the newest edition.**
    pub plays_newest : PlaysNewest old new
    plays_newest = record {
      edition = edition_of makes.answer makes.cycles;
      unquit = ap (λ (e : EditionState). e.transport.quit) playing_new ∙ is.rests.entered.unended opens_now;
      shut = ap (λ (p : Pair V I W). p.in_cycle) makes.cycles.same;
    }

-- ---- what is next

settled_so : (k : ℕ) (made : List Entry) → is_settled_by (last_settled made) k ≡ is_last_settled k made
settled_so k [] = refl
settled_so k (e ∷ before) = refl

module _ {V I W : Type 0} (s : Session) (r : Run V I W) (e : Entry) (replies : List Reply) (can_run : (has_quit (edits_of r) (length (edits_of r)) || is_played_out r) ≡ false)
    (newest : e.edition ≡ length (edits_of r)) where
  awaited_by : (b : Awaited) → is_line_due (shows r) (Awaits b) ≡ false → has_come b (made_of r) ≡ false
  awaited_by (Entries n) due = ap (nat_le n) (many_made r.pair.process) ∙ (or_parts (nat_le n (shows r).entries) (is_played_out r) due).0
  awaited_by (SettledIn k) due = sym (settled_so k (made_of r)) ∙ (or_parts (is_settled_by (shows r).settled k) (is_played_out r) due).0

  -- where no line is due a cycle is next
  pub is_next : (standing : desk.Standing) → is_line_due (shows r) standing ≡ false → IsNext (is_played_out r) (standing_by (shown_core s (edits_of r) (made_of r)) standing replies) e
  is_next Ready due = absurd (true≢false due)
  is_next (Awaits b) due = record {
    can_run = can_run;
    newest = newest;
    waits = λ a some. subst (λ z. has_come z (made_of r) ≡ false) (same_Some b a some) (awaited_by b due);
    ended = λ none. absurd (none-some b (sym none));
  }
  is_next (Ended why) due = record { can_run = can_run; newest = newest; waits = λ a some. absurd (none-some a some); ended = λ none. refl }

-- ---- a serial cycle

module _ {V I W : Type 0} (s : Session) (cycles : ℕ) (lines : List Line) (replies : List Reply) (standing : desk.Standing) (old new : Run V I W) where
  -- **A run keeps up by a cycle.**
  pub cycle_keeps_up : is_line_due (shows old) standing ≡ false → MayPlay old → WentOn old new → LosesNone old new → PlaysNewest old new → PlaysPlain s old new → KeepsUp s cycles lines replies standing old →
      KeepsUp s cycles lines replies standing new
  cycle_keeps_up due may went loses plays plain was = record {
    shut = plays.shut;
    unquit = plays.unquit;
    fed = λ fine. let before = was.fed (plain.read_still fine) in plain.fed fine was.shut before.0 before.1;
    plays = λ fine. subst (λ (l : List Edit). PlayAsPlain s l (made_of new)) (sym edits) (plays_now fine went.grows.entries_are);
    none_lost = loses was.none_lost;
    paced = elim went.grows.entries_are [
      | inl same ↦ it_is_paced_still s cycles (is_played_out old) (is_played_out new) lines (standing_by (shown_core s (edits_of old) (made_of old)) standing replies) (shown_core s (edits_of new) (made_of new))
          edits same went.grows.stays_over was.paced
      | inr more ↦ each_entry_is_paced s cycles (is_played_out old) (is_played_out new) lines (standing_by (shown_core s (edits_of old) (made_of old)) standing replies) more.0
          (shown_core s (edits_of new) (made_of new))
          (is_next s old more.0 replies (or_from (has_quit (edits_of old) (length (edits_of old))) (is_played_out old) may.unquit may.can_run) (plays.edition was.shut more.0 more.1) standing due)
          edits more.1 was.paced
    ];
  }
    where
      plays_now : new.failed.read ≡ false → (made_of new ≡ made_of old) ⊎ ((e : Entry) × (made_of new ≡ e ∷ made_of old) × (is_played_out old ≡ false)) → PlayAsPlain s (edits_of old) (made_of new)
      plays_now fine (inl same) = subst (PlayAsPlain s (edits_of old)) (sym same) (was.plays (plain.read_still fine))
      plays_now fine (inr more) = let before = was.fed (plain.read_still fine) in subst (PlayAsPlain s (edits_of old)) (sym more.1)
          (plain_with s (edits_of old) more.0 (made_of old) (plays.edition was.shut more.0 more.1) (plain.plays fine was.shut before.0 before.1 more.0 more.1) (was.plays (plain.read_still fine)))

      edits : edits_of new ≡ edits_of old
      edits = ap (λ (e : EditionState). e.edits) went.edition
