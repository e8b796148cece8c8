-- How many cycles a run that was played has made, and what its master holds.
use Rattle.std.proofs.Common.{◌≡◌, inl, inr, ℕ, zero, suc, ◌+◌, ◌-◌, ◌≤◌, List, ◌++◌, length, refl, sym, ap, subst, ◌∙◌, arith}
use Rattle.std.specs.Prelude.{◌⊎◌, Bool, true, false, ◌||◌, if◌then◌else◌, nat_le, drop}
use Rattle.std.proofs.lemmas.Bool.{leb-true, true≢false}
use Rattle.std.proofs.lemmas.List.{length-append, length-map, take-append-drop}
use Rattle.ses_io.specs.FixedList.{Listed}
use Rattle.ses_io.specs.Outside.{MediaOutside, SourceOutside, SinkOutside}
use Rattle.session_model.specs.declared.session.Session.{Session}
use Rattle.session_model.specs.declared.edit.Edit.{Edit}
use Rattle.session_model.specs.Valid.{IsValid}
use Rattle.engine_model.specs.Edits.{has_quit, holds_at, is_quit}
use Rattle.engine_model.specs.Played.{master_file, samples_of}
use Rattle.edition_log.proofs.PlayLaws.{editions_play_their_places}
use Rattle.audio_source.specs.Opened.{OpenedSource}
use Rattle.audio_source.specs.Told.{source_sound}
use Rattle.cycle_journal.specs.declared.entry.Entry.{Entry}
use Rattle.cycle_journal.specs.JournalView.{seen_entries, seen_entry}
use Rattle.master_blocks.specs.Laws.{TheMasterIsItsBlocks}
use Rattle.process_cycle.specs.ProcessState.{ProcessState}
use Rattle.run_world.specs.declared.finished.Finished.{Finished}
use Rattle.worker_pair.specs.declared.pair.Pair.{Pair}
use Rattle.worker_pair.specs.Begun.{At, playing_at}
use Rattle.worker_pair.specs.Runs.{Rests}
use Rattle.worker_pair.specs.Tied.{rings_of}
use Rattle.worker_pair.proofs.LongerLemmas.{quit_longer}
use Rattle.process_cycle.specs.CutOff.{IsCutAtEnd, IsCutAtHead, IsCutInCycle}
use Rattle.run_end.specs.Failures.{has_stopped}
use Rattle.run_end.specs.Mastered.{IsCutOff}
use Rattle.run_end.proofs.MasteredLemmas as end
use Rattle.engine_core.specs.declared.run.Run.{Run}
use Rattle.engine_core.specs.Events.{Course}
use Rattle.engine_core.specs.Now.{now_of}
use Rattle.engine_core.specs.Played.{IsPlayed}
use Rattle.engine_core.specs.Shows.{edits_of}

-- ---- quits

-- a quit among the first edits is among more of them
quit_later : (edits : List Edit) (k more n : ℕ) → n ≡ more + k → has_quit edits k ≡ true → has_quit edits n ≡ true
quit_later edits k zero n is quit = let same : n ≡ k = omega (arith, is) in subst (λ z. has_quit edits z ≡ true) (sym same) quit
quit_later edits k (suc more) n is quit = let same : n ≡ suc (more + k) = omega (arith, is) in
    subst (λ z. has_quit edits z ≡ true) (sym same) (by (holds_at is_quit edits (more + k)) (quit_later edits k more (more + k) refl quit))
  where
    by : (b : Bool) → has_quit edits (more + k) ≡ true → (if b then true else has_quit edits (more + k)) ≡ true
    by true later = refl
    by false later = later

-- and among all
pub quit_of_all : (edits : List Edit) (k : ℕ) → k ≤ length edits → has_quit edits k ≡ true → has_quit edits (length edits) ≡ true
quit_of_all edits k within quit = quit_later edits k (length edits - k) (length edits) (omega (arith, within)) quit

-- ---- what is left

-- what a run leaves of which the master is made
record Left : Type 0 where
  pub edits : List Edit
  pub opened : List OpenedSource
  pub room : ℕ
  pub journal : List Entry

abbrev left_of : List Edit → List OpenedSource → ℕ → List Entry → Left
left_of edits opened room journal = record { edits = edits; opened = opened; room = room; journal = journal }

module _ {M I C W O : Type 0} (media : MediaOutside M) (inputs : SourceOutside I) (source : SourceOutside C) (sinks : SinkOutside W) (sink : SinkOutside O) (on : Course M I C W O) (f : Finished M I C W O)
    (x : IsPlayed media inputs source sinks sink on f) where
  abbrev s : Session
  s = on.opening.started.begun.session

  -- the run after its rest, and once its master was ended
  abbrev run : Run M I W
  run = x.engine.run

  abbrev written : Run M I W
  written = x.written.written

  -- ---- cycles

  -- the journal has room for the cycles that were asked
  pub room_is : x.ended.journal.room ≡ on.opening.cycles
  room_is = ap (λ (j : Listed Entry). j.room) x.written.journal ∙ x.going.may.under_way.rests.asked ∙ x.going.asked

  pub most_made : length (seen_entries x.ended.journal.items) ≤ on.opening.cycles
  most_made = omega (arith, x.few, room_is, length-map x.ended.journal.items seen_entry)

  -- no further cycle could run, whether one was stopped or all were made
  pub all_made : has_quit (edits_of run) (length (edits_of run)) ≡ false → has_stopped run.failed ≡ false → length (seen_entries x.ended.journal.items) ≡ on.opening.cycles
  all_made unquit goes = omega (arith, most_made, room_is, length-map x.ended.journal.items seen_entry, ap (λ (j : Listed Entry). length j.items) x.written.journal, ap (λ (j : Listed Entry). j.room) x.written.journal, full)
    where
      p : Pair M I W
      p = run.pair

      last : (nat_le p.process.journal.room (length p.process.journal.items) || p.playing.transport.quit) ≡ true
      last = ap (λ b. b || (nat_le p.process.journal.room (length p.process.journal.items) || p.playing.transport.quit)) (sym goes)
          ∙ ap (λ b. b || (has_stopped run.failed || (nat_le p.process.journal.room (length p.process.journal.items) || p.playing.transport.quit))) (sym unquit) ∙ x.finished.last_made

      -- the edition that it plays hasn't quit either
      plays : p.playing.transport.quit ≡ true → ⊥
      plays quit = true≢false (sym (quit_of_all (edits_of run) (length p.playing.edits)
          (let begins = x.going.may.under_way.rests.entered.begins in omega (arith, ap length begins.1, length-append p.playing.edits begins.0))
          (quit_longer p.playing.edits (edits_of run) x.going.may.under_way.rests.entered.begins
          ∙ sym (editions_play_their_places s p.playing x.going.may.under_way.rests.entered.edition_of).quit ∙ quit)) ∙ unquit)

      by : (a b : Bool) → (a || b) ≡ true → (b ≡ true → ⊥) → a ≡ true
      by true b e never = refl
      by false b e never = absurd (never e)

      full : p.process.journal.room ≤ length p.process.journal.items
      full = leb-true p.process.journal.room (length p.process.journal.items) (by (nat_le p.process.journal.room (length p.process.journal.items)) p.playing.transport.quit last plays)

  -- ---- the master

  module _ (tells : media.tells) (told : sinks.tells) where
    abbrev at : At
    at = now_of on.opening.started written

    abbrev rests : Rests media at written.pair
    rests = x.written.is_written.rests

    -- the edits that came since the process looked last
    abbrev since : List Edit
    since = drop written.pair.process.entered written.pair.edition.edits

    whole : at.played ++ since ≡ written.pair.edition.edits
    whole = take-append-drop written.pair.process.entered written.pair.edition.edits

    journal_path : written.pair.process.journal ≡ x.ended.journal
    journal_path = ap (λ (p : Pair M I W). p.process.journal) x.written.is_written.only ∙ sym x.written.journal

    edits_path : at.played ++ since ≡ x.ended.edits.items
    edits_path = whole ∙ ap (λ (p : Pair M I W). p.edition.edits) x.written.is_written.only ∙ sym x.written.edits

    opened_path : written.pair.butler.sources.opened ≡ on.opening.started.opened
    opened_path = ap (λ (p : Pair M I W). p.butler.sources.opened) x.written.is_written.only ∙ x.going.may.under_way.opened

    pub room_path : written.pair.process.journal.room ≡ on.opening.cycles
    room_path = ap (λ (j : Listed Entry). j.room) journal_path ∙ room_is

    -- **it is its file where no write of it failed**
    pub master_is : x.ended.failed.master ≡ false → IsValid s → TheMasterIsItsBlocks → sinks.held x.ended.master ≡ on.opening.started.begun.before
        ++ master_file s x.ended.edits.items (samples_of (source_sound on.opening.started.begun.files on.opening.started.opened) s x.ended.edits.items) on.opening.cycles (seen_entries x.ended.journal.items)
    master_is fine valid law = ap sinks.held x.written.master
        ∙ end.is_whole media inputs sinks at (rings_of written.pair) rests.serves written.pair.process refl since whole tells told law valid few (x.written.is_written.whole (sym x.written.master_failed ∙ fine) told)
        ∙ (λ i. on.opening.started.begun.before ++ master_file s (edits_path i) (samples_of (source_sound on.opening.started.begun.files (opened_path i)) s (edits_path i)) (room_path i) (seen_entries (journal_path i).items))
      where
        few : length written.pair.process.journal.items ≤ written.pair.process.journal.room
        few = omega (arith, ap (λ (j : Listed Entry). length j.items) journal_path, ap (λ (j : Listed Entry). j.room) journal_path, x.few)

    -- ---- where a write of it failed

    module _ (bad : x.ended.failed.master ≡ true) where
      abbrev p : ProcessState I W
      p = written.pair.process

      abbrev CutOff : Type 0
      CutOff = IsCutOff x.ended.failed.input at.begun.before (sinks.held p.master.sink) s (at.played ++ since) (samples_of (source_sound at.begun.files written.pair.butler.sources.opened) s (at.played ++ since))
          p.journal.room (seen_entries p.journal.items)

      by_cut : IsCutAtHead inputs sinks (playing_at at) p ⊎ IsCutInCycle inputs sinks (playing_at at) p → CutOff
      by_cut = end.cut_before media inputs sinks at (rings_of written.pair) rests.serves p refl since whole tells told x.ended.failed.input

      -- the write of the end failed, and none before it: then all cycles were made
      by_end : run.failed.master ≡ false → IsCutAtEnd sinks (playing_at at) p → CutOff
      by_end fine = end.cut_at_end media inputs sinks at (rings_of written.pair) rests.serves p refl since whole tells told x.ended.failed.input
          (λ unquit heard_all. ap (λ (j : Listed Entry). length (seen_entries j.items)) journal_path
          ∙ all_made (subst (λ es. has_quit es (length es) ≡ false) (whole ∙ ap (λ (z : Pair M I W). z.edition.edits) x.written.is_written.only) unquit)
          (ap (λ b. b || run.failed.master) (sym x.written.input_failed ∙ heard_all) ∙ fine) ∙ sym room_path)

      -- one failed before the end was to be written, or that of the end did
      by_before : (b : Bool) → run.failed.master ≡ b → CutOff
      by_before true failed = by_cut (subst (λ (r : Run M I W). IsCutAtHead inputs sinks (playing_at (now_of on.opening.started r)) r.pair.process ⊎ IsCutInCycle inputs sinks (playing_at (now_of on.opening.started r)) r.pair.process)
          (sym (x.written.is_written.stays failed)) (x.going.may.under_way.cut failed))
      by_before false fine = by (x.written.is_written.cut (sym x.written.master_failed ∙ bad))
        where
          by : (IsCutAtHead inputs sinks (playing_at at) p ⊎ IsCutInCycle inputs sinks (playing_at at) p) ⊎ IsCutAtEnd sinks (playing_at at) p → CutOff
          by (inl c) = by_cut c
          by (inr c) = by_end fine c

      -- **it is cut off**
      pub is_cut_off : IsCutOff x.ended.failed.input on.opening.started.begun.before (sinks.held x.ended.master) s x.ended.edits.items
          (samples_of (source_sound on.opening.started.begun.files on.opening.started.opened) s x.ended.edits.items) on.opening.cycles (seen_entries x.ended.journal.items)
      is_cut_off = subst (λ now. IsCutOff x.ended.failed.input on.opening.started.begun.before now s x.ended.edits.items
          (samples_of (source_sound on.opening.started.begun.files on.opening.started.opened) s x.ended.edits.items) on.opening.cycles (seen_entries x.ended.journal.items)) (ap sinks.held (sym x.written.master))
          (subst (λ (z : Left). IsCutOff x.ended.failed.input on.opening.started.begun.before (sinks.held p.master.sink) s z.edits (samples_of (source_sound on.opening.started.begun.files z.opened) s z.edits) z.room (seen_entries z.journal))
          (λ i. left_of (edits_path i) (opened_path i) (room_path i) (journal_path i).items) (by_before run.failed.master refl))
