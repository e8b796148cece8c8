-- What a run without letters leaves at its end, whatever has failed.
use Rattle.std.proofs.Common.{◌≡◌, inl, inr, ℕ, ◌<◌, List, [], ◌∷◌, length, refl, sym, ap, subst, ◌∙◌}
use Rattle.std.specs.Prelude.{true, false, ◌||◌, map, nat_le, reverse}
use Rattle.std.proofs.lemmas.Bool.{false≢true, or_cases, or_left, or_right}
use Rattle.std.proofs.lemmas.List.{reverse-reverse}
use Rattle.ses_io.specs.Outside.{MediaOutside, SourceOutside, SinkOutside}
use Rattle.session_model.specs.declared.session.Session.{Session}
use Rattle.session_model.specs.declared.edit.Edit.{Edit}
use Rattle.engine_model.specs.Journal.{Entry}
use Rattle.engine_model.specs.Truth.{Loss, losses}
use Rattle.engine_laws.proofs.ListLemmas.{item_at}
use Rattle.cycle_journal.specs.JournalView.{seen_entries}
use Rattle.control_letter.specs.Shown.{shown_core, standing_by}
use Rattle.serial_laws.specs.Paced.{IsPaced, none_can_run}
use Rattle.serial_laws.proofs.PacedLemmas.{all_is_paced_at_the_end}
use Rattle.run_world.specs.declared.finished.Finished.{Finished}
use Rattle.engine_core.specs.declared.run.Run.{Run}
use Rattle.engine_core.specs.Events.{Course}
use Rattle.run_end.specs.Failures.{has_stopped}
use Rattle.engine_core.specs.Fed.{PlayAsPlain}
use Rattle.engine_core.specs.Played.{IsPlayed}
use Rattle.engine_core.specs.Serial.{KeepsUp}
use Rattle.engine_core.specs.Serially.{TakesAll}
use Rattle.engine_core.specs.Shows.{edits_of, made_of}
use Rattle.engine_core.specs.Now.{is_played_out}
use Rattle.engine_core.proofs.LinesLemmas as lines
use Rattle.engine_core.proofs.LinesLemmas.{before_by, none_awaited}
use Rattle.engine_core.proofs.SerialCycleLemmas.{many_made}

-- where nothing is named nothing was lost
none_named : (ls : List Loss) → map (λ l. l.head) ls ≡ [] → ls ≡ []
none_named [] e = refl
none_named (l ∷ ls) e = absurd (some_head e)
  where
    some_head : l.head ∷ map (λ k. k.head) ls ≡ [] → ⊥
    some_head e = cc

module _ {M I C W O : Type 0} (media : MediaOutside M) (inputs : SourceOutside I) (source : SourceOutside C) (sinks : SinkOutside W) (sink : SinkOutside O) (on : Course M I C W O) (f : Finished M I C W O)
    (x : IsPlayed media inputs source sinks sink on f) (none : on.letters ≡ []) where
  abbrev s : Session
  s = on.opening.started.begun.session

  abbrev run : Run M I W
  run = x.engine.run

  abbrev journal : List Entry
  journal = seen_entries x.ended.journal.items

  keeps : KeepsUp s on.opening.cycles x.going.lines x.going.replies x.engine.control.standing run
  keeps = x.going.serial none

  journal_is : reverse (made_of run) ≡ journal
  journal_is = ap reverse (sym (lines.made_are media inputs source sinks sink on f x)) ∙ reverse-reverse journal

  -- ---- the walk

  -- a process that had stopped has
  stopped_still : has_stopped run.failed ≡ true → has_stopped x.ended.failed ≡ true
  stopped_still stopped = elim (or_cases run.failed.input run.failed.master stopped) [
    | inl input ↦ or_left x.ended.failed.input x.ended.failed.master (x.written.input_failed ∙ input)
    | inr master ↦ or_right x.ended.failed.input x.ended.failed.master (x.written.master_failed ∙ ap (λ (r : Run M I W). r.failed.master) (x.written.is_written.stays master) ∙ master)
  ]

  out : is_played_out run ≡ true → none_can_run on.opening.cycles (has_stopped x.ended.failed) (made_of run) ≡ true
  out over = elim (or_cases (has_stopped run.failed) (nat_le run.pair.process.journal.room (length run.pair.process.journal.items) || run.pair.playing.transport.quit) over) [
    | inl stopped ↦ or_right (nat_le on.opening.cycles (length (made_of run))) (has_stopped x.ended.failed) (stopped_still stopped)
    | inr rest ↦ elim (or_cases (nat_le run.pair.process.journal.room (length run.pair.process.journal.items)) run.pair.playing.transport.quit rest) [
      | inl all ↦ or_left (nat_le on.opening.cycles (length (made_of run))) (has_stopped x.ended.failed)
          ((λ i. nat_le (sym (x.going.may.under_way.rests.asked ∙ x.going.asked) i) (many_made run.pair.process i)) ∙ all)
      | inr quit ↦ absurd (false≢true (sym keeps.unquit ∙ quit))
    ]
  ]

  -- **Entries and replies are by the plain walk over the lines.**
  pub paced : IsPaced s on.opening.cycles (has_stopped x.ended.failed) [] [] x.going.lines journal (reverse x.going.replies)
  paced = subst (λ j. IsPaced s on.opening.cycles (has_stopped x.ended.failed) [] [] x.going.lines j (reverse x.going.replies)) journal_is
      (all_is_paced_at_the_end s on.opening.cycles (has_stopped x.ended.failed) (is_played_out run) x.going.lines
      (standing_by (shown_core s (edits_of run) (made_of run)) x.engine.control.standing x.going.replies) x.finished.ended (none_awaited x.engine.control.standing x.finished.ended) out keeps.paced)

  -- ---- takes

  some_capture : (t : ℕ) → t < length s.tracks.items → length run.pair.process.ends.takes.items ≡ length s.tracks.items
  some_capture t within = sym x.going.may.under_way.rests.serves.others.takes.count ∙ x.going.may.under_way.rests.serves.serving.takes

  -- **No block is lost.**
  pub takes_all : TakesAll s journal
  takes_all t within = let d = item_at run.pair.process.ends.takes.items t (subst (λ n. t < n) (sym (some_capture t within)) within) in
      ap (losses t) (sym journal_is) ∙ none_named (losses t (reverse (made_of run))) (sym (x.going.may.under_way.rests.promises.captured t d.0 d.1).heads
      ∙ keeps.none_lost t d.0 d.1)

  -- ---- playback

  -- **Unless a read of the media has failed each entry plays as the plain one.**
  pub plays : x.ended.failed.read ≡ false → PlayAsPlain s x.ended.edits.items (reverse journal)
  plays fine = subst (PlayAsPlain s x.ended.edits.items) (sym (lines.made_are media inputs source sinks sink on f x))
      (subst (λ (l : List Edit). PlayAsPlain s l (made_of run)) (sym x.written.edits) (keeps.plays (before_by run.failed.read x.ended.failed.read x.counts.read_still fine)))
