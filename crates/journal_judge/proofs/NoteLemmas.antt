-- The notes of an entry are judged by the numbers of their tracks.
use Rattle.std.proofs.Common.{◌≡◌, ℕ, suc, ◌+◌, ◌<◌, ◌≤◌, List, [], ◌∷◌, length, refl, sym, ap, arith, ◌∙◌}
use Rattle.std.specs.Prelude.{Bool, true, ◌&&◌, slice_index_or}
use Rattle.std.specs.List.{list_all}
use Rattle.std.proofs.lemmas.Bool.{and_parts, and_from}
use Rattle.session_model.specs.declared.session.Session.{Session}
use Rattle.engine_model.specs.Edits.{generation, playlist_edition}
use Rattle.engine_model.specs.Editions.{Edition, edition}
use Rattle.engine_model.specs.Journal.{Entry, Note, note_of, rolled}
use Rattle.engine_model.specs.Fits.{are_heard_well, fits_note, fits_notes, fits_play, fits_take, is_heard_after, is_heard_well, next_take, records}
use Rattle.engine_laws.proofs.LawfulLemmas.{note_from, note_parts}
use Rattle.edit_history.specs.History.{HistoryState, IsHistoryOf}
use Rattle.journal_judge.specs.Numbers.{IsCounted}
use Rattle.journal_judge.specs.Judged.{JudgeState, count_at, HasEntered}
use Rattle.journal_judge.specs.Deciding.{are_good_notes, is_good_note, is_good_take, is_well_heard}
use Rattle.journal_judge.proofs.AtLemmas.{state_at, touched_at}
use Rattle.journal_judge.proofs.HeardLemmas.{heard_well, well_heard}

module _ (s : Session) (h : HistoryState) (is : IsHistoryOf s h) (before : List Entry) (k settled : ℕ) (j : JudgeState) (has : HasEntered s h.edits before k settled j) (rolling : Bool) where
  abbrev pub now : Edition
  now = edition s h.edits k

  abbrev pub blocks : ℕ
  blocks = rolled (generation h.edits k) before

  few_tracks : length s.tracks.items ≤ 32
  few_tracks = has.valid.formed.limits.tracks

  module _ (t : ℕ) (lt : t < length s.tracks.items) (note : Note) where
    small : t < 32
    small = omega (arith, lt, few_tracks)

    its : IsCounted t before (count_at j.tracks t)
    its = has.tracks t small lt

    abbrev floor : ℕ
    floor = slice_index_or j.settled.touched t 0

    floor_is : floor ≡ playlist_edition s h.edits t settled
    floor_is = touched_at s h.edits settled j.settled has.floor t small

    play_same : fits_play rolling j.rolled note.play ≡ fits_play rolling blocks note.play
    play_same = ap (λ n. fits_play rolling n note.play) has.rolled

    take_same : is_good_take j rolling t note ≡ fits_take (rolling && records now t) (next_take t before) note.take
    take_same = let c = (count_at j.tracks t).takes in
        ap (λ e. fits_take (rolling && records e t) (c.take, c.index) note.take) (state_at s h.edits k j.entered has.entered)
        ∙ ap (λ n. fits_take (rolling && records now t) (n, c.index) note.take) its.take
        ∙ ap (λ i. fits_take (rolling && records now t) ((next_take t before).0, i) note.take) its.index

    pub note_good : fits_note now rolling blocks before t note ≡ true → is_heard_well s h.edits settled t note.play ≡ true →
        list_all (λ old. is_heard_after (note_of t old).play note.play) before ≡ true → is_good_note h.changes j rolling t note ≡ true
    note_good fit well after = let parts = and_parts (fits_play rolling blocks note.play) (fits_take (rolling && records now t) (next_take t before) note.take) fit in
        and_from (fits_play rolling j.rolled note.play && is_good_take j rolling t note) (is_well_heard h.changes t floor (count_at j.tracks t).heard note.play)
        (and_from (fits_play rolling j.rolled note.play) (is_good_take j rolling t note) (play_same ∙ parts.0) (take_same ∙ parts.1))
        (heard_well s h has.valid is t before settled floor (count_at j.tracks t).heard floor_is its.heard note.play well after)

    pub good_note : is_good_note h.changes j rolling t note ≡ true → (fits_note now rolling blocks before t note ≡ true) × (is_heard_well s h.edits settled t note.play ≡ true)
        × (list_all (λ old. is_heard_after (note_of t old).play note.play) before ≡ true)
    good_note good = let two = and_parts (fits_play rolling j.rolled note.play && is_good_take j rolling t note) (is_well_heard h.changes t floor (count_at j.tracks t).heard note.play) good in
        let one = and_parts (fits_play rolling j.rolled note.play) (is_good_take j rolling t note) two.0 in
        let heard = well_heard s h has.valid is t before settled floor (count_at j.tracks t).heard floor_is its.heard note.play two.1 in
        (and_from (fits_play rolling blocks note.play) (fits_take (rolling && records now t) (next_take t before) note.take) (sym play_same ∙ one.0) (sym take_same ∙ one.1), heard.0, heard.1)

  pub notes_good : (t : ℕ) (notes : List Note) → t + length notes ≡ length s.tracks.items → fits_notes now rolling blocks before t notes ≡ true →
      are_heard_well s h.edits settled before t notes ≡ true → are_good_notes h.changes j rolling t notes ≡ true
  notes_good t [] many fit heard = refl
  notes_good t (note ∷ notes) many fit heard = let lt : t < length s.tracks.items = omega (arith, many) in
      let step = and_parts (fits_note now rolling blocks before t note) (fits_notes now rolling blocks before (suc t) notes) fit in
      let parts = note_parts s h.edits settled t before note notes heard in
      and_from (is_good_note h.changes j rolling t note) (are_good_notes h.changes j rolling (suc t) notes)
      (note_good t lt note step.0 parts.0 parts.1) (notes_good (suc t) notes (omega (arith, many)) step.1 parts.2)

  pub good_notes : (t : ℕ) (notes : List Note) → t + length notes ≡ length s.tracks.items → are_good_notes h.changes j rolling t notes ≡ true →
      (fits_notes now rolling blocks before t notes ≡ true) × (are_heard_well s h.edits settled before t notes ≡ true)
  good_notes t [] many good = (refl, refl)
  good_notes t (note ∷ notes) many good = let lt : t < length s.tracks.items = omega (arith, many) in
      let step = and_parts (is_good_note h.changes j rolling t note) (are_good_notes h.changes j rolling (suc t) notes) good in
      let here = good_note t lt note step.0 in let rest = good_notes (suc t) notes (omega (arith, many)) step.1 in (
        and_from (fits_note now rolling blocks before t note) (fits_notes now rolling blocks before (suc t) notes) here.0 rest.0,
        note_from s h.edits settled t before note notes here.1 here.2 rest.1,
      )
