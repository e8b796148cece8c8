-- A cycle of the process: what its entry is made of, and what it takes of tracks.
use Rattle.std.proofs.Common.{◌≡◌, ℕ, suc, ◌+◌, List, [], ◌∷◌, length, refl, sym, ap, subst, arith, ◌∙◌}
use Rattle.std.specs.Prelude.{true, false, ◌&&◌, ◌==◌, not, nat_le, map, reverse, slice_get, slice_index_or, Some}
use Rattle.std.proofs.lemmas.Bool.{and_parts, eqb-true}
use Rattle.std.proofs.lemmas.List.{length-append, length-map, length-reverse, map-append, reverse-append, same_lists}
use Rattle.std.proofs.lemmas.Option.{slice_get_within, slice_get-get_or}
use Rattle.ses_io.specs.FixedList.{Listed}
use Rattle.session_model.specs.declared.session.Session.{Session}
use Rattle.engine_model.specs.Cycle.{entry_of, notes_of, state_of}
use Rattle.engine_model.specs.Edits.{generation, has_quit}
use Rattle.engine_model.specs.Editions.{Edition, edition}
use Rattle.engine_model.specs.Fits.{fits_in, fits_notes, fits_state, fits_take, next_take, records}
use Rattle.engine_model.specs.Journal as engine
use Rattle.engine_model.specs.Journal.{Off, is_rolling, rolled}
use Rattle.engine_laws.proofs.ListLemmas.{item_at}
use Rattle.machine_laws.proofs.Tracks.{is_mapped, of_mapped}
use Rattle.edition_log.specs.EditionState.{EditionState}
use Rattle.disk_ring.specs.Sender.{Sender}
use Rattle.piece_item.specs.declared.take_block.TakeBlock.{TakeBlock}
use Rattle.cycle_journal.specs.declared.entry.Entry.{Entry}
use Rattle.cycle_journal.specs.declared.note.Note.{Note}
use Rattle.cycle_journal.specs.declared.note.Take.{Take}
use Rattle.cycle_journal.specs.declared.note.Take.TheVariants as noted
use Rattle.cycle_journal.specs.JournalView.{seen_entry, seen_note, seen_take}
use Rattle.track_capture.specs.Counted.{HasCaptured}
use Rattle.process_cycle.specs.Cycles.{MakesEntry}
use Rattle.process_cycle.specs.ProcessState.{ProcessState, entries_of, kinds_of}
use Rattle.worker_pair.proofs.CaptureLemmas.{takes_fit}
use Rattle.worker_pair.proofs.EntryLemmas.{records_none, same_notes, takes_nothing}

-- ---- what isn't recorded isn't captured

-- a take that is seen as off is off
seen_off : (take : Take) → seen_take take ≡ Off → take ≡ noted.Off
seen_off noted.Off e = refl
seen_off (noted.Taken n i) e = absurd cc
seen_off (noted.Lost n i head) e = absurd cc

module _ {I W : Type 0} (s : Session) (e : EditionState) (p q : ProcessState I W) (m : MakesEntry s e p q) where
  abbrev pub entry_made : engine.Entry
  entry_made = seen_entry m.made

  -- it is of the newest edition
  pub edition_is : entry_made.edition ≡ length e.edits
  edition_is = ap (λ (x : engine.Entry). x.edition) m.entry

  -- the edition of the entry, and how many blocks of its generation were played
  abbrev pub now : Edition
  now = edition s e.edits entry_made.edition

  abbrev played : ℕ
  played = rolled (generation e.edits entry_made.edition) (entries_of p)

  -- it fits its edition
  fits_here : fits_in s now (generation e.edits entry_made.edition) (entries_of p) entry_made ≡ true
  fits_here = (and_parts (nat_le entry_made.edition (length e.edits) && not (has_quit e.edits entry_made.edition)) (fits_in s now (generation e.edits entry_made.edition) (entries_of p) entry_made) m.fit).1

  -- so do its state, the number of its notes, and the notes
  fits_parts : (fits_state now.transport.rolling (length s.tracks.items) (generation e.edits entry_made.edition) played entry_made.state && length entry_made.notes == length s.tracks.items ≡ true)
      × (fits_notes now (is_rolling entry_made.state) played (entries_of p) 0 entry_made.notes ≡ true)
  fits_parts = and_parts (fits_state now.transport.rolling (length s.tracks.items) (generation e.edits entry_made.edition) played entry_made.state && length entry_made.notes == length s.tracks.items)
      (fits_notes now (is_rolling entry_made.state) played (entries_of p) 0 entry_made.notes) fits_here

  -- there is a note of each track
  pub notes_many : length entry_made.notes ≡ length s.tracks.items
  notes_many = eqb-true (length entry_made.notes) (length s.tracks.items) (and_parts
      (fits_state now.transport.rolling (length s.tracks.items) (generation e.edits entry_made.edition) played entry_made.state) (length entry_made.notes == length s.tracks.items) fits_parts.0).1

  -- what it takes of a track fits
  pub take_fits : (t : ℕ) (note : Note) → slice_get m.made.notes.items t ≡ Some note →
      fits_take (is_rolling entry_made.state && records now t) (next_take t (entries_of p)) (seen_take note.take) ≡ true
  take_fits t note at = takes_fit now (is_rolling entry_made.state) played (entries_of p) entry_made.notes fits_parts.1 t (seen_note note) (is_mapped seen_note m.made.notes.items t note at)

  -- ---- where the transport doesn't record

  module _ (never : now.transport.recording ≡ false) where
    -- each capture ring is as it was
    take_stands : (t : ℕ) (d f : Sender TakeBlock) → slice_get p.ends.takes.items t ≡ Some d → slice_get q.ends.takes.items t ≡ Some f → f ≡ d
    take_stands t d f at_d at_f = let note = item_at m.made.notes.items t (omega (arith, slice_get_within p.ends.takes.items t d at_d, m.notes)) in
        let off = seen_off note.0.take (takes_nothing (is_rolling entry_made.state && records now t) (next_take t (entries_of p)) (seen_take note.0.take)
        (records_none (is_rolling entry_made.state) now t never) (take_fits t note.0 note.1)) in
        subst (λ (k : Take). HasCaptured s t q.input.stream.form.channels q.input.samples d k f) off (m.captured t d f note.0 at_d at_f note.1)

    -- and so are all of them
    pub takes_stand : q.ends.takes ≡ p.ends.takes
    takes_stand = λ i. record { items = items_stand i; room = m.takes_room i }
      where
        items_stand : q.ends.takes.items ≡ p.ends.takes.items
        items_stand = same_lists q.ends.takes.items p.ends.takes.items m.rings (λ t x within. take_stands t (slice_index_or p.ends.takes.items t x) (slice_index_or q.ends.takes.items t x)
            (slice_get-get_or p.ends.takes.items t x (omega (arith, within, m.rings))) (slice_get-get_or q.ends.takes.items t x within))

  -- ---- the entry

  -- what the transport does
  abbrev pub state_now : engine.State
  state_now = state_of (edition s e.edits (length e.edits)).transport.rolling (generation e.edits (length e.edits)) (rolled (generation e.edits (length e.edits)) (entries_of p)) (kinds_of p)

  pub state_is : entry_made.state ≡ state_now
  state_is = ap (λ (x : engine.Entry). x.state) m.entry

  -- the entry with whichever notes
  abbrev with_notes : List engine.Note → engine.Entry
  with_notes notes = record (entry_of s e.edits (entries_of p) (kinds_of p) [] (length e.edits)) { notes = notes }

  -- it is that of whichever takes its notes have
  pub entry_by : (others : List engine.Take) → length (kinds_of p) ≡ length s.tracks.items → length others ≡ length s.tracks.items →
      ((t : ℕ) (note : Note) (other : engine.Take) → slice_get m.made.notes.items t ≡ Some note → slice_get others t ≡ Some other → seen_take note.take ≡ other) →
      entry_made ≡ entry_of s e.edits (entries_of p) (kinds_of p) others (length e.edits)
  entry_by others many_kinds many each = m.entry ∙ ap with_notes (same_notes state_now (kinds_of p) m.takes others (sym (ap length notes_are) ∙ notes_many ∙ sym many_kinds) (many ∙ sym many_kinds)
      (λ t note other at_note at_other. let here = of_mapped seen_note m.made.notes.items t note (ap (λ l. slice_get l t) notes_are ∙ at_note) in
      ap (λ (k : engine.Note). k.take) here.2 ∙ each t here.0 other here.1 at_other))
    where
      notes_are : entry_made.notes ≡ notes_of state_now (kinds_of p) m.takes
      notes_are = ap (λ (x : engine.Entry). x.notes) m.entry

  -- the entries with the one that was made
  pub entries_are : entries_of q ≡ entry_made ∷ entries_of p
  entries_are = ap (λ (j : Listed Entry). reverse (map seen_entry j.items)) m.noted ∙ ap reverse (map-append seen_entry p.journal.items (m.made ∷ []))
      ∙ reverse-append (map seen_entry p.journal.items) (entry_made ∷ [])

  -- there is one more
  pub one_more_entry : length q.journal.items ≡ suc (length p.journal.items)
  one_more_entry = ap (λ (j : Listed Entry). length j.items) m.noted ∙ length-append p.journal.items (m.made ∷ []) ∙ one_more (length p.journal.items)
    where
      one_more : (n : ℕ) → n + 1 ≡ suc n
      one_more n = omega arith

-- as many entries as the journal has
pub many_entries : {I W : Type 0} (p : ProcessState I W) → length (entries_of p) ≡ length p.journal.items
many_entries p = length-reverse (map seen_entry p.journal.items) ∙ length-map p.journal.items seen_entry
