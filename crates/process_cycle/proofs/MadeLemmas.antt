-- The entry of a cycle is that of the engine, of the takes that were captured, and fits.
use Rattle.std.proofs.Common.{◌≡◌, ℕ, ◌+◌, ◌<◌, le_refl, List, length, map, ap, ◌∙◌, sym, subst, arith}
use Rattle.std.specs.Prelude.{Bool, true, ◌&&◌, ℤ, slice_get, Some}
use Rattle.std.proofs.lemmas.List.{length-map}
use Rattle.std.proofs.lemmas.Option.{slice_get_within}
use Rattle.ses_io.specs.Outside.{SourceOutside}
use Rattle.session_model.specs.declared.session.Session.{Session}
use Rattle.engine_model.specs.Editions.{edition}
use Rattle.engine_model.specs.Fits.{fits, fits_take, next_take, records}
use Rattle.engine_model.specs.Journal as engine
use Rattle.engine_model.specs.Journal.{rolled, is_rolling}
use Rattle.engine_model.specs.Cycle.{entry_of, notes_of, settled_number, state_of}
use Rattle.engine_model.specs.Made.{fit_takes}
use Rattle.engine_laws.proofs.EntryNotesLemmas.{entry_fits}
use Rattle.engine_laws.proofs.ListLemmas.{item_at}
use Rattle.edition_log.specs.EditionState as log
use Rattle.disk_ring.specs.Sender.{Sender}
use Rattle.piece_item.specs.declared.take_block.TakeBlock.{TakeBlock}
use Rattle.cycle_journal.specs.declared.entry.Entry.{Entry}
use Rattle.cycle_journal.specs.declared.note.Note.{Note}
use Rattle.cycle_journal.specs.declared.note.Take.{Take}
use Rattle.cycle_journal.specs.declared.note.Take.TheVariants.{Off, Taken, Lost}
use Rattle.cycle_journal.specs.JournalView.{seen_note, seen_entry, seen_state, seen_take}
use Rattle.track_capture.specs.declared.capture.TrackCapture.{TrackCapture}
use Rattle.track_capture.specs.Counted.{HasCaptured}
use Rattle.track_capture.specs.Picked.{picked}
use Rattle.track_playback.specs.SpareBoxes.{received_kinds}
use Rattle.process_cycle.specs.Cycles.{Captures, MayCycle, next_state}
use Rattle.process_cycle.specs.Making.{IsMade}
use Rattle.process_cycle.specs.ProcessState.{ProcessState, Playing, entries_of, kinds_of, position_of}
use Rattle.process_cycle.proofs.EntryLemmas.{first_notes, generation_is, notes_with, takes_fit, takes_of, unended}

-- an entry by its parts
abbrev pub seen_as : ℕ → ℕ → engine.State → List engine.Note → engine.Entry
seen_as number settled state notes = record { edition = number; settled = settled; state = state; notes = notes }

-- ---- captures

-- a capture leaves the depth
pub depth_after : (s : Session) (t channels : ℕ) (input : List ℤ) (d f : Sender TakeBlock) (take : Take) → HasCaptured s t channels input d take f → f.depth ≡ d.depth
depth_after s t channels input d f Off is = ap (λ x. x.depth) is
depth_after s t channels input d f (Taken n i) is = ap (λ x. x.depth) is.sent
depth_after s t channels input d f (Lost n i head) is = ap (λ x. x.depth) is.heads

-- what is captured of a block is told by what no edit changes
pub captured_same : (s z : Session) (t channels : ℕ) (input : List ℤ) (d f : Sender TakeBlock) (take : Take) → picked z t channels input ≡ picked s t channels input → HasCaptured z t channels input d take f → HasCaptured s t channels input d take f
captured_same s z t channels input d f Off same is = is
captured_same s z t channels input d f (Taken n i) same is = record { block = is.block; take = is.take; index = is.index; samples = is.samples ∙ same; sent = is.sent; head = is.head; free = is.free }
captured_same s z t channels input d f (Lost n i head) same is = is

-- ---- the entry

-- what became of a track, by its note before and after
record TakenAt {I W : Type 0} (e : log.EditionState) (p q : ProcessState I W) (first : Entry) (t : ℕ) (was noted : Note) : Type 0 where
  k : TrackCapture
  d : Sender TakeBlock
  f : Sender TakeBlock
  captures : Captures e (is_rolling (seen_state first.state)) (entries_of p) t q.input.stream.form.channels q.input.samples was noted d f k

-- what is so of the entry
pub record EntryFacts {I W : Type 0} (at : Playing) (e : log.EditionState) (p : ProcessState I W) (first made : Entry) : Type 0 where
  -- a note and a take of each track
  pub many_firsts : length first.notes.items ≡ length at.session.tracks.items
  pub many_notes : length made.notes.items ≡ length at.session.tracks.items
  pub many_takes : length (takes_of made.notes.items) ≡ length at.session.tracks.items
  -- it is the entry of the edition, in the state that the transport has
  pub number : made.edition ≡ length e.edits
  pub state : seen_state made.state ≡ next_state e p
  pub is : seen_entry made ≡ entry_of at.session e.edits (entries_of p) (kinds_of p) (takes_of made.notes.items) (length e.edits)
  -- its takes fit, and so does it
  pub takes : fit_takes (edition at.session e.edits (length e.edits)) (is_rolling (seen_state made.state)) (entries_of p) 0 (takes_of made.notes.items) ≡ true
  pub fit : fits at.session e.edits (entries_of p) (seen_entry made) ≡ true

module _ {I W : Type 0} (inputs : SourceOutside I) (at : Playing) (e : log.EditionState) (p q : ProcessState I W) (may : MayCycle inputs at e p) (made : Entry) (m : IsMade e p q made) where
  abbrev takes : List engine.Take
  takes = takes_of made.notes.items

  abbrev channels : ℕ
  channels = q.input.stream.form.channels

  many_kinds : length (kinds_of p) ≡ length at.session.tracks.items
  many_kinds = length-map p.ends.plays.items received_kinds ∙ may.playing.plays

  many_firsts : length m.first.notes.items ≡ length at.session.tracks.items
  many_firsts = first_notes (length e.edits) e.transport.rolling (position_of p) p.ends.plays.items m.first m.seen ∙ may.playing.plays

  many_notes : length made.notes.items ≡ length at.session.tracks.items
  many_notes = m.notes ∙ many_firsts

  many_takes : length takes ≡ length at.session.tracks.items
  many_takes = length-map made.notes.items (λ note. seen_take note.take) ∙ many_notes

  taken_at : (t : ℕ) (was noted : Note) → slice_get m.first.notes.items t ≡ Some was → slice_get made.notes.items t ≡ Some noted → TakenAt e p q m.first t was noted
  taken_at t was noted at_was at_noted = let within : t < length at.session.tracks.items = omega (arith, slice_get_within made.notes.items t noted at_noted, many_notes) in
      let k = item_at q.captures t (omega (arith, within, m.captures, may.playing.captures)) in
      let d = item_at p.ends.takes.items t (omega (arith, within, may.playing.takes)) in
      let f = item_at q.ends.takes.items t (omega (arith, within, m.takes, may.playing.takes)) in
      record { k = k.0; d = d.0; f = f.0; captures = m.captured t k.0 was noted d.0 f.0 k.1 at_was at_noted d.1 f.1 }

  edition_is : made.edition ≡ length e.edits
  edition_is = ap (λ x. x.edition) m.same_entry ∙ ap (λ x. x.edition) m.seen

  settled_is : made.settled ≡ settled_number (length e.edits) p.generation p.next (kinds_of p)
  settled_is = ap (λ x. x.settled) m.same_entry ∙ ap (λ x. x.settled) m.seen

  state_is : seen_state made.state ≡ next_state e p
  state_is = ap (λ x. seen_state x.state) m.same_entry ∙ ap (λ x. x.state) m.seen

  notes_are : map seen_note made.notes.items ≡ notes_of (next_state e p) (kinds_of p) takes
  notes_are = notes_with (next_state e p) (kinds_of p) (length p.ends.plays.items) m.first.notes.items made.notes.items (length-map p.ends.plays.items received_kinds) (ap (λ x. x.notes) m.seen) m.notes
      (λ t was noted a b. (taken_at t was noted a b).captures.play)

  abbrev made_in : Bool → ℕ → ℕ → engine.Entry
  made_in rolling g n = seen_as (length e.edits) (settled_number (length e.edits) g n (kinds_of p)) (state_of rolling g n (kinds_of p)) (notes_of (state_of rolling g n (kinds_of p)) (kinds_of p) takes)

  entry_is : seen_entry made ≡ entry_of at.session e.edits (entries_of p) (kinds_of p) takes (length e.edits)
  entry_is = let notes = map seen_note made.notes.items in let r = length e.edits in let rolls = (edition at.session e.edits r).transport.rolling in
      ap (λ k. seen_as k made.settled (seen_state made.state) notes) edition_is ∙ ap (λ k. seen_as r k (seen_state made.state) notes) settled_is
      ∙ ap (λ x. seen_as r (settled_number r p.generation p.next (kinds_of p)) x notes) state_is ∙ ap (seen_as r (settled_number r p.generation p.next (kinds_of p)) (next_state e p)) notes_are
      ∙ ap (λ b. made_in b p.generation p.next) (ap (λ k. k.transport.rolling) may.edition.state) ∙ ap (made_in rolls p.generation) may.playing.next
      ∙ ap (λ g. made_in rolls g (rolled g (entries_of p))) (generation_is inputs at e p may)

  fit_now : fit_takes (edition at.session e.edits (length e.edits)) (is_rolling (seen_state made.state)) (entries_of p) 0 takes ≡ true
  fit_now = takes_fit (edition at.session e.edits (length e.edits)) (is_rolling (seen_state made.state)) (entries_of p) 0 made.notes.items fits_at
    where
      rolls_as : is_rolling (seen_state m.first.state) ≡ is_rolling (seen_state made.state)
      rolls_as = sym (ap (λ x. is_rolling (seen_state x.state)) m.same_entry)

      fits_at : (i : ℕ) (note : Note) → slice_get made.notes.items i ≡ Some note →
          fits_take (is_rolling (seen_state made.state) && records (edition at.session e.edits (length e.edits)) (0 + i)) (next_take (0 + i) (entries_of p)) (seen_take note.take) ≡ true
      fits_at i note at_note = let was = item_at m.first.notes.items i (omega (arith, slice_get_within made.notes.items i note at_note, m.notes)) in
          subst (λ k. fits_take (is_rolling (seen_state made.state) && records (edition at.session e.edits (length e.edits)) k) (next_take k (entries_of p)) (seen_take note.take) ≡ true) {x = i} {y = 0 + i} (omega arith)
          (subst (λ b. fits_take (b && records (edition at.session e.edits (length e.edits)) i) (next_take i (entries_of p)) (seen_take note.take) ≡ true) rolls_as
          (subst (λ x. fits_take (is_rolling (seen_state m.first.state) && records x i) (next_take i (entries_of p)) (seen_take note.take) ≡ true) may.edition.state (taken_at i was.0 note was.1 at_note).captures.take))

  it_fits : fits at.session e.edits (entries_of p) (seen_entry made) ≡ true
  it_fits = subst (λ x. fits at.session e.edits (entries_of p) x ≡ true) (sym entry_is)
      (entry_fits at.session e.edits (length e.edits) (kinds_of p) takes (entries_of p) (le_refl (length e.edits)) many_kinds (many_takes ∙ sym many_kinds) (unended inputs at e p may)
      (subst (λ x. fit_takes (edition at.session e.edits (length e.edits)) (is_rolling x.state) (entries_of p) 0 takes ≡ true) entry_is fit_now))

  pub entry_facts : EntryFacts at e p m.first made
  entry_facts = record {
    many_firsts = many_firsts;
    many_notes = many_notes;
    many_takes = many_takes;
    number = edition_is;
    state = state_is;
    is = entry_is;
    takes = fit_now;
    fit = it_fits;
  }
