-- A cycle of a process: what stands of its promises and of its master, and how it plays on.
use Rattle.std.proofs.Common.{◌≡◌, ℕ, suc, ◌*◌, ◌<◌, ◌≤◌, List, [], ◌∷◌, ◌++◌, length, map, refl, ap, ◌∙◌, sym, subst, slice_index_or, arith}
use Rattle.std.specs.Prelude.{true, false, ℤ, reverse, slice_get, Some, Option}
use Rattle.std.proofs.lemmas.List.{length-append, length-map}
use Rattle.std.proofs.lemmas.Option.{slice_get_within, slice_get-get_or}
use Rattle.sound_model.specs.Wav.{sound_bytes}
use Rattle.ses_units.specs.Bits.{bits_of}
use Rattle.ses_io.specs.FixedList.{Listed}
use Rattle.ses_io.specs.Outside.{SourceOutside, SinkOutside}
use Rattle.session_model.specs.Frames.{interleaved}
use Rattle.session_model.specs.Valid.{IsValid}
use Rattle.engine_model.specs.Edits.{generation, has_quit}
use Rattle.engine_model.specs.Editions.{edition}
use Rattle.engine_model.specs.Due as due
use Rattle.engine_model.specs.Journal as engine
use Rattle.engine_model.specs.Journal.{rolled, is_rolling}
use Rattle.engine_model.specs.Cycle.{entry_of}
use Rattle.engine_model.specs.Made.{fit_takes}
use Rattle.engine_model.specs.Mixed.{mixed_in}
use Rattle.engine_laws.proofs.ListLemmas.{item_at}
use Rattle.machine_model.specs.Events as machine
use Rattle.edition_log.specs.EditionState as log
use Rattle.disk_ring.specs.Sender.{Sender}
use Rattle.piece_item.specs.declared.ack.Ack.{Ack}
use Rattle.piece_item.specs.declared.take_block.TakeBlock.{TakeBlock}
use Rattle.piece_item.specs.Views as views
use Rattle.play_window.specs.WindowState.{IsNoEarlier}
use Rattle.cycle_journal.specs.declared.entry.Entry.{Entry}
use Rattle.cycle_journal.specs.JournalView.{seen_note, seen_entry, seen_state}
use Rattle.input_blocks.specs.Rest.{StreamForm, rest_sound}
use Rattle.input_blocks.specs.State.{IsReadTo}
use Rattle.track_capture.specs.declared.capture.TrackCapture.{TrackCapture}
use Rattle.track_capture.specs.Counted.{Counts, FitsRing}
use Rattle.track_playback.specs.declared.play_position.PlayPosition.{PlayPosition}
use Rattle.track_playback.specs.Heard.{IsAt}
use Rattle.track_playback.specs.SpareBoxes.{received_items, received_kinds}
use Rattle.track_playback.proofs.TrackLemmas.{played_later}
use Rattle.master_blocks.specs.State.{IsMasterOf}
use Rattle.process_cycle.specs.Captured.{Hears}
use Rattle.process_cycle.specs.Cycles.{Acknowledges, MakesEntry, MayCycle, ReadsBlock, block_after, next_bytes, next_state}
use Rattle.process_ends.specs.Ends.{block_of}
use Rattle.process_cycle.specs.Looked.{IsLookedUp}
use Rattle.process_cycle.specs.Making.{IsMade}
use Rattle.process_cycle.specs.Playing.{IsPlaying, IsRecorded}
use Rattle.process_cycle.specs.ProcessState.{ProcessState, Playing, entries_of, items_of, kinds_of, position_of, sound_of}
use Rattle.process_cycle.specs.Promised.{HoldsBlocks, IsMastered, Promises}
use Rattle.process_cycle.proofs.EntryLemmas.{block_same, entries_few, entries_many, note_there, picked_same, recorded_at, takes_of, unended}
use Rattle.process_cycle.proofs.HearsLemmas.{hears_with_entry}
use Rattle.process_cycle.proofs.MadeLemmas.{EntryFacts, captured_same, depth_after, entry_facts}
use Rattle.process_cycle.proofs.MasterLemmas.{mastered_with_entry}
use Rattle.process_cycle.proofs.NextLemmas.{counts_on, kinds_by_items, last_first, no_less, none_later, open_after, silent_past}
use Rattle.process_cycle.proofs.PromiseLemmas.{MakesOne, TakesOne, at_next, promises_with_entry}

module _ {I W : Type 0} (inputs : SourceOutside I) (at : Playing) (e : log.EditionState) (p q : ProcessState I W) (may : MayCycle inputs at e p) (made : Entry) (m : IsMade e p q made) where
  abbrev takes : List engine.Take
  takes = takes_of made.notes.items

  abbrev channels : ℕ
  channels = q.input.stream.form.channels

  facts : EntryFacts at e p m.first made
  facts = entry_facts inputs at e p q may made m

  module _ (b c : Sender Ack) (j : Listed Entry) (n : ℕ) (noted : j ≡ record p.journal { items = p.journal.items ++ made ∷ [] }) (next_is : n ≡ block_after made.state p.next) where
    abbrev pub after : ProcessState I W
    after = record p {
      input = q.input;
      master = q.master;
      ends = record { plays = p.ends.plays; takes = q.ends.takes; to_butler = b; to_control = c };
      captures = q.captures;
      journal = j;
      next = n;
    }

    long : length j.items ≡ suc (length p.journal.items)
    long = omega (arith, ap (λ x. length x.items) noted, length-append p.journal.items (made ∷ []))

    entries_are : entries_of after ≡ seen_entry made ∷ entries_of p
    entries_are = ap (λ x. reverse (map seen_entry x.items)) noted ∙ last_first seen_entry p.journal.items made

    rolls : IsAt (position_of p) made.state
    rolls = subst (IsAt (position_of p)) (sym (ap (λ x. x.state) m.same_entry)) m.rolls

    later_position : IsNoEarlier p.generation p.next p.generation n
    later_position = record { generation = omega arith; block = λ here. omega (arith, next_is, no_less made.state p.next) }

    next_with : n ≡ rolled p.generation (seen_entry made ∷ entries_of p)
    next_with = next_is ∙ counts_on (position_of p) made.state p.next made.edition made.settled (map seen_note made.notes.items) (entries_of p) rolls may.playing.next

    next_rolled : n ≡ rolled p.generation (entries_of after)
    next_rolled = next_with ∙ ap (rolled p.generation) (sym entries_are)

    module _ (ack : Ack) (told : ack ≡ record { cycle = length j.items; generation = p.generation; next = n; settled = made.settled })
        (to_butler : Acknowledges ack p.ends.to_butler b) (to_control : Acknowledges ack p.ends.to_control c) (master : IsMasterOf at.session q.master) (reads : ReadsBlock inputs at p q) where
      abbrev acks : ℕ → ℕ → ℕ → Option due.Ack
      acks cycle g next = Some (record { cycle = cycle; generation = g; next = next; settled = made.settled })

      generation_made : p.generation ≡ generation at.edits made.edition
      generation_made = may.playing.generation ∙ ap (generation at.edits) (sym (facts.number ∙ ap length may.given))

      ack_seen : machine.ack_of at.edits (seen_entry made ∷ entries_of p) ≡ Some (views.ack_of ack)
      ack_seen = ap (λ k. acks k (generation at.edits made.edition) (rolled (generation at.edits made.edition) (seen_entry made ∷ entries_of p))) (sym (long ∙ ap suc (sym (entries_many p))))
          ∙ ap (λ g. acks (length j.items) g (rolled g (seen_entry made ∷ entries_of p))) (sym generation_made) ∙ ap (acks (length j.items) p.generation) (sym next_with) ∙ ap (λ a. Some (views.ack_of a)) (sym told)

      abbrev place_as : ℕ → ℕ → ℕ → PlayPosition
      place_as depth g next = record { depth = depth; generation = g; next = next }

      place_is : position_of p ≡ at_next at (entries_of p)
      place_is = ap (λ k. place_as k p.generation p.next) may.playing.depth ∙ ap (place_as at.session.depth p.generation) may.playing.next
          ∙ ap (λ g. place_as at.session.depth g (rolled g (entries_of p))) may.playing.generation

      takes_one : (t : ℕ) (d f : Sender TakeBlock) → slice_get p.ends.takes.items t ≡ Some d → slice_get q.ends.takes.items t ≡ Some f → TakesOne at channels q.input.samples (seen_entry made) t d f
      takes_one t d f at_d at_f = let within : t < length at.session.tracks.items = omega (arith, slice_get_within p.ends.takes.items t d at_d, may.playing.takes) in
          let note = item_at made.notes.items t (omega (arith, within, facts.many_notes)) in let was = item_at m.first.notes.items t (omega (arith, within, facts.many_firsts)) in
          let k = item_at q.captures t (omega (arith, within, m.captures, may.playing.captures)) in let old = item_at p.captures t (omega (arith, within, may.playing.captures)) in record {
            take = note.0.take;
            noted = sym (ap (λ x. x.take) (note_there made.notes.items t note.0 note.1));
            captured = captured_same at.session e.session t channels q.input.samples d f note.0.take (picked_same inputs at e p may t channels q.input.samples)
                (m.captured t k.0 was.0 note.0 d f k.1 was.1 note.1 at_d at_f).captured;
            depth = (recorded_at inputs at e p may t old.0 d old.1 at_d).depth;
          }

      makes_one : MakesOne at (entries_of p) channels q.input.samples (seen_entry made) takes p.ends after.ends
      makes_one = record {
        is = facts.is ∙ ap (λ edits. entry_of at.session edits (entries_of p) (kinds_of p) takes (length edits)) may.given;
        one_each = facts.many_takes;
        tracks = may.playing.plays;
        fit = subst (λ edits. fit_takes (edition at.session edits (length edits)) (is_rolling (seen_state made.state)) (entries_of p) 0 takes ≡ true) may.given facts.takes;
        unended = subst (λ edits. has_quit edits (length edits) ≡ false) may.given (unended inputs at e p may);
        few = entries_few inputs at e p may;
        looked_up = λ t r at_r. subst (λ x. IsLookedUp at.edits x t (received_kinds r) (reverse r.tails) (entries_of p)) place_is (may.looked.looked_up t r at_r);
        plays = refl;
        rings = m.takes;
        taken = takes_one;
        to_butler = record { ack = ack; is = ack_seen; told = to_butler; depth = may.playing.to_butler.depth };
        to_control = record { ack = ack; is = ack_seen; told = to_control; depth = may.playing.to_control.depth };
      }

      recorded_after : (t : ℕ) (d : Sender TakeBlock) (k : TrackCapture) → t < length at.session.tracks.items → IsRecorded at.session t after (slice_index_or q.captures t k) (slice_index_or q.ends.takes.items t d)
      recorded_after t d k within = let kk = slice_index_or q.captures t k in let dd = slice_index_or p.ends.takes.items t d in let ff = slice_index_or q.ends.takes.items t d in
          let note = item_at made.notes.items t (omega (arith, within, facts.many_notes)) in let was = item_at m.first.notes.items t (omega (arith, within, facts.many_firsts)) in
          let one = m.captured t kk was.0 note.0 dd ff (slice_get-get_or q.captures t k (omega (arith, within, m.captures, may.playing.captures))) was.1 note.1
          (slice_get-get_or p.ends.takes.items t d (omega (arith, within, may.playing.takes))) (slice_get-get_or q.ends.takes.items t d (omega (arith, within, m.takes, may.playing.takes))) in record {
            depth = depth_after e.session t channels q.input.samples dd ff note.0.take one.captured ∙ (may.playing.recorded t d k within).depth;
            fits = subst (λ x. FitsRing x kk ff) (block_same inputs at e p may t) one.fits;
            counts = subst (λ es. Counts es t kk) (sym entries_are) (one.counts (seen_entry made) (ap (λ x. x.take) (note_there made.notes.items t note.0 note.1)));
          }

      abbrev block_of_input : StreamForm → ℕ → ℕ → List ℤ
      block_of_input stream frames cycles = interleaved (rest_sound stream at.start) stream.form.channels (cycles * frames) (frames * stream.form.channels)

      -- the block is the next of the input's sound, where it tells
      next_told : inputs.tells → q.input.samples ≡ block_of_input q.input.stream at.session.block (length (entries_of p))
      next_told tells = reads.samples tells ∙ ap (λ x. block_of_input x p.input.block (length p.journal.items)) (sym reads.stream)
          ∙ ap (λ x. block_of_input q.input.stream x (length p.journal.items)) may.playing.frames ∙ ap (block_of_input q.input.stream at.session.block) (sym (entries_many p))

      hears_after : Hears inputs.tells (sound_of at after) at.session (entries_of after) q.ends.takes.items
      hears_after = subst (λ es. Hears inputs.tells (sound_of at after) at.session es q.ends.takes.items) (sym entries_are)
          (hears_with_entry at (entries_of p) channels q.input.samples (seen_entry made) takes p.ends after.ends makes_one inputs.tells (rest_sound q.input.stream at.start)
          (silent_past q.input.stream at.start) next_told (subst (λ x. Hears inputs.tells (rest_sound x at.start) at.session (entries_of p) p.ends.takes.items) (sym reads.stream) may.playing.hears))

      pub plays_after_a_cycle : IsPlaying inputs at after
      plays_after_a_cycle = record {
        valid = may.playing.valid;
        plays = may.playing.plays;
        takes = m.takes ∙ may.playing.takes;
        playbacks = may.playing.playbacks;
        captures = m.captures ∙ may.playing.captures;
        depth = may.playing.depth;
        entered = may.playing.entered;
        generation = may.playing.generation;
        next = next_rolled;
        later = λ h above. ap (rolled h) entries_are ∙ none_later (position_of p) made.state h made.edition made.settled (map seen_note made.notes.items) (entries_of p) rolls above (may.playing.later h above);
        played = λ t r d within. played_later (position_of p) (position_of after) (block_of at.session t) (slice_index_or p.ends.plays.items t r) (slice_index_or p.playbacks t d) refl later_position (may.playing.played t r d within);
        recorded = recorded_after;
        to_butler = open_after at.session.depth ack p.ends.to_butler b to_butler may.playing.to_butler;
        to_control = open_after at.session.depth ack p.ends.to_control c to_control may.playing.to_control;
        master = master;
        frames = m.frames ∙ may.playing.frames;
        read = subst (λ k. IsReadTo inputs (record { start = at.start; blocks = k }) q.input) (sym long) reads.place;
        cycles = subst (λ x. x.room ≤ 100000) (sym noted) may.playing.cycles;
        within = omega (arith, long, ap (λ x. x.room) noted, may.room);
        promises = subst (λ es. Promises at es after.ends) (sym entries_are) (promises_with_entry at (entries_of p) channels q.input.samples (seen_entry made) takes p.ends after.ends makes_one may.playing.promises);
        hears = hears_after;
      }

      pub makes_entry : MakesEntry at.session e p after
      makes_entry = record {
        made = made;
        takes = takes;
        entry = facts.is;
        fit = facts.fit;
        noted = noted;
        captured = λ t d f note at_d at_f at_note. let was = item_at m.first.notes.items t (omega (arith, slice_get_within made.notes.items t note at_note, m.notes)) in
            let k = item_at q.captures t (omega (arith, slice_get_within p.ends.takes.items t d at_d, m.captures, may.playing.captures, may.playing.takes)) in
            captured_same at.session e.session t channels q.input.samples d f note.take (picked_same inputs at e p may t channels q.input.samples) (m.captured t k.0 was.0 note d f k.1 was.1 at_note at_d at_f).captured;
        to_butler = subst (λ a. Acknowledges a p.ends.to_butler b) (told ∙ ap told_at next_rolled) to_butler;
        to_control = subst (λ a. Acknowledges a p.ends.to_control c) (told ∙ ap told_at next_rolled) to_control;
        notes = omega (arith, facts.many_notes, may.playing.takes);
        rings = m.takes;
        takes_room = m.takes_room;
        same = refl;
      }
        where
          told_at : ℕ → Ack
          told_at next = record { cycle = length j.items; generation = p.generation; next = next; settled = made.settled }

    pub mastered_after_a_cycle : (outside : SinkOutside W) → (outside.tells → outside.held q.master.sink ≡ outside.held p.master.sink ++ next_bytes at.session e p) → IsMastered outside at p → IsMastered outside at after
    mastered_after_a_cycle outside wrote was tells = subst (λ es. HoldsBlocks outside at j.room es (items_of p) q.master.sink) (sym entries_are)
        (subst (λ x. HoldsBlocks outside at x (seen_entry made ∷ entries_of p) (items_of p) q.master.sink) (sym (ap (λ x. x.room) noted))
        (mastered_with_entry outside at p.journal.room (entries_of p) (items_of p) takes (seen_entry made) p.master.sink q.master.sink
        (subst (λ edits. IsValid (edition at.session edits (length edits)).session) may.given (subst IsValid (ap (λ x. x.session) may.edition.state) m.valid))
        (length-map p.ends.plays.items received_items ∙ may.playing.plays) (facts.many_takes ∙ sym (length-map p.ends.plays.items received_items ∙ may.playing.plays))
        (facts.is ∙ ap (λ edits. entry_of at.session edits (entries_of p) (kinds_of p) takes (length edits)) may.given ∙ ap (λ kinds. entry_of at.session at.edits (entries_of p) kinds takes (length at.edits)) (sym (kinds_by_items p)))
        (wrote tells ∙ ap (λ bytes. outside.held p.master.sink ++ bytes) (bytes_as ∙ ap (λ edits. sound_bytes (bits_of at.session.bits) (mixed_in at.session edits (items_of p) made.edition (seen_state made.state))) may.given))
        (was tells)))
      where
        bytes_as : next_bytes at.session e p ≡ sound_bytes (bits_of at.session.bits) (mixed_in at.session e.edits (items_of p) made.edition (seen_state made.state))
        bytes_as = ap (λ k. sound_bytes (bits_of at.session.bits) (mixed_in at.session e.edits (items_of p) k (next_state e p))) (sym facts.number)
            ∙ ap (λ x. sound_bytes (bits_of at.session.bits) (mixed_in at.session e.edits (items_of p) made.edition x)) (sym facts.state)
