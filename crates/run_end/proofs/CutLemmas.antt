-- Where a write of the master of a run has failed.
use Rattle.std.proofs.Common.{◌≡◌, ℕ, zero, suc, ◌≤◌, ◌<◌, List, [], ◌∷◌, ◌++◌, length, refl, sym, ap, subst, ◌∙◌, arith, append_assoc, le_refl}
use Rattle.std.specs.Prelude.{Bool, true, false, ◌&&◌, ◌==◌, if◌then◌else◌, map, reverse}
use Rattle.std.specs.List.{flat_map}
use Rattle.std.proofs.lemmas.Bool.{and_from, eq-eqb}
use Rattle.std.proofs.lemmas.List.{length-append, length-map, reverse-append, reverse-reverse}
use Rattle.std.proofs.lemmas.Option.{same_Some}
use Rattle.std.proofs.lemmas.Simd.{map-map}
use Rattle.ses_io.specs.FixedList.{Listed}
use Rattle.ses_io.specs.Outside.{SourceOutside, SinkOutside}
use Rattle.ses_io.specs.Streams.{AppendsSome}
use Rattle.ses_units.specs.Bits.{bits_of}
use Rattle.sound_model.specs.Wav.{sound_bytes}
use Rattle.session_model.specs.declared.session.Session.{Session}
use Rattle.session_model.specs.declared.edit.Edit.{Edit}
use Rattle.session_model.specs.Valid.{IsValid}
use Rattle.engine_model.specs.Cycle.{entry_of, state_of}
use Rattle.engine_model.specs.Editions as engine
use Rattle.engine_model.specs.Editions.{edition}
use Rattle.engine_model.specs.Edits.{generation, has_quit}
use Rattle.engine_model.specs.Fits.{fits_take, is_lawful, next_take, records}
use Rattle.engine_model.specs.Items.{Item, Kind}
use Rattle.engine_model.specs.Journal.{Entry, Off, State, Take, Taken, is_rolling, rolled}
use Rattle.engine_model.specs.Made.{AreMade, Receives, fit_takes}
use Rattle.engine_model.specs.Mixed.{mixed_in}
use Rattle.engine_model.specs.Played.{Samples}
use Rattle.engine_laws.specs.JournalInvariant.{AreOrdered}
use Rattle.engine_laws.proofs.MadeLemmas.{made_stays, what_is_made_is_lawful}
use Rattle.edition_log.specs.EditionState.{state_of as state_by_edition}
use Rattle.edition_log.proofs.PlayLaws.{editions_play_their_places}
use Rattle.cycle_journal.specs.declared.entry.Entry as noted
use Rattle.cycle_journal.specs.JournalView.{seen_entries, seen_entry}
use Rattle.master_blocks.specs.Bytes.{entry_bytes, head_bytes}
use Rattle.track_playback.specs.SpareBoxes.{received_items}
use Rattle.process_cycle.specs.Cycles.{next_bytes, next_state}
use Rattle.process_cycle.specs.ProcessState.{Playing, ProcessState, entries_of, items_of, kinds_of}
use Rattle.process_cycle.specs.Promised.{AllOfTrack}
use Rattle.process_cycle.proofs.BlockLemmas.{block_made}
use Rattle.process_cycle.specs.CutOff.{IsCutInCycle}
use Rattle.run_end.specs.Mastered.{HasNextInPart, bytes_made}

-- ---- what a cycle would take

-- each track that is recorded takes the next block of its take
pub next_takes : engine.Edition → Bool → List Entry → ℕ → ℕ → List Take
next_takes now rolls before t zero = []
next_takes now rolls before t (suc more) = (if rolls && records now t then Taken (next_take t before).0 (next_take t before).1 else Off) ∷ next_takes now rolls before (suc t) more

takes_many : (now : engine.Edition) (rolls : Bool) (before : List Entry) (t many : ℕ) → length (next_takes now rolls before t many) ≡ many
unfolding next_takes
takes_many now rolls before t zero = refl
takes_many now rolls before t (suc more) = ap suc (takes_many now rolls before (suc t) more)

same_number : (n : ℕ) → (n == n) ≡ true
same_number n = eq-eqb n n refl

takes_fit : (now : engine.Edition) (rolls : Bool) (before : List Entry) (t many : ℕ) → fit_takes now rolls before t (next_takes now rolls before t many) ≡ true
unfolding next_takes
takes_fit now rolls before t zero = refl
takes_fit now rolls before t (suc more) = and_from (fits_take (rolls && records now t) (next_take t before) (if rolls && records now t then Taken (next_take t before).0 (next_take t before).1 else Off))
    (fit_takes now rolls before (suc t) (next_takes now rolls before (suc t) more)) (by (rolls && records now t)) (takes_fit now rolls before (suc t) more)
  where
    by : (b : Bool) → fits_take b (next_take t before) (if b then Taken (next_take t before).0 (next_take t before).1 else Off) ≡ true
    by true = and_from ((next_take t before).0 == (next_take t before).0) ((next_take t before).1 == (next_take t before).1) (same_number (next_take t before).0) (same_number (next_take t before).1)
    by false = refl

-- as much was received as was
receives_same : (tracks : List (List Kind)) → Receives tracks tracks
receives_same tracks = record { many = refl; each = λ t xs ys here there. ([], same_Some ys xs (sym there ∙ here)) }

-- ---- the master before its last write

module _ {I W : Type 0} (inputs : SourceOutside I) (sinks : SinkOutside W) (at : Playing) (more : List Edit) (samples : Samples) (told : sinks.tells) where
  abbrev edits : List Edit
  edits = at.edits ++ more

  abbrev s : Session
  s = at.session

  module _ (p : ProcessState I W) (all : AllOfTrack s edits samples (items_of p))
      (holds : sinks.held p.master.sink ≡ at.before ++ head_bytes s p.journal.room ++ flat_map (entry_bytes s edits samples) (reverse (entries_of p))) where
    -- it holds header and blocks
    pub holds_made : sinks.held p.master.sink ≡ at.before ++ bytes_made s edits samples p.journal.room (seen_entries p.journal.items)
    holds_made = holds ∙ append_assoc at.before (head_bytes s p.journal.room) (flat_map (entry_bytes s edits samples) (reverse (entries_of p)))
        ∙ ap (λ l. at.before ++ (head_bytes s p.journal.room ++ flat_map (entry_bytes s edits samples) l)) (reverse-reverse (seen_entries p.journal.items))

-- ---- a cycle whose write failed

module _ {I W : Type 0} (inputs : SourceOutside I) (sinks : SinkOutside W) (at : Playing) (more : List Edit) (samples : Samples) (p : ProcessState I W) (cut : IsCutInCycle inputs sinks at p)
    (all : AllOfTrack at.session (at.edits ++ more) samples (items_of p)) (ordered : AreOrdered at.session (at.edits ++ more) (kinds_of p)) where
  abbrev q : ProcessState I W
  q = cut.before

  abbrev heard : List Edit
  heard = at.edits ++ more

  abbrev now : Session
  now = at.session

  -- the edition that was played
  abbrev played : engine.Edition
  played = edition now at.edits (length at.edits)

  abbrev g : ℕ
  g = generation at.edits (length at.edits)

  abbrev tracks : List (List Item)
  tracks = items_of q

  abbrev kinds : List (List Kind)
  kinds = map (map (λ (i : Item). i.kind)) tracks

  abbrev state : State
  state = state_of played.transport.rolling g (rolled g (entries_of q)) kinds

  abbrev takes : List Take
  takes = next_takes played (is_rolling state) (entries_of q) 0 (length now.tracks.items)

  -- the entry that the cycle would have made
  abbrev pub next : Entry
  next = entry_of now at.edits (entries_of q) kinds takes (length at.edits)

  played_is : state_by_edition cut.edition ≡ played
  played_is = cut.edition_of.state ∙ ap (λ l. edition now l (length l)) cut.given

  same_kinds : kinds_of q ≡ kinds
  same_kinds = sym (map-map (map (λ (i : Item). i.kind)) received_items q.ends.plays.items)

  same_state : next_state cut.edition q ≡ state
  same_state = ap (λ (z : engine.Edition). state_of z.transport.rolling q.generation q.next (kinds_of q)) played_is
      ∙ ap (λ n. state_of played.transport.rolling q.generation n (kinds_of q)) cut.playing.next
      ∙ ap (λ h. state_of played.transport.rolling h (rolled h (entries_of q)) (kinds_of q)) cut.playing.generation
      ∙ ap (λ l. state_of played.transport.rolling g (rolled g (entries_of q)) l) same_kinds

  many : length tracks ≡ length now.tracks.items
  many = length-map q.ends.plays.items received_items ∙ cut.playing.plays

  all_before : AllOfTrack now heard samples tracks
  all_before = subst (AllOfTrack now heard samples) cut.items all

  -- its bytes are those of that entry's block
  bytes_are : next_bytes now cut.edition q ≡ entry_bytes now heard samples next
  bytes_are = ap (λ l. sound_bytes (bits_of now.bits) (mixed_in now l tracks (length l) (next_state cut.edition q))) cut.given
      ∙ ap (λ z. sound_bytes (bits_of now.bits) (mixed_in now at.edits tracks (length at.edits) z)) same_state
      ∙ ap (sound_bytes (bits_of now.bits)) (block_made now at.edits more samples (entries_of q) tracks takes next (subst (λ (z : engine.Edition). IsValid z.session) played_is cut.valid)
      many (takes_many played (is_rolling state) (entries_of q) 0 (length now.tracks.items) ∙ sym many) refl all_before)

  -- no edit that it had seen quits
  unquit : has_quit at.edits (length at.edits) ≡ false
  unquit = sym (ap (λ l. has_quit l (length l)) cut.given) ∙ sym (editions_play_their_places now cut.edition cut.edition_of).quit ∙ cut.unended

  -- it makes a lawful journal with those before
  lawful : is_lawful now heard (seen_entries q.journal.items ++ next ∷ []) ≡ true
  lawful = subst (λ l. is_lawful now heard l ≡ true) (reverse-append (next ∷ []) (entries_of q) ∙ ap (λ l. l ++ next ∷ []) (reverse-reverse (seen_entries q.journal.items)))
      (what_is_made_is_lawful now heard (length at.edits) kinds (next ∷ entries_of q) within
      (subst (AreOrdered now heard) (sym (map-map (map (λ (i : Item). i.kind)) received_items p.ends.plays.items) ∙ ap (map (map (λ (i : Item). i.kind))) cut.items) ordered)
      (made_stays now at.edits more (length at.edits) kinds (next ∷ entries_of q) (le_refl (length at.edits)) made))
    where
      within : length at.edits ≤ length (at.edits ++ more)
      within = omega (arith, length-append at.edits more)

      made : AreMade now at.edits (length at.edits) kinds (next ∷ entries_of q)
      made = record {
        entered = length at.edits;
        in_time = le_refl (length at.edits);
        unended = unquit;
        by = kinds;
        many = length-map tracks (map (λ (i : Item). i.kind)) ∙ many;
        received = receives_same kinds;
        takes = takes;
        one_each = takes_many played (is_rolling state) (entries_of q) 0 (length now.tracks.items);
        fit = takes_fit played (is_rolling state) (entries_of q) 0 (length now.tracks.items);
        is = refl;
        earlier = subst (λ l. AreMade now at.edits (length at.edits) l (entries_of q)) same_kinds cut.playing.promises.made;
      }

  -- **a front of its block was written behind those of all entries**
  pub next_in_part : (first : List ℕ) → (sinks.held q.master.sink ≡ first ++ bytes_made now heard samples q.journal.room (seen_entries q.journal.items)) → sinks.tells →
      HasNextInPart first (sinks.held p.master.sink) now heard samples p.journal.room (seen_entries p.journal.items)
  next_in_part first holds told = record {
    next = next;
    room = subst (λ (j : Listed noted.Entry). length (seen_entries j.items) < j.room) (sym cut.journal) (omega (arith, cut.room, length-map q.journal.items seen_entry));
    lawful = subst (λ (j : Listed noted.Entry). is_lawful now heard (seen_entries j.items ++ next ∷ []) ≡ true) (sym cut.journal) lawful;
    front = subst (λ (j : Listed noted.Entry). AppendsSome (first ++ bytes_made now heard samples j.room (seen_entries j.items)) (sinks.held p.master.sink) (entry_bytes now heard samples next)) (sym cut.journal)
        (subst (λ l. AppendsSome l (sinks.held p.master.sink) (entry_bytes now heard samples next)) holds
        (subst (AppendsSome (sinks.held q.master.sink) (sinks.held p.master.sink)) bytes_are (cut.front told)));
  }
