-- What the master of a run holds at its end, by what its process and its butler have: its file, or where a write failed a front of that.
use Rattle.std.proofs.Common.{◌≡◌, inl, inr, ℕ, ◌≤◌, List, ◌++◌, length, sym, ap, subst, ◌∙◌, arith}
use Rattle.std.specs.Prelude.{◌⊎◌, Bool, false, map}
use Rattle.std.specs.List.{flat_map}
use Rattle.std.proofs.lemmas.List.{append_assoc, length-map}
use Rattle.ses_io.specs.Outside.{MediaOutside, SourceOutside, SinkOutside}
use Rattle.ses_io.specs.Streams.{AppendsSome}
use Rattle.sound_model.specs.Regions.{Sounds}
use Rattle.session_model.specs.declared.session.Session.{Session}
use Rattle.session_model.specs.declared.edit.Edit.{Edit}
use Rattle.session_model.specs.Valid.{IsValid}
use Rattle.engine_laws.specs.JournalInvariant.{AreOrdered}
use Rattle.engine_model.specs.Edits.{has_quit}
use Rattle.engine_model.specs.Journal.{Entry}
use Rattle.engine_model.specs.Played.{Samples, master_file, samples_of}
use Rattle.audio_source.specs.Told.{source_sound}
use Rattle.cycle_journal.specs.JournalView.{seen_entries, seen_entry}
use Rattle.master_blocks.specs.Bytes.{end_bytes, entry_bytes, head_bytes}
use Rattle.master_blocks.specs.Laws.{TheMasterIsItsBlocks}
use Rattle.track_playback.specs.SpareBoxes.{received_items, received_kinds}
use Rattle.process_cycle.specs.ProcessState.{ProcessState, items_of, kinds_of}
use Rattle.process_cycle.specs.Promised.{AllOfTrack}
use Rattle.worker_pair.specs.declared.ending.Ending.{Ending}
use Rattle.worker_pair.specs.Begun.{At, playing_at}
use Rattle.worker_pair.specs.Runs.{Serves}
use Rattle.process_cycle.specs.CutOff.{HoldsAll, IsCutAtEnd, IsCutAtHead, IsCutInCycle}
use Rattle.run_end.specs.Mastered.{IsCutOff, bytes_made}
use Rattle.run_end.proofs.CutLemmas.{holds_made, next_in_part}
use Rattle.run_end.proofs.ReceivedLemmas.{of_tracks, ordered}

-- a process whose ends have met a butler's; `more` edits have come since it looked last
module _ {V I W : Type 0} (media : MediaOutside V) (inputs : SourceOutside I) (sinks : SinkOutside W) (at : At) (e : Ending V) (serves : Serves media at e) (p : ProcessState I W) (same_ends : p.ends ≡ e.ends)
    (more : List Edit) (all : at.played ++ more ≡ e.edition.edits) (tells : media.tells) (told : sinks.tells) where
  abbrev s : Session
  s = at.begun.session

  abbrev heard : Sounds
  heard = source_sound at.begun.files e.butler.sources.opened

  -- by all edits
  abbrev pub edits : List Edit
  edits = at.played ++ more

  abbrev pub samples : Samples
  samples = samples_of heard s edits

  abbrev journal : List Entry
  journal = seen_entries p.journal.items

  all_received : AllOfTrack s edits samples (items_of p)
  all_received = subst (λ ends. AllOfTrack s edits samples (map received_items ends.plays.items)) (sym same_ends)
      (subst (λ es. AllOfTrack s es (samples_of heard s es) (map received_items e.ends.plays.items)) (sym all) (of_tracks media at e serves tells))

  all_ordered : AreOrdered s edits (kinds_of p)
  all_ordered = subst (λ ends. AreOrdered s edits (map received_kinds ends.plays.items)) (sym same_ends)
      (subst (λ es. AreOrdered s es (map received_kinds e.ends.plays.items)) (sym all) (ordered media at e serves))

  -- **Where no write failed it is the file.**
  pub is_whole : TheMasterIsItsBlocks → IsValid s → length p.journal.items ≤ p.journal.room → HoldsAll sinks (playing_at at) p →
      sinks.held p.master.sink ≡ at.begun.before ++ master_file s edits samples p.journal.room journal
  is_whole the_master_is_its_blocks valid few holds = holds more heard all_received ∙ ap (λ l. l ++ ends) (append_assoc at.begun.before head blocks) ∙ append_assoc at.begun.before (head ++ blocks) ends
      ∙ ap (λ l. at.begun.before ++ l) (ap (λ n. head ++ blocks ++ end_bytes s p.journal.room n) (sym (length-map p.journal.items seen_entry))
      ∙ sym (the_master_is_its_blocks s edits samples p.journal.room journal valid (omega (arith, length-map p.journal.items seen_entry, few))))
    where
      head : List ℕ
      head = head_bytes s p.journal.room

      blocks : List ℕ
      blocks = flat_map (entry_bytes s edits samples) journal

      ends : List ℕ
      ends = end_bytes s p.journal.room (length p.journal.items)

  abbrev CutOff : Bool → Type 0
  CutOff input = IsCutOff input at.begun.before (sinks.held p.master.sink) s edits samples p.journal.room journal

  -- **Where a write of the header failed, or one of a cycle, it is cut off.**
  pub cut_before : (input : Bool) → IsCutAtHead inputs sinks (playing_at at) p ⊎ IsCutInCycle inputs sinks (playing_at at) p → CutOff input
  cut_before input (inl c) = inl (ap seen_entries c.none, c.front told)
  cut_before input (inr c) = inr (inl (next_in_part inputs sinks (playing_at at) more samples p c all_received all_ordered at.begun.before
      (holds_made inputs sinks (playing_at at) more samples told c.before before (c.mastered told more heard before)) told))
    where
      before : AllOfTrack s edits samples (items_of c.before)
      before = subst (AllOfTrack s edits samples) c.items all_received

  -- **And where the write of its end failed**, and all cycles were made unless there was a quit or the input has failed.
  pub cut_at_end : (input : Bool) → (has_quit edits (length edits) ≡ false → input ≡ false → length journal ≡ p.journal.room) → IsCutAtEnd sinks (playing_at at) p → CutOff input
  cut_at_end input made c = inr (inr (
    made,
    subst (λ l. AppendsSome l (sinks.held p.master.sink) (end_bytes s p.journal.room (length journal))) holds
        (subst (λ n. AppendsSome (sinks.held c.before.master.sink) (sinks.held p.master.sink) (end_bytes s p.journal.room n)) (sym (length-map p.journal.items seen_entry)) (c.front told)),
  ))
    where
      before : AllOfTrack s edits samples (items_of c.before)
      before = subst (AllOfTrack s edits samples) (ap (λ (z : ProcessState I W). items_of z) c.same) all_received

      holds : sinks.held c.before.master.sink ≡ at.begun.before ++ bytes_made s edits samples p.journal.room journal
      holds = holds_made inputs sinks (playing_at at) more samples told c.before before (c.mastered told more heard before)
          ∙ ap (λ (z : ProcessState I W). at.begun.before ++ bytes_made s edits samples z.journal.room (seen_entries z.journal.items)) (sym c.same)
