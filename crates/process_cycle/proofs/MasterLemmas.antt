-- The master holds the blocks that its entries stand for, while a process looks, and with each entry.
use Rattle.std.proofs.Common.{◌≡◌, ℕ, List, [], ◌∷◌, ◌++◌, length, map, reverse, sym, ap, subst, ◌∙◌}
use Rattle.std.specs.Prelude.{Bool, true, slice_get, Some, All}
use Rattle.std.specs.List.{list_all, flat_map}
use Rattle.std.proofs.lemmas.Bool.{and_parts}
use Rattle.std.proofs.lemmas.List.{append_assoc, append-nil, reverse-append}
use Rattle.std.proofs.lemmas.List.Concat.{flat_map-append}
use Rattle.std.proofs.lemmas.List.Elements.{All-tail}
use mathlib.Core.List.{IsPrefix}
use Rattle.sound_model.specs.Wav.{sound_bytes}
use Rattle.ses_units.specs.Bits.{bits_of}
use Rattle.ses_io.specs.Outside.{SinkOutside}
use Rattle.session_model.specs.declared.edit.Edit.{Edit}
use Rattle.session_model.specs.declared.session.Session.{Session}
use Rattle.session_model.specs.Valid.{IsValid}
use Rattle.engine_model.specs.Editions.{edition}
use Rattle.engine_model.specs.Items.{Item}
use Rattle.engine_model.specs.Journal.{Entry, Take}
use Rattle.engine_model.specs.Cycle.{entry_of}
use Rattle.engine_model.specs.Mixed.{mixed}
use Rattle.engine_model.specs.Played.{Samples, samples_of, IsGenuine}
use Rattle.engine_laws.specs.PlayedLaws.{IsOfTrack, is_of}
use Rattle.engine_laws.proofs.JournalInvariantLemmas.{get_new}
use Rattle.master_blocks.specs.Bytes.{head_bytes, entry_bytes}
use Rattle.process_cycle.specs.ProcessState.{Playing, entered}
use Rattle.process_cycle.specs.Promised.{AllOfTrack, HoldsBlocks}
use Rattle.process_cycle.proofs.BlockLemmas.{block_made}

-- of each track more was received
pub record ReceivesMore (olds news : List (List Item)) : Type 0 where
  pub many : length news ≡ length olds
  pub each : (t : ℕ) (xs ys : List Item) → slice_get olds t ≡ Some xs → slice_get news t ≡ Some ys → (more : List Item) × (ys ≡ more ++ xs)

-- ---- what was received earlier is of its track where all is

all_back : (p : Item → Bool) (more xs : List Item) → list_all p (more ++ xs) ≡ true → list_all p xs ≡ true
all_back p [] xs all = all
all_back p (y ∷ more) xs all = all_back p more xs (and_parts (p y) (list_all p (more ++ xs)) all).1

each_back : (P : Item → Type 0) (more xs : List Item) → All P (more ++ xs) → All P xs
each_back P [] xs all = all
each_back P (y ∷ more) xs all = each_back P more xs (All-tail P y (more ++ xs) all)

all_earlier : (s : Session) (edits : List Edit) (samples : Samples) (olds news : List (List Item)) → ReceivesMore olds news → AllOfTrack s edits samples news → AllOfTrack s edits samples olds
all_earlier s edits samples olds news received all t xs there = let ys = get_new news olds t xs (sym received.many) there in
    let more = received.each t xs ys.0 there ys.1 in let of = subst (IsOfTrack s edits samples t) more.1 (all t ys.0 ys.1) in record {
      named = all_back (is_of t) more.0 xs of.named;
      genuine = each_back (IsGenuine s edits samples) more.0 xs of.genuine;
    }

-- ---- the blocks of one entry more

blocks_with : (f : Entry → List ℕ) (e : Entry) (entries : List Entry) → flat_map f (reverse entries) ++ f e ≡ flat_map f (reverse (e ∷ entries))
blocks_with f e entries = ap (λ l. flat_map f (reverse entries) ++ l) (sym (append-nil (f e))) ∙ sym (flat_map-append f (reverse entries) (e ∷ []))
    ∙ sym (ap (flat_map f) (reverse-append (e ∷ []) entries))

-- ---- the master

module _ {W : Type 0} (outside : SinkOutside W) (at : Playing) (cycles : ℕ) where
  -- behind its header nothing was written yet
  pub mastered_first : (tracks : List (List Item)) (sink : W) → outside.held sink ≡ at.before ++ head_bytes at.session cycles → HoldsBlocks outside at cycles [] tracks sink
  mastered_first tracks sink held more sounds all = held ∙ sym (append-nil (at.before ++ head_bytes at.session cycles))

  -- more was received, in an edition that goes on
  pub mastered_while_looking : (edits : List Edit) (entries : List Entry) (olds news : List (List Item)) (sink : W) → IsPrefix at.edits edits → ReceivesMore olds news →
      HoldsBlocks outside at cycles entries olds sink → HoldsBlocks outside (entered edits at) cycles entries news sink
  mastered_while_looking edits entries olds news sink further received was = subst (λ list. HoldsBlocks outside (entered list at) cycles entries news sink) further.1
      (λ more sounds. subst (λ list. AllOfTrack at.session list (samples_of sounds at.session list) news →
      outside.held sink ≡ at.before ++ head_bytes at.session cycles ++ flat_map (entry_bytes at.session list (samples_of sounds at.session list)) (reverse entries))
      (sym (append_assoc at.edits further.0 more))
      (λ all. was (further.0 ++ more) sounds (all_earlier at.session (at.edits ++ (further.0 ++ more)) (samples_of sounds at.session (at.edits ++ (further.0 ++ more))) olds news received all)))

  -- the block of an entry was written, which was made in the edition of all edits
  pub mastered_with_entry : (entries : List Entry) (tracks : List (List Item)) (takes : List Take) (e : Entry) (sink after : W) →
      IsValid (edition at.session at.edits (length at.edits)).session → length tracks ≡ length at.session.tracks.items → length takes ≡ length tracks →
      e ≡ entry_of at.session at.edits entries (map (map (λ i. i.kind)) tracks) takes (length at.edits) →
      outside.held after ≡ outside.held sink ++ sound_bytes (bits_of at.session.bits) (mixed at.session at.edits tracks e) →
      HoldsBlocks outside at cycles entries tracks sink → HoldsBlocks outside at cycles (e ∷ entries) tracks after
  mastered_with_entry entries tracks takes e sink after valid many one_each is wrote was more sounds all =
      let edits : List Edit = at.edits ++ more in let samples : Samples = samples_of sounds at.session edits in
      let made = block_made at.session at.edits more samples entries tracks takes e valid many one_each is all in
      wrote ∙ ap (λ l. l ++ sound_bytes (bits_of at.session.bits) (mixed at.session at.edits tracks e)) (was more sounds all)
      ∙ ap (λ l. at.before ++ head_bytes at.session cycles ++ flat_map (entry_bytes at.session edits samples) (reverse entries) ++ sound_bytes (bits_of at.session.bits) l) made
      ∙ append_assoc (at.before ++ head_bytes at.session cycles) (flat_map (entry_bytes at.session edits samples) (reverse entries)) (entry_bytes at.session edits samples e)
      ∙ ap (λ l. at.before ++ head_bytes at.session cycles ++ l) (blocks_with (entry_bytes at.session edits samples) e entries)
