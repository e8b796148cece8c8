-- The takes that a closed run leaves.
use Rattle.std.proofs.Common.{◌≡◌, ℕ, ◌<◌, List, [], ◌∷◌, ◌++◌, length, length-append, ap₂, refl, ap, subst, ◌∙◌, arith}
use Rattle.std.specs.Prelude.{true, false, ◌||◌, ◌&&◌, ◌==◌, IfSome, drop, map, reverse, slice_get, Some, None}
use Rattle.std.specs.Option.{option_map_or}
use Rattle.std.proofs.lemmas.Bool.{ne_eqb, or_parts}
use Rattle.std.proofs.lemmas.List.{length-map, reverse-reverse}
use Rattle.ses_io.specs.Files.{Files}
use Rattle.ses_io.specs.Outside.{MediaOutside, SourceOutside}
use Rattle.session_model.specs.declared.session.Session.{Session}
use Rattle.engine_model.specs.Journal.{Entry}
use Rattle.engine_model.specs.Takes.{Input, take_name}
use Rattle.engine_laws.proofs.ListLemmas.{item_at}
use Rattle.disk_ring.specs.Sender.{Sender}
use Rattle.disk_ring.specs.Receiver.{Receiver}
use Rattle.piece_item.specs.declared.take_block.TakeBlock.{TakeBlock}
use Rattle.cycle_journal.specs.JournalView.{seen_entries}
use Rattle.capture_flush.specs.Blocks.{block_of, taken_blocks}
use Rattle.capture_flush.specs.Finished.{AreWholeBut, IsCounted, Recorded, is_among}
use Rattle.capture_flush.specs.Finished as finished
use Rattle.capture_flush.specs.Flushed.{Tape, IsFlushed, IsFront, flushed_file, flushed_sound}
use Rattle.capture_flush.specs.Blocks.{blocks_in, kept, last_from}
use Rattle.capture_flush.specs.Taking.{Taking, is_noted, most_failed}
use Rattle.capture_flush.specs.declared.track.FailedTake.{FailedTake}
use Rattle.capture_drain.specs.Files.{blocks_at, tape_of}
use Rattle.process_cycle.specs.Captured.{AreOfInput}
use Rattle.process_cycle.proofs.CountedLemmas.{made_counted}
use Rattle.track_playback.specs.SpareBoxes.{received_kinds}
use Rattle.worker_pair.specs.declared.ending.Ending.{Ending}
use Rattle.worker_pair.specs.Runs.{Serves}
use Rattle.worker_pair.specs.Takes.{run_of}
use Rattle.machine_laws.proofs.Tracks.{also_there}
use Rattle.run_end.specs.Started.{Started}
use Rattle.run_end.specs.declared.leaving.AtRest.{AtRest}
use Rattle.run_end.specs.AtRest.{IsAtRest}
use Rattle.run_end.specs.LastTurns.{at_last}
use Rattle.run_end.specs.Parted.{HasFlushedAll}
use Rattle.run_end.specs.Takes.{AreCut, recorded_of}

-- files that hold the blocks of a tape hold those of one with the same blocks
same_tape : (a b : Tape) (f : Taking) (files : Files) → a.session ≡ b.session → a.held ≡ b.held → ((t : ℕ) → t < length b.session.tracks.items → a.blocks t ≡ b.blocks t) → IsFlushed a f files → IsFlushed b f files
same_tape a b f files session held same was = let now = moved in let part = now.in_part in record {
  last = λ t lt. now.last t lt ∙ ap (last_from b.session t None) (same t lt);
  takes = λ t n lt fine. now.takes t n lt fine ∙ ap (λ l. flushed_file b.session t n (kept b.session t l)) (same t lt);
  in_part = record {
    fresh = part.fresh;
    takes = λ t n lt. subst (λ l. IfSome (files (take_name b.session t n)) (λ bytes. IsFront (drop 44 bytes) (flushed_sound b.session t n (kept b.session t l)))) (same t lt) (part.takes t n lt);
    none = λ t n lt none. part.none t n lt (ap (λ l. blocks_in n (kept b.session t l)) (same t lt) ∙ none);
    others = part.others;
  };
}
  where
    moved : IsFlushed (record { session = b.session; held = b.held; blocks = a.blocks }) f files
    moved = subst (λ s. IsFlushed (record { session = s; held = b.held; blocks = a.blocks }) f files) session (subst (λ h. IsFlushed (record { session = a.session; held = h; blocks = a.blocks }) f files) held was)

-- a take that failed, by its track and its number
abbrev pair_of : FailedTake → ℕ × ℕ
pair_of k = (k.track, k.take)

not_among : (failed : List FailedTake) (cut : List (ℕ × ℕ)) (t n : ℕ) → is_among t n (map pair_of failed ++ cut) ≡ false → (is_noted failed t n ≡ false) × (is_among t n cut ≡ false)
not_among [] cut t n none = (refl, none)
not_among (k ∷ ks) cut t n none = let parts = or_parts (k.track == t && k.take == n) (is_among t n (map pair_of ks ++ cut)) none in let more = not_among ks cut t n parts.1 in
    (ap (λ b. b || is_noted ks t n) parts.0 ∙ more.0, more.1)

module _ {V I W : Type 0} (media : MediaOutside V) (inputs : SourceOutside I) (on : Started V I W) (c : AtRest V I W) (is : IsAtRest media inputs on c) where
  abbrev e : Ending V
  e = c.ending

  abbrev s : Session
  s = on.begun.session

  abbrev journal : List Entry
  journal = seen_entries c.stopped.journal.items

  serves : Serves media (at_last on.begun e) e
  serves = is.ended.last.serves

  -- takes are counted
  pub counted : IsCounted s journal
  counted = subst (IsCounted s) (reverse-reverse journal)
      (made_counted s e.edition.edits (length e.edition.edits) (map received_kinds e.ends.plays.items) (reverse journal) is.ended.promises.made)

  -- of no more takes than writes failed, while all others are whole
  pub are_cut : (input : Input) → on.begun.records ≡ true → media.tells → (after : ℕ) (files : Files) →
      AreWholeBut (recorded_of on.begun input) journal e.butler.drain.files (media.write_faults e.butler.media) after files → AreCut (recorded_of on.begun input) journal on.begun.write_faults after files
  are_cut input records tells after files but = let failed = e.butler.drain.files.failed in record {
    cut = map pair_of failed ++ but.cut;
    many = omega (arith, (serves.files.takes records tells).many, but.many, length-append (map pair_of failed) but.cut, length-map failed pair_of);
    whole = λ few t n lt named not. let apart = not_among failed but.cut t n not in but.whole t n lt named
        (ap₂ (λ a b. a || b) apart.0 (ne_eqb (length failed) most_failed (λ all. absurd (omega (arith, all, few, length-append (map pair_of failed) but.cut, length-map failed pair_of))))) apart.1;
  }

  module _ (input : Input) (heard : AreOfInput input s (reverse journal) e.ends.takes.items) where
    -- the two ends of a capture ring
    record Ends (t : ℕ) : Type 0 where
      put : Sender TakeBlock
      got : Receiver TakeBlock
      put_at : slice_get e.ends.takes.items t ≡ Some put
      got_at : slice_get e.butler.ends.takes.items t ≡ Some got

    ends_at : (t : ℕ) → t < length s.tracks.items → Ends t
    ends_at t lt = let f = item_at e.butler.ends.takes.items t (omega (arith, lt, serves.serving.takes)) in
        let k = also_there e.butler.ends.takes.items e.ends.takes.items t f.0 serves.others.takes.count f.1 in
        record { put = k.0; got = f.0; put_at = k.1; got_at = f.1 }

    -- the blocks that were put are those that the entries took
    taken : (t : ℕ) (k : Sender TakeBlock) → slice_get e.ends.takes.items t ≡ Some k → map block_of k.sent ≡ taken_blocks s input t journal
    taken t k here = heard t k here ∙ ap (taken_blocks s input t) (reverse-reverse journal)

    blocks_are : (t : ℕ) (f : Receiver TakeBlock) → slice_get e.butler.ends.takes.items t ≡ Some f → blocks_at e.butler.ends.takes.items t ≡ map block_of f.received
    blocks_are t f here = ap (λ o. option_map_or (λ (r : Receiver TakeBlock). map block_of r.received) o []) here

    -- all of them were flushed
    pub flushed : on.begun.records ≡ true → HasFlushedAll media (recorded_of on.begun input) journal c.failed.write e.butler.drain.files e.butler.media
    flushed records = record {
      flushed = λ tells. same_tape (tape_of (run_of on.begun) e.butler.ends.takes.items) (finished.tape_of (recorded_of on.begun input) journal) e.butler.drain.files (media.files e.butler.media) refl refl
          (λ t lt. let x = ends_at t lt in blocks_are t x.got x.got_at ∙ ap (map block_of) (is.received t x.put x.got x.put_at x.got_at) ∙ taken t x.put x.put_at)
          (serves.files.takes records tells).flushed;
      none_failed = λ tells fine. (serves.files.takes records tells).none_failed (is.ended.last.butler_writes ∙ fine);
    }
