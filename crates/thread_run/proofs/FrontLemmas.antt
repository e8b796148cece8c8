-- What take files hold after a play on threads, whatever was wanted.
use Rattle.std.proofs.Common.{◌≡◌, ℕ, List, [], ◌++◌, length, refl, sym, ap, subst, ◌∙◌, arith}
use Rattle.std.specs.Prelude.{Bool, true, false, IsTrue, drop, map, slice_get, slice_index_or, Some, IfSome}
use Rattle.std.specs.Option.{option_map, option_map_or}
use Rattle.std.proofs.lemmas.List.{length-map, map-append, take_all}
use Rattle.std.proofs.lemmas.Option.{get_or_from_slice_get, same_Some, slice_get-map, slice_get_within}
use mathlib.Core.List.{IsPrefix}
use Rattle.ses_units.specs.Name.{is_name}
use Rattle.ses_io.specs.Files.{Files}
use Rattle.ses_io.specs.Outside.{MediaOutside, SourceOutside, SinkOutside}
use Rattle.session_model.specs.declared.session.Session.{Session}
use Rattle.engine_laws.proofs.ListLemmas.{item_at}
use Rattle.engine_model.specs.Journal.{Entry}
use Rattle.engine_model.specs.Takes.{take_file}
use Rattle.machine_laws.proofs.Tracks.{also_there}
use Rattle.disk_ring.specs.Receiver.{Receiver}
use Rattle.disk_ring.specs.Sender.{Sender}
use Rattle.piece_item.specs.declared.take_block.TakeBlock.{TakeBlock}
use Rattle.cycle_journal.specs.JournalView.{seen_entries}
use Rattle.capture_flush.specs.Blocks.{block_of, taken_blocks}
use Rattle.capture_flush.specs.Finished.{AreTakes, AreTakesInPart, IsCounted, Recorded}
use Rattle.capture_flush.specs.Flushed.{IsFront}
use Rattle.capture_flush.specs.Laws.{HasNamedTracks, PassesFirst}
use Rattle.capture_flush.specs.Taking.{IsTakingOf, Taking}
use Rattle.capture_flush.proofs.EarlyLemmas.{an_early_end_is_in_part}
use Rattle.capture_drain.specs.Files.{tape_of}
use Rattle.butler.specs.ButlerState.{ButlerState}
use Rattle.process_ends.specs.declared.ends.ProcessEnds.{ProcessEnds}
use Rattle.process_ends.specs.Ends.{shut}
use Rattle.process_cycle.specs.Captured.{Hears}
use Rattle.process_cycle.specs.ProcessState.{entries_of}
use Rattle.process_cycle.proofs.CountedLemmas.{made_counted}
use Rattle.track_playback.specs.SpareBoxes.{received_kinds}
use Rattle.play_worker.specs.declared.worker.PlayWorker.{PlayWorker}
use Rattle.play_worker.specs.Plays.{given_last}
use Rattle.serve_worker.specs.declared.worker.ServeWorker.{ServeWorker}
use Rattle.worker_pair.specs.Takes.{run_of}
use Rattle.input_blocks.specs.Rest.{rest_sound}
use Rattle.run_world.specs.declared.finished.Finished.{Finished}
use Rattle.run_end.specs.Beginning.{started_of}
use Rattle.run_end.specs.Started.{Started}
use Rattle.run_end.specs.Takes.{LeavesTakes, recorded_of}
use Rattle.thread_run.specs.Fronts.{LeavesFronts}
use Rattle.thread_run.specs.Leaving.{Asked, IsLeft}
use Rattle.thread_run.proofs.CycleLemmas as cycles
use Rattle.thread_run.proofs.EndedLemmas as ended

-- what is whole is a front
front_of_all : (xs : List ℕ) → IsFront xs xs
front_of_all xs = (length xs, sym (take_all (length xs) xs (omega arith)))

whole_in_part : (run : Recorded) (journal : List Entry) (files : Files) → AreTakes run journal files → AreTakesInPart run journal files
whole_in_part run journal files are = record {
  takes = λ t n lt named. subst (λ o. IfSome o (λ bytes. IsFront (drop 44 bytes) (drop 44 (take_file run.session run.input t n journal)))) (sym (are.takes t n lt named))
      (front_of_all (drop 44 (take_file run.session run.input t n journal)));
  others = are.others;
}

-- the routes of tracks have names
named_tracks : (s : Session) (f : Taking) → IsTakingOf s f → HasNamedTracks s
named_tracks s f of t lt = let k = item_at f.tracks t (omega (arith, lt, of.many)) in let is = of.tracks t k.0 k.1 in subst (λ n. IsTrue (is_name n)) is.name is.named

module _ {R M I C W O : Type 0} (media : MediaOutside M) (inputs : SourceOutside I) (source : SourceOutside C) (sinks : SinkOutside W) (sink : SinkOutside O) (on : Asked M I C W O) (f : Finished M I C W O)
    (x : IsLeft R media inputs source sinks sink on f) (tells : media.tells) where
  abbrev s : Session
  s = on.opened.edition.session

  abbrev start : Started M I W
  start = started_of media inputs sinks on.opened

  abbrev journal : List Entry
  journal = seen_entries x.ended.journal.items

  records : start.begun.records ≡ true
  records = ended.records media inputs source sinks sink on x.joined x.lists x.all

  -- ---- takes that were made whole

  by_write : LeavesTakes media inputs start x.ended → (b : Bool) → x.ended.failed.write ≡ b → LeavesFronts media inputs start x.ended
  by_write takes true bad = record { input = takes.input; told_so = takes.told_so; in_part = takes.in_part records tells bad }
  by_write takes false fine = record {
    input = takes.input;
    told_so = takes.told_so;
    in_part = whole_in_part (recorded_of start.begun takes.input) journal (media.files x.ended.media) (takes.whole records tells fine);
  }

  -- ---- takes as the butler left them

  abbrev last : PlayWorker I W
  last = x.all.played.leaves.last

  abbrev b : ServeWorker M
  b = x.joined.served.0

  abbrev put : List (Sender TakeBlock)
  put = x.joined.played.process.ends.takes.items

  abbrev got : List (Receiver TakeBlock)
  got = b.butler.ends.takes.items

  counted : IsCounted s journal
  counted = subst (IsCounted s) (cycles.entries_are media inputs source sinks sink on f x)
      (made_counted s (given_last last) (length (given_last last)) (map received_kinds last.process.ends.plays.items) (entries_of last.process)
      (ended.promises media inputs source sinks sink on x.joined x.lists x.all).made)

  hears : Hears inputs.tells (rest_sound start.stream start.begun.start) s (entries_of last.process) last.process.ends.takes.items
  hears = ended.hears media inputs source sinks sink on x.joined x.lists x.all

  -- what was put is what the entries took
  put_are : (t : ℕ) (k : Sender TakeBlock) → slice_get put t ≡ Some k → map block_of k.sent ≡ taken_blocks s hears.input t journal
  put_are t k here = let shut_here = subst (λ (e : ProcessEnds). slice_get e.takes.items t ≡ Some k) x.all.played.leaves.gives.ends here in
      let was = also_there (map shut last.process.ends.takes.items) last.process.ends.takes.items t k (length-map last.process.ends.takes.items shut) shut_here in
      let same : k ≡ shut was.0 = same_Some k (shut was.0) (sym shut_here ∙ slice_get-map shut last.process.ends.takes.items t ∙ ap (option_map shut) was.1) in
      ap (λ (z : Sender TakeBlock). map block_of z.sent) same ∙ hears.of_input t was.0 was.1 ∙ ap (taken_blocks s hears.input t) (cycles.entries_are media inputs source sinks sink on f x)

  -- and what was received are the first of it
  first_at : (t : ℕ) (k : Sender TakeBlock) (g : Receiver TakeBlock) → slice_get put t ≡ Some k → slice_get got t ≡ Some g → IsPrefix g.received k.sent
  first_at t k g here there = subst (λ (z : Receiver TakeBlock). IsPrefix z.received k.sent) (get_or_from_slice_get got t g g there)
      (subst (λ (z : Sender TakeBlock). IsPrefix (slice_index_or got t g).received z.sent) (get_or_from_slice_get put t k k here)
      (x.met.met.takes.each t k g (slice_get_within put t k here)).met.passed.begins)

  passes_first : PassesFirst (tape_of (run_of start.begun) got) (recorded_of start.begun hears.input) journal
  passes_first t lt = let serves = ended.serves media inputs source sinks sink on x.joined x.lists x.all in let g = item_at got t (omega (arith, lt, serves.turns.serving.takes)) in
      let k = also_there got put t g.0 (ended.others media inputs source sinks sink on x.joined x.lists x.all).takes.count g.1 in let first = first_at t k.0 g.0 k.1 g.1 in (
        map block_of first.0,
        sym (put_are t k.0 k.1) ∙ ap (map block_of) (sym first.1) ∙ map-append block_of g.0.received first.0
            ∙ ap (λ l. l ++ map block_of first.0) (sym (ap (λ o. option_map_or (λ (r : Receiver TakeBlock). map block_of r.received) o []) g.1)),
      )

  cut_short : x.finished ≡ false → LeavesFronts media inputs start x.ended
  cut_short short = let serves = ended.serves media inputs source sinks sink on x.joined x.lists x.all in record {
    input = hears.input;
    told_so = hears.told_so;
    in_part = subst (λ m. AreTakesInPart (recorded_of start.begun hears.input) journal (media.files m)) (sym (x.cut_short short ∙ ap (λ (z : ButlerState M). z.media) x.met.butler_is))
        (an_early_end_is_in_part (tape_of (run_of start.begun) got) (recorded_of start.begun hears.input) journal (media.files b.butler.media) refl refl x.all.may.valid
        (named_tracks s b.butler.drain.files serves.turns.serving.taking) counted passes_first (serves.keeps.takes tells).flushed.in_part);
  }

  -- by whether they were made whole
  by : (b : Bool) → x.finished ≡ b → LeavesFronts media inputs start x.ended
  by true done = by_write (x.whole done).takes x.ended.failed.write refl
  by false short = cut_short short

  pub leaves_fronts : LeavesFronts media inputs start x.ended
  leaves_fronts = by x.finished refl
