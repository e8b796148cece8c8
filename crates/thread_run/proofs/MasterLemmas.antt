-- What the master of a play on threads holds: its file, or where a write failed a front of that.
use Rattle.std.proofs.Common.{◌≡◌, inl, inr, ℕ, suc, ◌≤◌, List, [], ◌∷◌, ◌++◌, length, refl, sym, ap, subst, ◌∙◌, arith}
use Rattle.std.specs.Prelude.{◌⊎◌, Bool, true, false, map, slice_get, take, Some}
use Rattle.std.proofs.lemmas.Bool.{true≢false, false≢true}
use mathlib.Core.List.{IsPrefix}
use Rattle.ses_io.specs.FixedList.{Listed}
use Rattle.ses_io.specs.Outside.{MediaOutside, SourceOutside, SinkOutside}
use Rattle.session_model.specs.declared.session.Session.{Session}
use Rattle.session_model.specs.declared.edit.Edit.{Edit}
use Rattle.engine_model.specs.Edits.{has_quit}
use Rattle.engine_model.specs.Played.{master_file, samples_of}
use Rattle.audio_source.specs.Opened.{OpenedSource}
use Rattle.audio_source.specs.Told.{source_sound}
use Rattle.cycle_journal.specs.declared.entry.Entry as made
use Rattle.cycle_journal.specs.JournalView.{seen_entries}
use Rattle.disk_ring.specs.Receiver.{Receiver}
use Rattle.edition_log.specs.EditionState.{EditionState as Edition}
use Rattle.piece_item.specs.declared.item.Item.{Item}
use Rattle.track_playback.specs.SpareBoxes.{received_items}
use Rattle.master_blocks.specs.Laws.{TheMasterIsItsBlocks}
use Rattle.process_ends.specs.declared.ends.ProcessEnds.{ProcessEnds}
use Rattle.process_cycle.specs.CutOff.{HoldsAll, IsCutAtEnd, IsCutAtHead, IsCutInCycle}
use Rattle.process_cycle.specs.Promised.{AllOfTrack}
use Rattle.process_cycle.specs.ProcessState.{Playing, ProcessState, items_of}
use Rattle.play_worker.specs.declared.worker.PlayWorker.{PlayWorker}
use Rattle.play_worker.specs.Leaves.{MasterIsLeft, is_cut}
use Rattle.play_worker.specs.Plays.{at_now, given_last}
use Rattle.worker_pair.specs.Begun.{At, playing_at}
use Rattle.worker_pair.specs.Runs.{Serves}
use Rattle.worker_pair.proofs.NowLemmas.{serves_as}
use Rattle.run_world.specs.declared.finished.Finished.{Finished}
use Rattle.run_end.specs.AtRest.{ProcessHasEnded, SayTheSame}
use Rattle.run_end.specs.Beginning.{started_of}
use Rattle.run_end.specs.LastTurns.{at_last}
use Rattle.run_end.specs.Mastered.{IsCutOff, MasterIsCutOff, MasterIsWhole, WritesTheMaster}
use Rattle.run_end.specs.Started.{Started}
use Rattle.run_end.proofs.MasteredLemmas as master
use Rattle.thread_run.specs.Leaving.{Asked, IsEndOf, IsLeft, failures_left}
use Rattle.thread_run.proofs.CycleLemmas as cycles
use Rattle.thread_run.proofs.EndedLemmas as ended
use Rattle.thread_run.proofs.LastLemmas as final

-- ---- ends that say the same

-- what was received
same_items : (xs ys : List (Receiver Item)) → length ys ≡ length xs → ((t : ℕ) (r q : Receiver Item) → slice_get xs t ≡ Some r → slice_get ys t ≡ Some q → q ≡ record r { heard = q.heard; over = q.over }) →
    map received_items ys ≡ map received_items xs
same_items [] [] same each = refl
same_items [] (y ∷ ys) same each = absurd (omega (arith, same))
same_items (x ∷ xs) [] same each = absurd (omega (arith, same))
same_items (x ∷ xs) (y ∷ ys) same each = ap (λ k. k ∷ map received_items ys) (ap received_items (each 0 x y refl refl))
    ∙ ap (λ l. received_items x ∷ l) (same_items xs ys (omega (arith, same)) (λ t. each (suc t)))

-- the process with these ends holds what it held
module _ {I W : Type 0} (inputs : SourceOutside I) (sinks : SinkOutside W) (at : Playing) (p : ProcessState I W) (ends : ProcessEnds) (same : map received_items ends.plays.items ≡ items_of p) where
  abbrev pub q : ProcessState I W
  q = record p { ends = ends }

  cut_still : IsCutAtHead inputs sinks at p ⊎ IsCutInCycle inputs sinks at p → IsCutAtHead inputs sinks at q ⊎ IsCutInCycle inputs sinks at q
  cut_still (inl c) = inl (record { none = c.none; read = c.read; front = c.front })
  cut_still (inr c) = inr (record {
    before = c.before;
    edition = c.edition;
    playing = c.playing;
    looked = c.looked;
    edition_of = c.edition_of;
    valid = c.valid;
    given = c.given;
    unended = c.unended;
    room = c.room;
    mastered = c.mastered;
    journal = c.journal;
    items = same ∙ c.items;
    read = c.read;
    front = c.front;
  })

  end_still : IsCutAtEnd sinks at p → IsCutAtEnd sinks at q
  end_still c = record {
    before = record c.before { ends = ends };
    mastered = λ told more sounds of_all. c.mastered told more sounds
        (subst (AllOfTrack at.session (at.edits ++ more) (samples_of sounds at.session (at.edits ++ more))) (same ∙ ap (λ (z : ProcessState I W). items_of z) c.same) of_all);
    same = ap (λ (z : ProcessState I W). record z { ends = ends }) c.same;
    front = c.front;
  }

  -- **the master is left as it was**
  pub left_still : (cut cut_off : Bool) → MasterIsLeft inputs sinks at cut cut_off p → MasterIsLeft inputs sinks at cut cut_off q
  left_still true cut_off left = (left.0, cut_still left.1)
  left_still false true left = end_still left
  left_still false false left = λ told more sounds of_all. left told more sounds (subst (AllOfTrack at.session (at.edits ++ more) (samples_of sounds at.session (at.edits ++ more))) same of_all)

-- by how it is left
holds_all : {I W : Type 0} (inputs : SourceOutside I) (sinks : SinkOutside W) (at : Playing) (cut cut_off : Bool) (p : ProcessState I W) → MasterIsLeft inputs sinks at cut cut_off p → cut_off ≡ false → sinks.tells → HoldsAll sinks at p
holds_all inputs sinks at true cut_off p left fine told = absurd (true≢false (sym left.0 ∙ fine))
holds_all inputs sinks at false true p left fine told = absurd (true≢false fine)
holds_all inputs sinks at false false p left fine told = left told

-- what a play leaves of which the master is made
record Parts : Type 0 where
  pub edits : List Edit
  pub opened : List OpenedSource
  pub room : ℕ
  pub journal : List made.Entry

abbrev parts : List Edit → List OpenedSource → ℕ → List made.Entry → Parts
parts edits opened room journal = record { edits = edits; opened = opened; room = room; journal = journal }

module _ {R M I C W O : Type 0} (media : MediaOutside M) (inputs : SourceOutside I) (source : SourceOutside C) (sinks : SinkOutside W) (sink : SinkOutside O) (on : Asked M I C W O) (f : Finished M I C W O)
    (x : IsLeft R media inputs source sinks sink on f) (enough : x.memory ≡ false) where
  abbrev s : Session
  s = on.opened.edition.session

  abbrev pub start : Started M I W
  start = started_of media inputs sinks on.opened

  abbrev w : PlayWorker I W
  w = x.all.played.leaves.last

  pub end : IsEndOf media inputs start x.ending x.stopped (failures_left x.joined.played x.joined.served.0.failed) x.ended
  end = x.whole (x.finishes (x.enough enough).1 (x.enough enough).2)

  pub has_ended : ProcessHasEnded media inputs start x.ending x.stopped (failures_left x.joined.played x.joined.served.0.failed)
  has_ended = final.has_ended media inputs source sinks sink on x.joined x.lists x.all x.edition x.ending x.stopped x.met x.edition_of (x.first (x.enough enough).1) (x.second (x.enough enough).1) (x.enough enough).2

  pub begins : IsPrefix (given_last w) x.edition.edits
  begins = final.begins media inputs source sinks sink on x.joined x.lists x.all x.edition x.ending x.stopped x.met x.edition_of (x.first (x.enough enough).1) (x.second (x.enough enough).1) (x.enough enough).2

  pub same : SayTheSame w.process.ends x.ending.ends
  same = final.same media inputs source sinks sink on x.joined x.lists x.all x.edition x.ending x.stopped x.met x.edition_of (x.first (x.enough enough).1) (x.second (x.enough enough).1) (x.enough enough).2

  -- the process with the ends that met, and where it looked last
  items_are : map received_items x.ending.ends.plays.items ≡ items_of w.process
  items_are = same_items w.process.ends.plays.items x.ending.ends.plays.items same.many same.plays

  abbrev p : ProcessState I W
  p = record w.process { ends = x.ending.ends }

  abbrev at : At
  at = record { begun = start.begun; header = true; served = take x.ending.butler.entered x.ending.edition.edits; played = given_last w }

  serves : Serves media at x.ending
  serves = serves_as media (at_last start.begun x.ending) at x.ending refl refl has_ended.last.serves

  at_is : at_now inputs sinks w ≡ playing_at at
  at_is = ended.at_is media inputs source sinks sink on x.joined x.lists x.all

  whole : at.played ++ begins.0 ≡ x.ending.edition.edits
  whole = begins.1 ∙ ap (λ (e : Edition). e.edits) (sym x.met.edition_is)

  left : MasterIsLeft inputs sinks (playing_at at) (is_cut x.joined.played.ended) x.joined.played.cut_off p
  left = left_still inputs sinks (playing_at at) w.process x.ending.ends items_are (is_cut x.joined.played.ended) x.joined.played.cut_off
      (subst (λ z. MasterIsLeft inputs sinks z (is_cut x.joined.played.ended) x.joined.played.cut_off w.process) at_is x.all.played.leaves.master)

  -- ---- of what is left

  edits_path : at.played ++ begins.0 ≡ x.ended.edits.items
  edits_path = whole ∙ sym end.over.edits

  opened_path : x.ending.butler.sources.opened ≡ start.opened
  opened_path = has_ended.last.opened

  room_path : p.journal.room ≡ on.opened.cycles
  room_path = cycles.room_is media inputs source sinks sink on f x

  journal_path : p.journal ≡ x.ended.journal
  journal_path = sym (cycles.journal_is media inputs source sinks sink on f x)

  module _ (tells : media.tells) (told : sinks.tells) where
    few : length p.journal.items ≤ p.journal.room
    few = omega (arith, x.few, ap (λ (j : Listed made.Entry). length j.items) journal_path, ap (λ (j : Listed made.Entry). j.room) journal_path)

    is_whole : TheMasterIsItsBlocks → MasterIsWhole media sinks on.opened (cycles.now media inputs source sinks sink on f x)
    is_whole law fine = ap sinks.held (cycles.master_is media inputs source sinks sink on f x)
        ∙ master.is_whole media inputs sinks at x.ending serves p refl begins.0 whole tells told law x.all.may.valid few
        (holds_all inputs sinks (playing_at at) (is_cut x.joined.played.ended) x.joined.played.cut_off p left (sym x.given.master_failed ∙ fine) told)
        ∙ (λ i. start.begun.before ++ master_file s (edits_path i) (samples_of (source_sound start.begun.files (opened_path i)) s (edits_path i)) (room_path i) (seen_entries (journal_path i).items))

    abbrev CutOff : Type 0
    CutOff = IsCutOff x.ended.failed.input start.begun.before (sinks.held p.master.sink) s (at.played ++ begins.0) (samples_of (source_sound start.begun.files x.ending.butler.sources.opened) s (at.played ++ begins.0))
        p.journal.room (seen_entries p.journal.items)

    -- one failed before the end was to be written, or that of the end did: then all cycles were made
    by_left : (cut cut_off : Bool) → is_cut x.joined.played.ended ≡ cut → cut_off ≡ true → MasterIsLeft inputs sinks (playing_at at) cut cut_off p → CutOff
    by_left true cut_off is bad stands = master.cut_before media inputs sinks at x.ending serves p refl begins.0 whole tells told x.ended.failed.input stands.1
    by_left false false is bad stands = absurd (false≢true bad)
    by_left false true is bad stands = master.cut_at_end media inputs sinks at x.ending serves p refl begins.0 whole tells told x.ended.failed.input
        (λ unquit heard. ap (λ (j : Listed made.Entry). length (seen_entries j.items)) journal_path
        ∙ cycles.all_made media inputs source sinks sink on f x enough (subst (λ l. has_quit l (length l) ≡ false) edits_path unquit) (sym x.given.input_failed ∙ heard) is ∙ sym room_path) stands

    is_cut_off : MasterIsCutOff media sinks on.opened (cycles.now media inputs source sinks sink on f x)
    is_cut_off bad = subst (λ held. IsCutOff x.ended.failed.input start.begun.before held s x.ended.edits.items (samples_of (source_sound start.begun.files start.opened) s x.ended.edits.items) on.opened.cycles
        (seen_entries x.ended.journal.items)) (ap sinks.held (sym (cycles.master_is media inputs source sinks sink on f x)))
        (subst (λ (z : Parts). IsCutOff x.ended.failed.input start.begun.before (sinks.held p.master.sink) s z.edits (samples_of (source_sound start.begun.files z.opened) s z.edits) z.room (seen_entries z.journal))
        (λ i. parts (edits_path i) (opened_path i) (room_path i) (journal_path i).items)
        (by_left (is_cut x.joined.played.ended) x.joined.played.cut_off refl (sym x.given.master_failed ∙ bad) left))

    -- **it is its file, or cut off**
    pub writes_the_master : TheMasterIsItsBlocks → WritesTheMaster media sinks on.opened (cycles.now media inputs source sinks sink on f x)
    writes_the_master law = record { whole = is_whole law; cut_off = is_cut_off }
