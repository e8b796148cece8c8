-- What a run leaves from the end of its process on: each clause, by what the last turns and the takes did.
use Rattle.std.proofs.Common.{◌≡◌, ◌<◌, List, length, refl, sym, ap, subst, ◌∙◌}
use Rattle.std.specs.Prelude.{Bool, true, false, map, reverse}
use Rattle.ses_io.specs.FixedList.{Listed}
use Rattle.ses_io.specs.Outside.{MediaOutside, SourceOutside}
use Rattle.session_model.specs.declared.session.Session.{Session}
use Rattle.session_model.specs.declared.edit.Edit.{Edit}
use Rattle.engine_model.specs.Journal.{Entry}
use Rattle.engine_model.specs.Takes.{Input}
use Rattle.audio_source.specs.Told.{source_sound}
use Rattle.disk_ring.specs.Sender.{Sender}
use Rattle.disk_ring.specs.Rings.{Joined}
use Rattle.piece_item.specs.declared.ack.Ack.{Ack}
use Rattle.cycle_journal.specs.declared.entry.Entry as made
use Rattle.cycle_journal.specs.JournalView.{seen_entries}
use Rattle.capture_flush.specs.Blocks.{block_of, taken_blocks}
use Rattle.capture_flush.specs.Finished.{Recorded, AreTakes, AreTakesInPart}
use Rattle.input_blocks.specs.Rest.{rest_sound}
use Rattle.edition_log.specs.EditionState.{EditionState as Edition}
use Rattle.process_cycle.specs.Captured.{AreOfInput}
use Rattle.process_cycle.specs.Promised.{Promises}
use Rattle.worker_pair.specs.declared.ending.Ending.{Ending}
use Rattle.worker_pair.specs.declared.ending.Stopped.{Stopped}
use Rattle.worker_pair.specs.Begun.{playing_at}
use Rattle.run_end.specs.declared.failures.Failures.{Failures}
use Rattle.run_end.specs.declared.leaving.AtRest.{AtRest}
use Rattle.run_end.specs.declared.lists.RunLists.{RunLists}
use Rattle.run_end.specs.declared.parting.RunEnd.{RunEnd}
use Rattle.run_end.specs.AtRest.{IsAtRest, ProcessHasEnded, SayTheSame}
use Rattle.run_end.specs.Failures.{IsFaultCount}
use Rattle.run_end.specs.LastTurns.{AllReceived, HasTurned, LeavesAllElse, TakesLastTurns, at_last}
use Rattle.run_end.specs.Left.{IsLeftByTurns, IsLeftOver, MediaIsCounted}
use Rattle.run_end.specs.Lists.{HaveRoomFor}
use Rattle.run_end.specs.Parted.{FinishesTakes, IsParted, MayPart}
use Rattle.run_end.specs.Passed.{AllGenuine, AreSpent, IsToldOn, PassedOn, RingsAreLeft}
use Rattle.run_end.specs.Started.{Started}
use Rattle.run_end.specs.Takes.{AreCut, LeavesTakes, recorded_of}
use Rattle.run_end.proofs.CountedLemmas.{counted_later, counted_more, counted_still}
use Rattle.run_end.proofs.DepthLemmas.{depths_told}
use Rattle.run_end.proofs.HeardLemmas.{cut_heard, heard_back, of_back, takes_heard, part_heard}
use Rattle.run_end.proofs.PassLemmas as pass
use Rattle.run_end.proofs.SameLemmas.{hears_still, promises_still, shut_on, told_same}
use Rattle.run_end.proofs.TakeLemmas as take

-- ---- the last turns

module _ {V I W : Type 0} (media : MediaOutside V) (inputs : SourceOutside I) (on : Started V I W) (ending : Ending V) (stopped : Stopped I W) (was : Failures)
    (ended : ProcessHasEnded media inputs on ending stopped was) (last : Ending V) (failed : Failures) (alone : LeavesAllElse ending was last failed) where
  -- the entries, newest first
  abbrev entries : List Entry
  entries = reverse (seen_entries stopped.journal.items)

  same : SayTheSame ending.ends last.ends
  same = told_same ending.ends last.ends alone.ends

  -- after them nothing is left to do
  pub at_rest : TakesLastTurns media on last failed → last.butler.entered ≡ length last.edition.edits → AllReceived last →
      IsAtRest media inputs on (record { ending = last; stopped = stopped; failed = failed })
  at_rest turns entered received = record {
    ended = record {
      last = turns;
      shut = shut_on ending.ends last.ends alone.ends ended.shut;
      depths = depths_told on.begun.session ending.ends last.ends alone.ends ended.depths;
      promises = subst (λ (e : Edition). Promises (record { session = on.begun.session; edits = e.edits; start = on.begun.start; before = on.begun.before }) entries last.ends) (sym alone.edition)
          (promises_still (playing_at (at_last on.begun ending)) entries ending.ends last.ends same ended.promises);
      hears = hears_still inputs.tells (rest_sound on.stream on.begun.start) on.begun.session entries ending.ends last.ends same ended.hears;
      control = ended.control ∙ sym (ap (λ (z : Sender Ack). z.ring) alone.ends.to_control);
      room = ended.room;
    };
    entered = entered;
    received = received;
  }

-- ---- the parts

module _ {V I W : Type 0} (media : MediaOutside V) (inputs : SourceOutside I) (on : Started V I W) (c : AtRest V I W) (is : IsAtRest media inputs on c) where
  abbrev s : Session
  s = on.begun.session

  -- the entries as they were
  abbrev journal : List Entry
  journal = seen_entries c.stopped.journal.items

  -- what was captured is of what was heard
  abbrev sound : Input
  sound = is.ended.hears.input

  heard : AreOfInput sound s (reverse journal) c.ending.ends.takes.items
  heard = is.ended.hears.of_input

  many_captures : length c.ending.ends.takes.items ≡ length s.tracks.items
  many_captures = sym is.ended.last.serves.others.takes.count ∙ is.ended.last.serves.serving.takes

  some_frame : 0 < s.block
  some_frame = is.ended.last.serves.serving.valid.formed.limits.block.least

  -- what the takes are made of
  abbrev pub back : Recorded
  back = recorded_of on.begun (heard_back s journal c.ending.ends.takes.items)

  -- they may be taken apart
  pub may_part : (lists : RunLists) (records : Bool) → HaveRoomFor s lists → records ≡ on.begun.records → MayPart media back c lists records
  may_part lists records room same = record {
    others = is.ended.last.serves.others;
    sends = is.ended.last.serves.serving.sends;
    takes = many_captures;
    control = is.ended.control;
    lists_room = room;
    taking = is.ended.last.serves.serving.taking;
    room = is.ended.room;
    counted = take.counted media inputs on c is;
    flushed = λ so. take.flushed media inputs on c is (heard_back s journal c.ending.ends.takes.items) (of_back s sound journal c.ending.ends.takes.items some_frame many_captures heard) (sym same ∙ so);
  }

  -- ---- takes

  module _ (records : Bool) (same : records ≡ on.begun.records) (e : RunEnd V I W) (parted : IsParted media back records c e) where
    -- whatever had failed
    takes_in_part : on.begun.records ≡ true → media.tells → e.failed.write ≡ true → AreTakesInPart (recorded_of on.begun sound) journal (media.files e.media)
    takes_in_part recording tells failed = part_heard on.begun sound journal c.ending.ends.takes.items some_frame many_captures heard (media.files e.media)
        ((parted.finishes (same ∙ recording)).in_part tells failed)

    pub takes : LeavesTakes media inputs on e
    takes = record {
      input = sound;
      captured = λ t r here. subst (λ (j : Listed made.Entry). map block_of r.takes.sent ≡ taken_blocks s sound t (seen_entries j.items)) (sym parted.journal)
          (pass.captured_of media inputs on c is e.rings.items parted.rings parted.whole sound heard t r here);
      told_so = is.ended.hears.told_so;
      whole = λ recording tells fine. subst (λ (j : Listed made.Entry). AreTakes (recorded_of on.begun sound) (seen_entries j.items) (media.files e.media)) (sym parted.journal)
          (takes_heard on.begun sound journal c.ending.ends.takes.items some_frame many_captures heard (media.files e.media) ((parted.finishes (same ∙ recording)).whole tells fine));
      in_part = λ recording tells failed. subst (λ (j : Listed made.Entry). AreTakesInPart (recorded_of on.begun sound) (seen_entries j.items) (media.files e.media)) (sym parted.journal)
          (takes_in_part recording tells failed);
      others = λ recording tells. subst (λ (j : Listed made.Entry). AreCut (recorded_of on.begun sound) (seen_entries j.items) on.begun.write_faults (media.write_faults e.media) (media.files e.media))
          (sym parted.journal) (cut_heard on.begun sound journal c.ending.ends.takes.items some_frame many_captures heard (media.files e.media) on.begun.write_faults (media.write_faults e.media)
          (take.are_cut media inputs on c is (heard_back s journal c.ending.ends.takes.items) recording tells (media.write_faults e.media) (media.files e.media)
          ((parted.finishes (same ∙ recording)).others tells)));
      same = λ quiet. ap media.files (parted.quiet (same ∙ quiet)).0 ∙ is.ended.last.serves.files.same quiet;
      unwritten = λ quiet. (parted.quiet (same ∙ quiet)).1 ∙ sym is.ended.last.butler_writes ∙ is.ended.last.serves.files.unwritten quiet;
    }

  module _ (run : Recorded) (records : Bool) (e : RunEnd V I W) (parted : IsParted media run records c e) where
    -- ---- what failed

    pub read_same : e.failed.read ≡ c.failed.read
    read_same = ap (λ (f : Failures). f.read) parted.failed

    -- a write that had failed has failed
    pub write_on : c.failed.write ≡ true → e.failed.write ≡ true
    write_on before = by records refl
      where
        by : (b : Bool) → records ≡ b → e.failed.write ≡ true
        by true so = (parted.finishes so).stays before
        by false so = (parted.quiet so).1 ∙ before

    reads_counted : IsFaultCount (media.read_faults on.media) (media.read_faults e.media) e.failed.read
    reads_counted = subst (IsFaultCount (media.read_faults on.media) (media.read_faults e.media)) (sym read_same)
        (counted_still (media.read_faults on.media) (media.read_faults c.ending.butler.media) (media.read_faults e.media) c.failed.read (by records refl) is.ended.last.reads)
      where
        by : (b : Bool) → records ≡ b → media.read_faults e.media ≡ media.read_faults c.ending.butler.media
        by true so = (parted.finishes so).reads
        by false so = ap media.read_faults (parted.quiet so).0

    abbrev Written : Bool → Type 0
    Written b = IsFaultCount (media.write_faults on.media) (media.write_faults e.media) b

    -- by what finishing the takes did
    writes_finished : FinishesTakes media run journal c.ending.butler.drain.files c.failed.write c.ending.butler.media e.failed.write e.media → (was now : Bool) → c.failed.write ≡ was → e.failed.write ≡ now → Written now
    writes_finished f true now before after = subst Written (sym (f.stays before) ∙ after)
        (counted_later (media.write_faults on.media) (media.write_faults c.ending.butler.media) (media.write_faults e.media) f.later
        (subst (IsFaultCount (media.write_faults on.media) (media.write_faults c.ending.butler.media)) before is.ended.last.writes))
    writes_finished f false false before after = counted_still (media.write_faults on.media) (media.write_faults c.ending.butler.media) (media.write_faults e.media) false (f.kept after)
        (subst (IsFaultCount (media.write_faults on.media) (media.write_faults c.ending.butler.media)) before is.ended.last.writes)
    writes_finished f false true before after = counted_more (media.write_faults on.media) (media.write_faults c.ending.butler.media) (media.write_faults e.media) c.failed.write f.later (f.rose before after) is.ended.last.writes

    writes_counted : Written e.failed.write
    writes_counted = by records refl
      where
        by : (b : Bool) → records ≡ b → Written e.failed.write
        by true so = writes_finished (parted.finishes so) c.failed.write e.failed.write refl refl
        by false so = subst Written (sym (parted.quiet so).1)
            (counted_still (media.write_faults on.media) (media.write_faults c.ending.butler.media) (media.write_faults e.media) c.failed.write (ap media.write_faults (parted.quiet so).0) is.ended.last.writes)

    pub counts : MediaIsCounted media on e
    counts = record { reads = reads_counted; writes = writes_counted }

    -- ---- what went through the rings

    passed : PassedOn s e.edits.items (seen_entries e.journal.items) e.rings.items
    passed = subst (λ (j : Listed made.Entry). PassedOn s e.edits.items (seen_entries j.items) e.rings.items) (sym parted.journal)
        (subst (λ (es : List Edit). PassedOn s es journal e.rings.items) (sym parted.edits) (pass.passed media inputs on c is e.rings.items parted.rings parted.whole))

    pub genuine : media.tells → AllGenuine (source_sound on.begun.files on.opened) s e.edits.items e.rings.items
    genuine tells = subst (λ (es : List Edit). AllGenuine (source_sound on.begun.files on.opened) s es e.rings.items) (sym parted.edits) (pass.genuine media inputs on c is e.rings.items parted.rings parted.whole tells)

    spent : AreSpent e.failed e.rings.items
    spent = pass.spent media inputs on c is e.rings.items parted.rings parted.whole e.failed read_same

    acks : IsToldOn s e.edits.items (seen_entries e.journal.items) e.acks
    acks = subst (λ (j : Listed made.Entry). IsToldOn s e.edits.items (seen_entries j.items) e.acks) (sym parted.journal)
        (subst (λ (es : List Edit). IsToldOn s es journal e.acks) (sym parted.edits) (pass.told media inputs on c is e.acks parted.acks parted.acks_whole))

    pub rings : RingsAreLeft s e.edits.items (seen_entries e.journal.items) e.failed e.rings.items e.acks
    rings = record { passed = passed; spent = spent; acks_are = acks }

    -- ---- what is handed on

    module _ (ending : Ending V) (was : Failures) (alone : LeavesAllElse ending was c.ending c.failed) where
      pub over : IsLeftOver ending c.stopped was e
      over = record {
        input = parted.input;
        master = parted.master;
        journal = parted.journal;
        edits = parted.edits ∙ ap (λ (z : Edition). z.edits) alone.edition;
        sent = ap (λ (z : Joined Ack). z.sent) parted.acks ∙ ap (λ (z : Sender Ack). z.sent) alone.ends.to_control;
        received = ap (λ (z : Joined Ack). z.received) parted.acks;
        ended = ap (λ (z : Joined Ack). z.ended) parted.acks;
        failed = parted.failed ∙ ap (λ (f : Failures). record f { write = e.failed.write }) alone.failed ∙ ap (λ b. record was { read = b; write = e.failed.write }) (sym read_same);
        read_still = λ failed. read_same ∙ alone.read_still failed;
        write_still = λ failed. write_on (alone.write_still failed);
      }

      pub by_turns : HasTurned media on.begun ending was c.ending c.failed → IsLeftByTurns media on ending was e
      by_turns turned = record { last = c.ending; noted = c.failed; turned = turned; rings = parted.rings; edits = parted.edits; failed = parted.failed; write_still = write_on }
