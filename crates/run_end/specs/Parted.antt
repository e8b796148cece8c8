-- How takes are made whole and rings are joined, once the butler has nothing left to do.
use Rattle.std.specs.Prelude.{◌≡◌, ◌≤◌, Bool, true, false, List, [], length}
use Rattle.ses_io.specs.Faults.{risen}
use Rattle.ses_io.specs.Outside.{MediaOutside}
use Rattle.engine_model.specs.Journal.{Entry}
use Rattle.cycle_journal.specs.JournalView.{seen_entries}
use Rattle.disk_ring.specs.Rings.{Whole, joined_of}
use Rattle.capture_flush.specs.Finished.{IsCounted, Recorded, AreTakes, AreTakesInPart, AreWholeBut, tape_of}
use Rattle.capture_flush.specs.Flushed.{IsFlushed}
use Rattle.capture_flush.specs.Taking.{IsTakingOf, Taking}
use Rattle.process_ends.specs.Ends.{AreOtherEnds}
use Rattle.run_rings.specs.Rings.{AllWhole, joined_tracks}
use Rattle.run_end.specs.declared.leaving.AtRest.{AtRest}
use Rattle.run_end.specs.declared.lists.RunLists.{RunLists}
use Rattle.run_end.specs.declared.parting.RunEnd.{RunEnd}
use Rattle.run_end.specs.Lists.{HaveRoomFor}

-- ---- takes

-- The files hold exactly the blocks that the entries took, and of a take that failed a front of them.
pub record HasFlushedAll {V : Type 0} (media : MediaOutside V) (run : Recorded) (journal : List Entry) (failed : Bool) (files : Taking) (v : V) : Type 0 where
  pub flushed : media.tells → IsFlushed (tape_of run journal) files (media.files v)
  -- none has failed where no write has
  pub none_failed : media.tells → failed ≡ false → files.failed ≡ []

-- Takes were made whole, but those that had failed.
pub record FinishesTakes {V : Type 0} (media : MediaOutside V) (run : Recorded) (journal : List Entry) (files : Taking) (was : Bool) (old : V) (now : Bool) (new : V) : Type 0 where
  -- a write that had failed has failed
  pub stays : was ≡ true → now ≡ true
  -- where no write fails the files hold the takes of the journal, and else a front of each
  pub whole : media.tells → now ≡ false → AreTakes run journal (media.files new)
  pub in_part : media.tells → now ≡ true → AreTakesInPart run journal (media.files new)
  -- each take is whole but those that had failed, and no more than writes failed since
  pub others : media.tells → AreWholeBut run journal files (media.write_faults old) (media.write_faults new) (media.files new)
  -- the count of failed writes rose where one is answered, and no read failed
  pub later : media.write_faults old ≤ media.write_faults new
  pub kept : now ≡ false → media.write_faults new ≡ media.write_faults old
  pub rose : was ≡ false → now ≡ true → risen (media.write_faults old) ≤ media.write_faults new
  pub reads : media.read_faults new ≡ media.read_faults old

-- ---- all of it

module _ {V I W : Type 0} where
  -- The rings may be joined, the lists have room, and the takes may be made whole where tracks were recorded.
  pub record MayPart (media : MediaOutside V) (run : Recorded) (c : AtRest V I W) (lists : RunLists) (records : Bool) : Type 0 where
    pub others : AreOtherEnds c.ending.ends c.ending.butler.ends
    pub sends : length c.ending.butler.ends.sends.items ≡ length run.session.tracks.items
    pub takes : length c.ending.ends.takes.items ≡ length run.session.tracks.items
    pub control : c.stopped.acks.ring ≡ c.ending.ends.to_control.ring
    pub lists_room : HaveRoomFor run.session lists
    pub taking : IsTakingOf run.session c.ending.butler.drain.files
    pub room : c.stopped.journal.room ≤ 100000
    pub counted : IsCounted run.session (seen_entries c.stopped.journal.items)
    pub flushed : records ≡ true → HasFlushedAll media run (seen_entries c.stopped.journal.items) c.failed.write c.ending.butler.drain.files c.ending.butler.media

  -- What is left is as it was, but for the takes; the rings are those that the ends become.
  pub record IsParted (media : MediaOutside V) (run : Recorded) (records : Bool) (old : AtRest V I W) (new : RunEnd V I W) : Type 0 where
    pub input : new.input ≡ old.stopped.input
    pub master : new.master ≡ old.stopped.master
    pub journal : new.journal ≡ old.stopped.journal
    pub edits : new.edits.items ≡ old.ending.edition.edits
    pub rings : new.rings.items ≡ joined_tracks old.ending.ends old.ending.butler.ends
    pub whole : AllWhole new.rings.items
    pub acks : new.acks ≡ joined_of old.ending.ends.to_control old.stopped.acks
    pub acks_whole : Whole new.acks
    -- where nothing is to be recorded no file is written; else takes are made whole, and only a write may fail
    pub failed : new.failed ≡ record old.failed { write = new.failed.write }
    pub quiet : records ≡ false → (new.media ≡ old.ending.butler.media) × (new.failed.write ≡ old.failed.write)
    pub finishes : records ≡ true → FinishesTakes media run (seen_entries old.stopped.journal.items) old.ending.butler.drain.files old.failed.write old.ending.butler.media new.failed.write new.media
