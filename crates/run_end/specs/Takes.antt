-- The takes that a run leaves.
use Rattle.std.specs.Prelude.{◌≡◌, ℕ, ◌+◌, ◌-◌, ◌^◌, ◌<◌, ◌≤◌, min, true, false, List, length, map, slice_get, Some}
use Rattle.ses_io.specs.Files.{Files}
use Rattle.ses_io.specs.Outside.{MediaOutside, SourceOutside}
use Rattle.cycle_journal.specs.JournalView.{seen_entries}
use Rattle.engine_model.specs.Journal.{Entry}
use Rattle.engine_model.specs.Takes.{Input, take_file, take_name}
use Rattle.capture_flush.specs.Blocks.{block_of, taken_blocks}
use Rattle.run_rings.specs.declared.joining.TrackRings.{TrackRings}
use Rattle.capture_flush.specs.Finished.{Recorded, AreTakes, AreTakesInPart, is_among, names_take}
use Rattle.capture_flush.specs.Taking.{most_failed}
use Rattle.input_blocks.specs.Rest.{rest_sound}
use Rattle.worker_pair.specs.Begun.{Begun}
use Rattle.run_end.specs.Started.{Started}
use Rattle.run_end.specs.declared.parting.RunEnd.{RunEnd}

-- what takes are made of: session and files as they were at first, and what was heard
abbrev pub recorded_of : Begun → Input → Recorded
recorded_of begun input = record { session = begun.session; input = input; held = begun.files }

-- **No more takes are cut than writes failed**: each take that the journal names is whole, but these.
pub record AreCut (run : Recorded) (journal : List Entry) (before after : ℕ) (files : Files) : Type 0 where
  -- each by its track and its number; the count of failed writes stands still at its end
  pub cut : List (ℕ × ℕ)
  pub many : min (before + length cut) (2 ^ 64 - 1) ≤ after
  -- where fewer are cut than can be noted
  pub whole : length cut < most_failed → (t n : ℕ) → t < length run.session.tracks.items → names_take t n journal ≡ true → is_among t n cut ≡ false →
      files (take_name run.session t n) ≡ Some (take_file run.session run.input t n journal)

-- **The takes that a run leaves**, of what was heard of its input.
pub record LeavesTakes {V I W : Type 0} (media : MediaOutside V) (inputs : SourceOutside I) (on : Started V I W) (ended : RunEnd V I W) : Type 0 where
  -- some sound, which is the input's own where it tells
  pub input : Input
  pub told_so : inputs.tells → input ≡ rest_sound on.stream on.begun.start
  -- each block that was captured is of it
  pub captured : (t : ℕ) (r : TrackRings) → slice_get ended.rings.items t ≡ Some r → map block_of r.takes.sent ≡ taken_blocks on.begun.session input t (seen_entries ended.journal.items)
  -- where tracks may be recorded the files hold exactly the takes that the journal names beside what they held
  pub whole : on.begun.records ≡ true → media.tells → ended.failed.write ≡ false → AreTakes (recorded_of on.begun input) (seen_entries ended.journal.items) (media.files ended.media)
  -- and once a write has failed, a front of each take's sound
  pub in_part : on.begun.records ≡ true → media.tells → ended.failed.write ≡ true →
      AreTakesInPart (recorded_of on.begun input) (seen_entries ended.journal.items) (media.files ended.media)
  -- whatever was written: all takes are whole but as many as writes failed
  pub others : on.begun.records ≡ true → media.tells →
      AreCut (recorded_of on.begun input) (seen_entries ended.journal.items) on.begun.write_faults (media.write_faults ended.media) (media.files ended.media)
  -- else no file has changed
  pub same : on.begun.records ≡ false → media.files ended.media ≡ on.begun.files
  -- and no write of them has failed
  pub unwritten : on.begun.records ≡ false → ended.failed.write ≡ false
