-- What the master, the input, the takes and the rings of a run are at its end.
use Rattle.std.specs.Prelude.{◌≡◌, ◌⊎◌, ℕ, suc, ◌≤◌, ◌<◌, true, false, [], ◌++◌, length, map, drop, slice_get, Some, None}
use Rattle.sound_model.specs.Wav.{head}
use Rattle.ses_io.specs.Outside.{MediaOutside, SourceOutside, SinkOutside}
use Rattle.ses_io.specs.declared.world.World.{World}
use Rattle.session_model.specs.declared.session.Session.{Session}
use Rattle.engine_model.specs.Played.{master_file}
use Rattle.engine_model.specs.Takes.{Input}
use Rattle.capture_flush.specs.Blocks.{block_of, taken_blocks}
use Rattle.capture_flush.specs.Finished.{Recorded, AreTakes, AreTakesInPart}
use Rattle.run_end.specs.Takes.{AreCut}
use Rattle.run_rings.specs.declared.joining.TrackRings.{TrackRings}
use Rattle.run_world.specs.declared.finished.Finished.{Finished}
use Rattle.run_end.specs.Finished.{failures_of, journal_of}
use Rattle.run_end.specs.Mastered.{IsCutOff}
use Rattle.run_end.specs.Passed.{AllGenuine, AreSpent, IsToldOn, PassedOn}
use Rattle.session_play.specs.Controlled.{quits}
use Rattle.session_play.specs.Request.{Request, records}
use Rattle.session_opening.specs.Sounds.{bytes_of_block, input_left, input_sound, samples_in, sounds_in}

module _ {M I C W O : Type 0} where
  -- **Each master block.**
  pub record GetsItsMaster (media : MediaOutside M) (masters : SinkOutside W) (old : World M I C W O) (r : Request) (s : Session) (f : Finished M I C W O) : Type 0 where
    -- where no write of it failed the master has what it held, and then its file: header, the blocks of all entries, silence, pad byte
    pub written : media.tells → masters.tells → f.faults.master ≡ false → masters.held f.world.master ≡ masters.held old.master
        ++ master_file s f.edits.items (samples_in (media.files old.media) s f.edits.items) r.cycles (journal_of f)
    -- where one failed, a front of the header, or of one block past those of all entries, or of its end
    pub cut_off : media.tells → masters.tells → f.faults.master ≡ true →
        IsCutOff f.faults.input (masters.held old.master) (masters.held f.world.master) s f.edits.items (samples_in (media.files old.media) s f.edits.items) r.cycles (journal_of f)
    -- there is an entry for each cycle; fewer only after a quit, or where the input or the master has failed
    pub most : length (journal_of f) ≤ r.cycles
    pub all : quits f.edits.items ≡ false → f.faults.input ≡ false → f.faults.master ≡ false → length (journal_of f) ≡ r.cycles

  -- **The input gave its head, and one block for each entry**, as far as its data goes.
  pub record ReadsItsInput (inputs : SourceOutside I) (old : I) (s : Session) (f : Finished M I C W O) : Type 0 where
    pub read : inputs.tells → f.faults.input ≡ false → f.faults.master ≡ false → inputs.left f.world.input ≡ input_left s (length (journal_of f)) (inputs.left old)
    -- where a read of it failed, besides these a part of the block that was due
    pub fell : inputs.tells → f.faults.input ≡ true → (n : ℕ) × (n < bytes_of_block (head false (inputs.left old)) s (length (journal_of f)))
        × (inputs.left f.world.input ≡ drop n (input_left s (length (journal_of f)) (inputs.left old)))
    -- where a write of the master failed, maybe one block more
    pub cut : inputs.tells → f.faults.input ≡ false → f.faults.master ≡ true → (inputs.left f.world.input ≡ input_left s (length (journal_of f)) (inputs.left old))
        ⊎ (inputs.left f.world.input ≡ input_left s (suc (length (journal_of f))) (inputs.left old))

  -- what takes are made of: session, input, and the files as they were
  abbrev pub recorded_by : MediaOutside M → World M I C W O → Session → Input → Recorded
  recorded_by media old s input = record { session = s; input = input; held = media.files old.media }

  -- **Take files exact.**
  pub record LeavesItsTakes (media : MediaOutside M) (inputs : SourceOutside I) (old : World M I C W O) (r : Request) (s : Session) (f : Finished M I C W O) : Type 0 where
    -- some sound, which is the input's own where it tells
    pub input : Input
    pub told_so : inputs.tells → input ≡ input_sound (inputs.left old.input)
    -- each block that was captured is of it
    pub captured : (t : ℕ) (q : TrackRings) → slice_get f.rings.items t ≡ Some q → map block_of q.takes.sent ≡ taken_blocks s input t (journal_of f)
    -- of a play the media holds what it held, and exactly the takes that the journal names; once a write has failed, a front of each
    pub whole : records r ≡ true → media.tells → f.faults.write ≡ false → AreTakes (recorded_by media old s input) (journal_of f) (media.files f.world.media)
    pub in_part : records r ≡ true → media.tells → f.faults.write ≡ true → AreTakesInPart (recorded_by media old s input) (journal_of f) (media.files f.world.media)
    -- of no more takes than writes failed, while all others are whole
    pub others : records r ≡ true → media.tells →
        AreCut (recorded_by media old s input) (journal_of f) (media.write_faults old.media) (media.write_faults f.world.media) (media.files f.world.media)
    -- an export changes no file, and writes none
    pub same : records r ≡ false → media.files f.world.media ≡ media.files old.media
    pub unwritten : records r ≡ false → f.faults.write ≡ false

  -- **Editions never go back, and the rings are true.**
  pub record LeavesItsRings (media : MediaOutside M) (old : World M I C W O) (s : Session) (f : Finished M I C W O) : Type 0 where
    -- each track's rings are ordered, what the journal says of them is true, and it is lawful and made of what they passed on
    pub passed : PassedOn s f.edits.items (journal_of f) f.rings.items
    -- each piece that was sent is genuine
    pub genuine : media.tells → AllGenuine (sounds_in (media.files old.media) s) s f.edits.items f.rings.items
    -- a ring of items is closed exactly where a read of the media failed
    pub spent : AreSpent (failures_of f.faults) f.rings.items
    -- each entry was acknowledged to control, or found that ring full
    pub acks : IsToldOn s f.edits.items (journal_of f) f.acks
    -- which took none of them
    pub none_taken : f.acks.received ≡ []
    -- control allowed nothing by a ring
    pub ungranted : f.grants ≡ None
