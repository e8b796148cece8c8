-- What the definitions of take files come to.
use Rattle.std.specs.Prelude.{◌≡◌, ℕ, ◌+◌, ◌<◌, ◌≤◌, true, IsTrue, List, ◌++◌, length}
use Rattle.ses_units.specs.Name.{is_name}
use Rattle.ses_io.specs.Files.{Files}
use Rattle.session_model.specs.declared.session.Session.{Session}
use Rattle.session_model.specs.declared.edit.Edit.{Edit}
use Rattle.session_model.specs.Valid.{IsValid}
use Rattle.engine_model.specs.Journal.{Entry}
use Rattle.engine_model.specs.Fits.{is_lawful}
use Rattle.engine_model.specs.Takes.{route_name}
use Rattle.capture_flush.specs.Blocks.{Block, taken_blocks}
use Rattle.capture_flush.specs.Flushed.{Tape, IsFlushedInPart, block_bytes, second_blocks, stated}
use Rattle.capture_flush.specs.Finished.{IsCounted, Recorded, AreTakesInPart}

-- In a lawful journal takes are counted.
abbrev pub ALawfulJournalIsCounted : Type 0
ALawfulJournalIsCounted = (s : Session) (edits : List Edit) (journal : List Entry) → is_lawful s edits journal ≡ true → IsCounted s journal

-- the names of the tracks' routes are names
abbrev pub HasNamedTracks : Session → Type 0
HasNamedTracks s = (t : ℕ) → t < length s.tracks.items → IsTrue (is_name (route_name s t))

-- the blocks passed are the first of those that the journal took
abbrev pub PassesFirst : Tape → Recorded → List Entry → Type 0
PassesFirst tape run journal = (t : ℕ) → t < length run.session.tracks.items → (rest : List Block) × (taken_blocks run.session run.input t journal ≡ tape.blocks t ++ rest)

-- Where flushing ended early, the files have a front of each take of the journal.
abbrev pub AnEarlyEndIsInPart : Type 0
AnEarlyEndIsInPart = (tape : Tape) (run : Recorded) (journal : List Entry) (files : Files) → tape.session ≡ run.session → tape.held ≡ run.held → IsValid run.session →
    HasNamedTracks run.session → IsCounted run.session journal → PassesFirst tape run journal → IsFlushedInPart tape files → AreTakesInPart run journal files

-- What a head tells where so many blocks stand.
pub record KeepsUp (s : Session) (t blocks : ℕ) : Type 0 where
  -- no more than stand, and one at least where one stands
  pub most : stated s t blocks ≤ blocks
  pub least : 0 < blocks → 1 ≤ stated s t blocks
  -- it lacks less than a second of them, where they aren't shorter than a head, and are no more than a run has
  pub lacks : 44 ≤ block_bytes s t → blocks ≤ 100000 → blocks < stated s t blocks + second_blocks s

-- At no time a head tells of more blocks than stand, and it lacks less than a second of them.
abbrev pub AHeadKeepsUp : Type 0
AHeadKeepsUp = (s : Session) (t blocks : ℕ) → KeepsUp s t blocks
