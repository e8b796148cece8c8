-- What the rings of a run passed on, and what its journal says of them.
use Rattle.std.specs.Prelude.{◌≡◌, ℕ, true, List, length, map, reverse, All, slice_get, Some}
use Rattle.sound_model.specs.Regions.{Sounds}
use Rattle.session_model.specs.declared.session.Session.{Session}
use Rattle.session_model.specs.declared.edit.Edit.{Edit}
use Rattle.engine_model.specs.Fits.{is_lawful}
use Rattle.engine_model.specs.Items.{Kind}
use Rattle.engine_model.specs.Journal.{Entry}
use Rattle.engine_model.specs.Made.{AreMade}
use Rattle.engine_model.specs.Order.{is_ordered}
use Rattle.engine_model.specs.Played.{samples_of, IsGenuine}
use Rattle.engine_model.specs.Takes.{Input}
use Rattle.engine_model.specs.Truth.{IsTruthful, losses}
use Rattle.engine_laws.specs.MadeLaws.{LooksStand}
use Rattle.disk_ring.specs.Rings.{Joined, Whole}
use Rattle.piece_item.specs.declared.ack.Ack.{Ack}
use Rattle.piece_item.specs.declared.take_block.TakeBlock.{TakeBlock}
use Rattle.piece_item.specs.Views.{ack_of, item_of}
use Rattle.read_ahead.specs.Items.{kinds}
use Rattle.capture_flush.specs.Blocks.{block_of, place_of, taken_blocks}
use Rattle.run_rings.specs.declared.joining.TrackRings.{TrackRings}
use Rattle.process_cycle.specs.Told.{AreTold}
use Rattle.run_end.specs.declared.failures.Failures.{Failures}

-- ---- the rings of a track

-- what was received of a track, the newest first
abbrev pub kinds_received : TrackRings → List Kind
kinds_received r = reverse (kinds r.plays.received)

-- The capture ring of track t was given exactly the blocks that the entries took, in order, and was found full exactly at those that they lost.
pub record IsCaptured (s : Session) (t : ℕ) (journal : List Entry) (ring : Joined TakeBlock) : Type 0 where
  -- the takes and indices of its blocks, whatever the input was
  pub places : (input : Input) → map (λ b. place_of (block_of b)) ring.sent ≡ map place_of (taken_blocks s input t journal)
  pub heads : ring.heads ≡ map (λ l. l.head) (losses t journal)

-- What went through the rings of track t.
pub record IsPassedOn (s : Session) (edits : List Edit) (journal : List Entry) (t : ℕ) (r : TrackRings) : Type 0 where
  -- both rings are of the session's depth
  pub depth : r.plays.depth ≡ s.depth
  pub take_depth : r.takes.depth ≡ s.depth
  -- what was received are the first of what was sent, and all of it after Closed
  pub items : Whole r.plays
  pub blocks : Whole r.takes
  -- the items sent are ordered
  pub ordered : is_ordered s edits t (kinds r.plays.sent) ≡ true
  -- what the journal says of pieces that weren't there is true of what was received, by a look of its own for each
  pub looks : LooksStand edits s.depth t (kinds_received r) (reverse r.plays.tails) (reverse journal)
  -- what it took was captured
  pub captured : IsCaptured s t journal r.takes
  -- so it says the truth of both rings
  pub truthful : IsTruthful edits s.depth t (kinds r.plays.sent) r.plays.tails r.takes.heads journal

-- **What went through the rings of all tracks, and that the journal is made of it.**
pub record PassedOn (s : Session) (edits : List Edit) (journal : List Entry) (rings : List TrackRings) : Type 0 where
  -- each track has its two rings
  pub many : length rings ≡ length s.tracks.items
  pub each : (t : ℕ) (r : TrackRings) → slice_get rings t ≡ Some r → IsPassedOn s edits journal t r
  -- each entry is that of a cycle, in the edition that it entered and over what had been received by then
  pub made : AreMade s edits (length edits) (map kinds_received rings) (reverse journal)
  -- so the journal is lawful
  pub lawful : is_lawful s edits journal ≡ true

-- ---- what the items are

-- each item sent is genuine, where the sources have these sounds
abbrev pub AllGenuine : Sounds → Session → List Edit → List TrackRings → Type 0
AllGenuine sounds s edits rings = (t : ℕ) (r : TrackRings) → slice_get rings t ≡ Some r →
    All (λ item. IsGenuine s edits (samples_of sounds s edits) (item_of item)) r.plays.sent

-- ---- how they are left

pub record IsSpent (failed : Failures) (r : TrackRings) : Type 0 where
  -- the ring of items was closed exactly where a read has failed
  pub items : r.plays.closed ≡ failed.read
  -- the capture ring was, and all its blocks were received, whatever has failed
  pub blocks : r.takes.closed ≡ true
  pub received : r.takes.received ≡ r.takes.sent

abbrev pub AreSpent : Failures → List TrackRings → Type 0
AreSpent failed rings = (t : ℕ) (r : TrackRings) → slice_get rings t ≡ Some r → IsSpent failed r

-- ---- acknowledgements

-- The ring to control, of the session's depth, was closed; each entry was acknowledged in it, or found it full.
pub record IsToldOn (s : Session) (edits : List Edit) (journal : List Entry) (acks : Joined Ack) : Type 0 where
  pub depth : acks.depth ≡ s.depth
  pub whole : Whole acks
  pub closed : acks.closed ≡ true
  pub told : AreTold edits s.depth (reverse journal) (reverse (map ack_of acks.sent)) (reverse acks.heads)

-- ---- all of it

-- **What went through the rings, and how they are left.**
pub record RingsAreLeft (s : Session) (edits : List Edit) (journal : List Entry) (failed : Failures) (rings : List TrackRings) (acks : Joined Ack) : Type 0 where
  pub passed : PassedOn s edits journal rings
  pub spent : AreSpent failed rings
  pub acks_are : IsToldOn s edits journal acks
