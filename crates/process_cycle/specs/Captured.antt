-- What a capture ring was given: the blocks that entries took of its track. Entries stand newest first.
use Rattle.std.specs.Prelude.{◌≡◌, ℕ, ◌+◌, ◌==◌, true, List, map, reverse, slice_get, Some}
use Rattle.std.specs.List.{list_all}
use Rattle.session_model.specs.declared.session.Session.{Session}
use Rattle.engine_model.specs.Journal.{Entry}
use Rattle.engine_model.specs.Takes.{Input}
use Rattle.engine_model.specs.Truth.{losses}
use Rattle.disk_ring.specs.Sender.{Sender}
use Rattle.piece_item.specs.declared.take_block.TakeBlock.{TakeBlock}
use Rattle.capture_flush.specs.Blocks.{block_of, place_of, taken_blocks}

-- The ring of track t has exactly the blocks that the entries took, in order, and was found full exactly at those that they lost.
pub record AreCaptured (s : Session) (t : ℕ) (entries : List Entry) (d : Sender TakeBlock) : Type 0 where
  -- the takes and indices of its blocks, whatever the input was
  pub places : (input : Input) → map (λ b. place_of (block_of b)) d.sent ≡ map place_of (taken_blocks s input t (reverse entries))
  pub heads : d.heads ≡ map (λ l. l.head) (losses t (reverse entries))
  -- each of these met a full ring
  pub full : list_all (λ l. l.taken == l.head + s.depth) (losses t (reverse entries)) ≡ true

-- and each block is the track's of the input of its cycle
abbrev pub AreOfInput : Input → Session → List Entry → List (Sender TakeBlock) → Type 0
AreOfInput input s entries takes = (t : ℕ) (d : Sender TakeBlock) → slice_get takes t ≡ Some d →
    map block_of d.sent ≡ taken_blocks s input t (reverse entries)

-- What was heard of the input: some sound of which the captured blocks are, and the input's own where it tells.
pub record Hears (told : Type 0) (sound : Input) (s : Session) (entries : List Entry) (takes : List (Sender TakeBlock)) : Type 0 where
  pub input : Input
  pub told_so : told → input ≡ sound
  pub of_input : AreOfInput input s entries takes
