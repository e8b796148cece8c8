-- The blocks that were passed for a track, and which of them its take files keep (own). Takes count from 1, blocks of a take from 0.
use Rattle.std.specs.Prelude.{ℕ, suc, ◌*◌, max, ℤ, Bool, true, ◌&&◌, ◌||◌, ◌==◌, nat_lt, if◌then◌else◌, List, [], ◌∷◌, ◌++◌, length, Option, Some, None}
use Rattle.session_model.specs.declared.session.Session.{Session}
use Rattle.session_model.specs.Formed.{channels_at}
use Rattle.engine_model.specs.Journal.{Take, Off, Taken, Lost, Entry, note_of}
use Rattle.engine_model.specs.Takes.{Input, input_block}
use Rattle.piece_item.specs.declared.take_block.TakeBlock.{TakeBlock}
use Rattle.capture_flush.specs.declared.track.Place.{Place}

pub record Block : Type 0 where
  pub take : ℕ
  -- its place in the take
  pub index : ℕ
  pub samples : List ℤ

abbrev pub block_of : TakeBlock → Block
block_of b = record { take = b.take; index = b.index; samples = b.samples.items }

abbrev pub place_of : Block → Place
place_of b = record { take = b.take; index = b.index }

-- the samples of a block of track t
abbrev pub block_samples : Session → ℕ → ℕ
block_samples s t = s.block * channels_at s t

-- ---- which blocks are kept

-- the place comes after the last block that was kept: no block was, or its take is greater, or in the same take its index is
abbrev pub comes_after : Option Place → Block → Bool
comes_after None b = true
comes_after (Some last) b = nat_lt last.take b.take || (b.take == last.take && nat_lt last.index b.index)

-- the block is kept: it has the samples of one block, and comes after the last one
abbrev pub is_kept : Session → ℕ → Option Place → Block → Bool
is_kept s t last b = length b.samples == block_samples s t && comes_after last b

-- the last block that was kept, after one more was passed
abbrev pub last_after : Session → ℕ → Option Place → Block → Option Place
last_after s t last b = if is_kept s t last b then Some (place_of b) else last

-- the blocks that are kept of those passed, where `last` was kept before them
abbrev pub kept_from : Session → ℕ → Option Place → List Block → List Block
kept_from s t last [] = []
kept_from s t last (b ∷ bs) = if is_kept s t last b then b ∷ kept_from s t (Some (place_of b)) bs else kept_from s t last bs

abbrev pub kept : Session → ℕ → List Block → List Block
kept s t blocks = kept_from s t None blocks

-- and the last of them
abbrev pub last_from : Session → ℕ → Option Place → List Block → Option Place
last_from s t last [] = last
last_from s t last (b ∷ bs) = last_from s t (last_after s t last b) bs

-- ---- where they stand in a take

-- the samples of the block at an index of take n, if it came
abbrev pub block_at : ℕ → ℕ → List Block → Option (List ℤ)
block_at n i [] = None
block_at n i (b ∷ bs) = if b.take == n && b.index == i then Some b.samples else block_at n i bs

-- how many blocks a file of take n has: as far as the last that came, 0 where none did
abbrev pub blocks_in : ℕ → List Block → ℕ
blocks_in n [] = 0
blocks_in n (b ∷ bs) = if b.take == n then max (suc b.index) (blocks_in n bs) else blocks_in n bs

-- ---- the blocks of a journal

-- the block of track t that the entry of cycle c took; cycles count from 0 here
abbrev pub taken_in : Session → Input → ℕ → ℕ → Take → List Block
taken_in s input t c Off = []
taken_in s input t c (Taken n i) = record { take = n; index = i; samples = input_block s input t c } ∷ []
taken_in s input t c (Lost n i head) = []

abbrev pub taken_from : Session → Input → ℕ → ℕ → List Entry → List Block
taken_from s input t c [] = []
taken_from s input t c (e ∷ es) = taken_in s input t c (note_of t e).take ++ taken_from s input t (suc c) es

-- the blocks of track t that a journal took, in its order
abbrev pub taken_blocks : Session → Input → ℕ → List Entry → List Block
taken_blocks s input t journal = taken_from s input t 0 journal
