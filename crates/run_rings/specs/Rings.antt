-- The rings of a run, new and joined again.
use Rattle.std.specs.Prelude.{◌≡◌, ℕ, ◌<◌, List, [], ◌∷◌, length, All, slice_index_or}
use Rattle.session_model.specs.declared.session.Session.{Session}
use Rattle.disk_ring.specs.Sender.{Sender}
use Rattle.disk_ring.specs.Receiver.{Receiver}
use Rattle.disk_ring.specs.Rings.{IsNewRing, Whole, joined_of}
use Rattle.run_rings.specs.declared.joining.TrackRings.{TrackRings}
use Rattle.piece_item.specs.declared.item.Item.{Item}
use Rattle.piece_item.specs.declared.take_block.TakeBlock.{TakeBlock}
use Rattle.process_ends.specs.Ends.{block_of}
use Rattle.piece_item.specs.declared.butler_ends.ButlerEnds.{ButlerEnds}
use Rattle.process_ends.specs.declared.ends.ProcessEnds.{ProcessEnds}
use Rattle.run_rings.specs.declared.joining.TrackEnds.{TrackEnds}
use Rattle.run_rings.specs.declared.run_ends.RunEnds.{RunEnds}

-- the two ends of a new ring of so many boxes of so many samples
pub record IsRing {T : Type 0} (depth samples : ℕ) (a : Sender T) (b : Receiver T) : Type 0 where
  pub new : IsNewRing depth a b
  pub room : a.room ≡ samples

-- of each of so many tracks a new ring, whose boxes have a block of it
abbrev pub AreRings : {T : Type 0} → Session → ℕ → List (Sender T) → List (Receiver T) → Type 0
AreRings {T} s many a b = (length a ≡ many) × (length b ≡ many)
    × ((t : ℕ) (x : Sender T) (y : Receiver T) → t < many → IsRing s.depth (block_of s t) (slice_index_or a t x) (slice_index_or b t y))

-- of each track of a session one
abbrev pub EachHasARing : {T : Type 0} → Session → List (Sender T) → List (Receiver T) → Type 0
EachHasARing s a b = AreRings s (length s.tracks.items) a b

-- The ends are those of new rings: of each track one for its items and one for the blocks of its takes, and two of acknowledgements.
pub record AreNewRunEnds (s : Session) (w : RunEnds) : Type 0 where
  pub items : EachHasARing s w.butler.sends.items w.process.plays.items
  pub takes : EachHasARing s w.process.takes.items w.butler.takes.items
  pub to_butler : IsRing s.depth 0 w.process.to_butler w.butler.acks
  pub to_control : IsRing s.depth 0 w.process.to_control w.acks

-- of each track the rings that its ends become
abbrev pub joined_all : List (Sender Item) → List (Receiver Item) → List (Sender TakeBlock) → List (Receiver TakeBlock) → List TrackRings
joined_all (a ∷ xs) (b ∷ ys) (c ∷ zs) (d ∷ ws) = record { plays = joined_of a b; takes = joined_of c d } ∷ joined_all xs ys zs ws
joined_all _ _ _ _ = []

-- and those of all of them
abbrev pub joined_ends : TrackEnds → List TrackRings
joined_ends ends = joined_all ends.sends.items ends.plays.items ends.captures.items ends.flushes.items

abbrev pub joined_tracks : ProcessEnds → ButlerEnds → List TrackRings
joined_tracks ours theirs = joined_all theirs.sends.items ours.plays.items ours.takes.items theirs.takes.items

-- what was received of each ring are the first of the items sent
abbrev pub AllWhole : List TrackRings → Type 0
AllWhole rings = All (λ r. Whole r.plays × Whole r.takes) rings
