-- The ends of the rings of a run as the process has them: new ones, how they meet the butler's, and how they are closed.
use Rattle.std.specs.Prelude.{◌≡◌, ℕ, ◌*◌, ◌<◌, true, false, List, [], length, map, slice_get, slice_index_or, Some}
use Rattle.session_model.specs.declared.session.Session.{Session}
use Rattle.session_model.specs.Formed.{channels_at}
use Rattle.disk_ring.specs.Sender.{Sender}
use Rattle.disk_ring.specs.Receiver.{Receiver}
use Rattle.disk_ring.specs.Rings.{Met, StillMet}
use Rattle.piece_item.specs.declared.item.Item.{Item}
use Rattle.piece_item.specs.declared.take_block.TakeBlock.{TakeBlock}
use Rattle.piece_item.specs.declared.butler_ends.ButlerEnds.{ButlerEnds}
use Rattle.process_ends.specs.declared.ends.ProcessEnds.{ProcessEnds}

-- how many samples a block of a track has
abbrev pub block_of : Session → ℕ → ℕ
block_of s t = s.block * channels_at s t

module _ {T : Type 0} where
  -- an end that takes, of a ring of so many items of so many samples through which nothing went yet
  pub record IsNewOut (items samples : ℕ) (r : Receiver T) : Type 0 where
    pub depth : r.depth ≡ items
    pub room : r.room ≡ samples
    pub received : r.received ≡ []
    pub tails : r.tails ≡ []
    pub ended : r.ended ≡ false

  -- an end that puts, likewise
  pub record IsNewIn (items samples : ℕ) (a : Sender T) : Type 0 where
    pub depth : a.depth ≡ items
    pub room : a.room ≡ samples
    pub sent : a.sent ≡ []
    pub heads : a.heads ≡ []
    pub closed : a.closed ≡ false

-- the ends of new rings: of each track two, whose boxes have a block of it, and two of acknowledgements
pub record AreNew (s : Session) (ends : ProcessEnds) : Type 0 where
  pub plays : length ends.plays.items ≡ length s.tracks.items
  pub takes : length ends.takes.items ≡ length s.tracks.items
  pub each_play : (t : ℕ) (r : Receiver Item) → t < length s.tracks.items → IsNewOut s.depth (block_of s t) (slice_index_or ends.plays.items t r)
  pub each_take : (t : ℕ) (a : Sender TakeBlock) → t < length s.tracks.items → IsNewIn s.depth (block_of s t) (slice_index_or ends.takes.items t a)
  pub to_butler : IsNewIn s.depth 0 ends.to_butler
  pub to_control : IsNewIn s.depth 0 ends.to_control

-- each track's boxes have a block of it
abbrev pub HaveRooms : Session → List (Receiver Item) → Type 0
HaveRooms s plays = (t : ℕ) (r : Receiver Item) → slice_get plays t ≡ Some r → r.room ≡ block_of s t

-- ---- meeting

-- these two lists are of the ends of the same rings
pub record AreOfOneRing {T : Type 0} (senders : List (Sender T)) (receivers : List (Receiver T)) : Type 0 where
  pub count : length receivers ≡ length senders
  pub ring : (t : ℕ) (a : Sender T) (b : Receiver T) → t < length senders → (slice_index_or receivers t b).ring ≡ (slice_index_or senders t a).ring

-- two ends of a ring told each other what they knew
pub record Meet {T : Type 0} (a : Sender T) (b : Receiver T) (c : Sender T) (d : Receiver T) : Type 0 where
  pub sender : c ≡ record a { got = length b.received }
  pub receiver : d ≡ record b { heard = a.sent; over = a.closed }
  pub met : Met a b

-- each pair of them did
pub record AllMeet {T : Type 0} (a : List (Sender T)) (b : List (Receiver T)) (c : List (Sender T)) (d : List (Receiver T)) : Type 0 where
  pub senders : length c ≡ length a
  pub receivers : length d ≡ length b
  pub each : (t : ℕ) (x : Sender T) (y : Receiver T) → t < length a → Meet (slice_index_or a t x) (slice_index_or b t y) (slice_index_or c t x) (slice_index_or d t y)

-- the butler's ends are those of the same rings
pub record AreOtherEnds (ours : ProcessEnds) (theirs : ButlerEnds) : Type 0 where
  pub plays : AreOfOneRing theirs.sends.items ours.plays.items
  pub takes : AreOfOneRing ours.takes.items theirs.takes.items
  pub acks : theirs.acks.ring ≡ ours.to_butler.ring

-- of each pair whose counts agree what is so of ends that meet is so
abbrev pub AllStillMet : {T : Type 0} → List (Sender T) → List (Receiver T) → Type 0
AllStillMet {T} senders receivers = (t : ℕ) (a : Sender T) (b : Receiver T) → slice_get senders t ≡ Some a → slice_get receivers t ≡ Some b → StillMet a b

-- The butler's ends may be met again: a pair on which nothing moved since it met is left as it is.
pub record MayMeet (ours : ProcessEnds) (theirs : ButlerEnds) : Type 0 where
  pub others : AreOtherEnds ours theirs
  pub plays : AllStillMet theirs.sends.items ours.plays.items
  pub takes : AllStillMet ours.takes.items theirs.takes.items
  pub acks : StillMet ours.to_butler theirs.acks

-- All ends but those of the playback rings know all of each other, so that a meeting leaves them as they are; the others may be met again.
pub record MayMeetPlays (ours : ProcessEnds) (theirs : ButlerEnds) : Type 0 where
  pub others : AreOtherEnds ours theirs
  pub plays : AllStillMet theirs.sends.items ours.plays.items
  pub takes : AllMeet ours.takes.items theirs.takes.items ours.takes.items theirs.takes.items
  pub acks : Meet ours.to_butler theirs.acks ours.to_butler theirs.acks

pub record EndsMeet (ours : ProcessEnds) (theirs : ButlerEnds) (ours_now : ProcessEnds) (theirs_now : ButlerEnds) : Type 0 where
  pub plays : AllMeet theirs.sends.items ours.plays.items theirs_now.sends.items ours_now.plays.items
  pub takes : AllMeet ours.takes.items theirs.takes.items ours_now.takes.items theirs_now.takes.items
  pub acks : Meet ours.to_butler theirs.acks ours_now.to_butler theirs_now.acks
  -- control isn't there
  pub to_control : ours_now.to_control ≡ ours.to_control
  -- and lists keep their room
  pub plays_room : ours_now.plays.room ≡ ours.plays.room
  pub takes_room : ours_now.takes.room ≡ ours.takes.room
  pub sends_room : theirs_now.sends.room ≡ theirs.sends.room
  pub flushes_room : theirs_now.takes.room ≡ theirs.takes.room

-- ---- closing

abbrev pub shut : {T : Type 0} → Sender T → Sender T
shut a = record a { closed = true }

-- the ends that put are closed, and the others as they were
abbrev pub shut_ends : ProcessEnds → ProcessEnds
shut_ends ends = record {
  plays = ends.plays;
  takes = record { items = map shut ends.takes.items; room = ends.takes.room };
  to_butler = shut ends.to_butler;
  to_control = shut ends.to_control;
}
