-- The state of the core machine: what butler, process and control have done, as plain lists (the butler, the rings and the copies of
-- the routes are Ardour's; the rest is own). Lists stand newest first, but for the edits.
use Rattle.std.specs.Prelude.{ℕ, ◌-◌, Bool, false, ◌||◌, List, [], ◌∷◌, length, map, drop, take, reverse, replicate, Option, None}
use Rattle.session_model.specs.declared.session.Session.{Session}
use Rattle.session_model.specs.declared.edit.Edit.{Edit}
use Rattle.engine_model.specs.Edits.{generation}
use Rattle.engine_model.specs.Editions.{edition}
use Rattle.engine_model.specs.Items.{Kind}
use Rattle.engine_model.specs.Journal.{Take, State, Entry, rolled}
use Rattle.engine_model.specs.Due.{Ack}
use Rattle.engine_model.specs.Cycle.{is_held, state_of}

-- a block of the input that was captured: take, index
pub record Captured : Type 0 where
  pub take : ℕ
  pub index : ℕ

-- the two rings of one track
pub record TrackState : Type 0 where
  -- what the butler sent, and how many of it the process received
  pub sent : List Kind
  pub received : ℕ
  -- the numbers received at looks that found nothing more
  pub tails : List ℕ
  -- the last look of this cycle found nothing more
  pub ended : Bool
  -- the blocks that were put into the capture ring, and how many of them were flushed
  pub put : List Captured
  pub flushed : ℕ
  -- the numbers flushed at blocks that found the ring full
  pub heads : List ℕ
  -- what this cycle took of the track, where it was captured already
  pub taking : Option Take

-- a ring of acknowledgements: what was sent, how many of it were taken, and how many entries had been made when it was last sent to
pub record AckRing : Type 0 where
  pub sent : List Ack
  pub taken : ℕ
  pub told : ℕ

pub record Core : Type 0 where
  -- the accepted edits, the first one first
  pub edits : List Edit
  -- the edition that the butler entered
  pub entered : ℕ
  -- the edition that the process entered
  pub playing : ℕ
  -- a cycle is open: it was entered, and its entry isn't made
  pub in_cycle : Bool
  pub tracks : List TrackState
  pub entries : List Entry
  pub to_butler : AckRing
  pub to_control : AckRing

-- ---- at first

abbrev pub idle_track : TrackState
idle_track = record { sent = []; received = 0; tails = []; ended = false; put = []; flushed = 0; heads = []; taking = None }

abbrev pub empty_acks : AckRing
empty_acks = record { sent = []; taken = 0; told = 0 }

abbrev pub at_first : Session → Core
at_first session = record {
  edits = [];
  entered = 0;
  playing = 0;
  in_cycle = false;
  tracks = replicate (length session.tracks.items) idle_track;
  entries = [];
  to_butler = empty_acks;
  to_control = empty_acks;
}

-- ---- words on a state

-- the items of a track that the process received, and those that it didn't, the oldest of these first
abbrev pub received_of : TrackState → List Kind
received_of x = drop (length x.sent - x.received) x.sent

abbrev pub unreceived_of : TrackState → List Kind
unreceived_of x = reverse (take (length x.sent - x.received) x.sent)

-- the acknowledgements of a ring that were taken
abbrev pub acks_taken : AckRing → List Ack
acks_taken ring = drop (length ring.sent - ring.taken) ring.sent

-- the generation that the process plays, and the block of it that is next
abbrev pub playing_generation : Core → ℕ
playing_generation c = generation c.edits c.playing

abbrev pub playing_block : Core → ℕ
playing_block c = rolled (playing_generation c) c.entries

abbrev pub first_is_held : ℕ → ℕ → ℕ → List Kind → Bool
first_is_held depth g s [] = false
first_is_held depth g s (x ∷ xs) = is_held depth g s x

-- the last item received of a track is held
abbrev pub has_held : Session → Core → TrackState → Bool
has_held session c x = first_is_held session.depth (playing_generation c) (playing_block c) (received_of x)

-- the look-up of a track is over: it found nothing more, or an item that is held
abbrev pub has_looked : Session → Core → TrackState → Bool
has_looked session c x = x.ended || has_held session c x

-- the state that the entry of this cycle has, by what was received so far
abbrev pub coming_state : Session → Core → State
coming_state session c = state_of (edition session c.edits c.playing).transport.rolling (playing_generation c) (playing_block c) (map received_of c.tracks)
