-- The events of the core machine: what each needs, and what it does (own). An event whose need fails does nothing.
use Rattle.std.specs.Prelude.{ℕ, suc, ◌-◌, ◌^◌, Bool, true, false, ◌&&◌, ◌||◌, not, nat_lt, if◌then◌else◌, List, [], ◌∷◌, ◌++◌, length, map, Option, Some, None, slice_get, is_some, is_none}
use Rattle.std.specs.List.{list_all}
use Rattle.std.specs.Option.{option_map_or}
use Rattle.session_model.specs.declared.session.Session.{Session}
use Rattle.session_model.specs.declared.edit.Edit.{Edit}
use Rattle.session_model.specs.Lists.{each_from}
use Rattle.engine_model.specs.Edits.{generation, has_quit}
use Rattle.engine_model.specs.Editions.{edition}
use Rattle.engine_model.specs.Changes.{changed_at}
use Rattle.engine_model.specs.Items.{Kind}
use Rattle.engine_model.specs.Journal.{Take, Off, Taken, Lost, Entry, is_rolling, rolled}
use Rattle.engine_model.specs.Due.{Ack, due}
use Rattle.engine_model.specs.Fits.{records, next_take}
use Rattle.engine_model.specs.Cycle.{entry_of}
use Rattle.engine_model.specs.Lines.{accepts_after}
use Rattle.machine_model.specs.Core.{TrackState, AckRing, Core, received_of, acks_taken, has_held, has_looked, coming_state}

pub data Side : Type 0 where
  ToButler : Side
  ToControl : Side

-- tracks go by their places, from 0
pub data Event : Type 0 where
  -- control publishes an edit
  Publish : Edit → Event
  -- the butler enters the newest edition; it sends what is due of a track; it flushes a block of a track
  EnterButler : Event
  Send : ℕ → Event
  Flush : ℕ → Event
  -- the process enters the newest edition, and so begins a cycle; it looks for an item of a track; it captures a track; it ends the cycle
  EnterProcess : Event
  Look : ℕ → Event
  Capture : ℕ → Event
  End : Event
  -- the process acknowledges its last entry; an acknowledgement is taken
  AckSend : Side → Event
  AckTake : Side → Event

-- ---- words

-- no item is sent past this many
abbrev pub most_sent : ℕ
most_sent = 2 ^ 62

-- what is due of a track
abbrev pub due_of : Session → ℕ → Core → ℕ → TrackState → Option Kind
due_of session cycles c t x = due session c.edits cycles t c.entered (acks_taken c.to_butler) x.sent

-- the playback ring of a track has room
abbrev pub has_room : Session → TrackState → Bool
has_room session x = nat_lt (length x.sent - x.received) session.depth && nat_lt (length x.sent) most_sent

abbrev pub at_track : Core → ℕ → (TrackState → Bool) → Bool
at_track c t p = option_map_or p (slice_get c.tracks t) false

-- this cycle records a track
abbrev pub is_recorded : Session → Core → ℕ → Bool
is_recorded session c t = is_rolling (coming_state session c) && records (edition session c.edits c.playing) t

-- each track's look-up is over
abbrev pub have_looked : Session → Core → Bool
have_looked session c = list_all (has_looked session c) c.tracks

-- a track that is recorded was captured
abbrev pub has_its_capture : Session → Core → ℕ → TrackState → Bool
has_its_capture session c t x = not (is_recorded session c t) || is_some x.taking

abbrev pub ring_of : Core → Side → AckRing
ring_of c ToButler = c.to_butler
ring_of c ToControl = c.to_control

-- ---- needs

abbrev pub can : Session → ℕ → Core → Event → Bool
can session cycles c (Publish edit) = not (has_quit c.edits (length c.edits)) && accepts_after session c.edits edit
can session cycles c EnterButler = true
can session cycles c (Send t) = at_track c t (λ x. has_room session x && is_some (due_of session cycles c t x))
can session cycles c (Flush t) = at_track c t (λ x. nat_lt x.flushed (length x.put))
can session cycles c EnterProcess = not c.in_cycle && nat_lt (length c.entries) cycles && not (has_quit c.edits c.playing)
can session cycles c (Look t) = c.in_cycle && at_track c t (λ x. not (has_held session c x))
can session cycles c (Capture t) = c.in_cycle && have_looked session c && is_recorded session c t && at_track c t (λ x. is_none x.taking)
can session cycles c End = c.in_cycle && have_looked session c && each_from (has_its_capture session c) 0 c.tracks
can session cycles c (AckSend side) = nat_lt (ring_of c side).told (length c.entries)
can session cycles c (AckTake side) = nat_lt (ring_of c side).taken (length (ring_of c side).sent)

-- ---- effects

abbrev pub with_tracks : (TrackState → TrackState) → ℕ → Core → Core
with_tracks f t c = record c { tracks = changed_at f t c.tracks }

abbrev pub sent_one : Option Kind → TrackState → TrackState
sent_one None x = x
sent_one (Some item) x = record x { sent = item ∷ x.sent }

-- a look takes the next item, or notes how many were received
abbrev pub looked_once : TrackState → TrackState
looked_once x = if nat_lt x.received (length x.sent) then record x { received = suc x.received; ended = false }
    else record x { tails = x.received ∷ x.tails; ended = true }

-- a block is put into the capture ring, or lost where that is full
abbrev pub captured_once : ℕ → ℕ × ℕ → TrackState → TrackState
captured_once depth next x = if nat_lt (length x.put - x.flushed) depth
    then record x { put = record { take = next.0; index = next.1 } ∷ x.put; taking = Some (Taken next.0 next.1) }
    else record x { heads = x.flushed ∷ x.heads; taking = Some (Lost next.0 next.1 x.flushed) }

-- at the beginning of a cycle no track was looked at or captured
abbrev pub begun : TrackState → TrackState
begun x = record x { ended = false; taking = None }

abbrev pub take_made : TrackState → Take
take_made x = option_map_or (λ take. take) x.taking Off

-- the acknowledgement of the last of the entries, which stands first
abbrev pub ack_of : List Edit → List Entry → Option Ack
ack_of edits [] = None
ack_of edits (e ∷ before) = let g = generation edits e.edition in
    Some (record { cycle = suc (length before); generation = g; next = rolled g (e ∷ before); settled = e.settled })

-- it is sent where the ring has room, and dropped where it hasn't
abbrev pub acknowledged : ℕ → ℕ → Option Ack → AckRing → AckRing
acknowledged depth entries None ring = record ring { told = entries }
acknowledged depth entries (Some ack) ring = if nat_lt (length ring.sent - ring.taken) depth
    then record { sent = ack ∷ ring.sent; taken = ring.taken; told = entries } else record ring { told = entries }

abbrev pub with_ring : (AckRing → AckRing) → Side → Core → Core
with_ring f ToButler c = record c { to_butler = f c.to_butler }
with_ring f ToControl c = record c { to_control = f c.to_control }

abbrev pub done : Session → ℕ → Core → Event → Core
done session cycles c (Publish edit) = record c { edits = c.edits ++ edit ∷ [] }
done session cycles c EnterButler = record c { entered = length c.edits }
done session cycles c (Send t) = with_tracks (λ x. sent_one (due_of session cycles c t x) x) t c
done session cycles c (Flush t) = with_tracks (λ x. record x { flushed = suc x.flushed }) t c
done session cycles c EnterProcess = record c {
  playing = length c.edits;
  in_cycle = not (has_quit c.edits (length c.edits));
  tracks = map begun c.tracks;
}
done session cycles c (Look t) = with_tracks looked_once t c
done session cycles c (Capture t) = with_tracks (captured_once session.depth (next_take t c.entries)) t c
done session cycles c End = record c {
  in_cycle = false;
  tracks = map begun c.tracks;
  entries = entry_of session c.edits c.entries (map received_of c.tracks) (map take_made c.tracks) c.playing ∷ c.entries;
}
done session cycles c (AckSend side) = with_ring (acknowledged session.depth (length c.entries) (ack_of c.edits c.entries)) side c
done session cycles c (AckTake side) = with_ring (λ ring. record ring { taken = suc ring.taken }) side c

-- ---- runs

abbrev pub step : Session → ℕ → Core → Event → Core
step session cycles c event = if can session cycles c event then done session cycles c event else c

-- the state after a list of events
abbrev pub after : Session → ℕ → Core → List Event → Core
after session cycles c [] = c
after session cycles c (event ∷ events) = after session cycles (step session cycles c event) events
