-- What a turn of one item moves, as a function of what the butler's ends know: the one flush or send of the core machine, the first
-- possible in the order of the tracks.
use Rattle.std.specs.Prelude.{◌≡◌, ℕ, ◌+◌, ◌^◌, ◌≤◌, Bool, true, false, ◌&&◌, ◌==◌, not, nat_lt, is_some, if◌then◌else◌, List, [], ◌∷◌, ◌++◌, length, map, reverse, find, slice_get, Option, Some, None, Ok}
use Rattle.std.specs.List.{range_with_len}
use Rattle.std.specs.Option.{option_map_or}
use mathlib.Core.List.{IsPrefix}
use Rattle.session_model.specs.declared.session.Session.{Session}
use Rattle.engine_model.specs.Items as engine
use Rattle.engine_model.specs.Due.{due}
use Rattle.machine_model.specs.Events.{Event, Send, Flush, Publish, EnterButler, EnterProcess, Look, Capture, End, AckSend, AckTake}
use Rattle.edition_log.specs.EditionState.{EditionState as Edition}
use Rattle.disk_ring.specs.Sender.{Sender}
use Rattle.disk_ring.specs.Receiver.{Receiver}
use Rattle.piece_item.specs.declared.item.Item.{Item}
use Rattle.piece_item.specs.declared.take_block.TakeBlock.{TakeBlock}
use Rattle.read_ahead.specs.Items.{kinds}
use Rattle.butler.specs.declared.turning.Turn.{Turn}
use Rattle.butler.specs.declared.turning.Turn.TheVariants.{Moved, Idle}
use Rattle.butler.specs.Sends.{acks_of}
use Rattle.butler.specs.ButlerState.{ButlerState}
use Rattle.butler.specs.Turns.{Receives, AllSend, Answers}

-- a block waits in a capture ring, as far as it was told
abbrev pub waits : Receiver TakeBlock → Bool
waits r = nat_lt (length r.received) (length r.heard)

-- a playback ring has room for one item more, as far as it knows
abbrev pub has_room : Sender Item → Bool
has_room d = nat_lt (length d.sent) (d.got + d.depth) && nat_lt (length d.sent) (2 ^ 62)

module _ {V : Type 0} (s : Session) (e : Edition) (old new : ButlerState V) where
  -- what is due of a track, by the edition that was entered and the acknowledgements that were taken
  abbrev pub due_of : ℕ → Sender Item → Option engine.Kind
  due_of t d = due s e.edits old.cycles t (length e.edits) (acks_of new.ends.acks.received) (reverse (kinds d.sent))

  abbrev pub can_send : ℕ → Sender Item → Bool
  can_send t d = not old.hushed && (has_room d && is_some (due_of t d))

  abbrev pub can_move : Event → Bool
  can_move (Flush t) = option_map_or waits (slice_get old.ends.takes.items t) false
  can_move (Send t) = option_map_or (can_send t) (slice_get old.ends.sends.items t) false
  can_move (Publish edit) = false
  can_move EnterButler = false
  can_move EnterProcess = false
  can_move (Look t) = false
  can_move (Capture t) = false
  can_move End = false
  can_move (AckSend side) = false
  can_move (AckTake side) = false

  -- the first of them that is possible
  abbrev pub first_move : Option Event
  first_move = find can_move (map Flush (range_with_len 0 (length old.ends.takes.items)) ++ map Send (range_with_len 0 (length old.ends.sends.items)))

-- how many blocks it flushes of a track
abbrev pub flushed_by : Option Event → ℕ → ℕ
flushed_by (Some (Flush u)) t = if u == t then 1 else 0
flushed_by _ t = 0

-- what it sends of a track of which this is due
abbrev pub one_of : Option engine.Kind → List engine.Kind
one_of (Some x) = x ∷ []
one_of None = []

abbrev pub sent_by : Option Event → ℕ → Option engine.Kind → List engine.Kind
sent_by (Some (Send u)) t x = if u == t then one_of x else []
sent_by _ t x = []

abbrev pub answer_of : Option Event → Turn
answer_of (Some event) = Moved 1
answer_of None = Idle

-- Nobody was at the other ends during the turn, and before it all ends had met: what was received is what it had been told of, and what
-- was sent has a box by the number that it knew of.
pub record IsAlone {V : Type 0} (old new : ButlerState V) : Type 0 where
  pub takes : (t : ℕ) (c b : Receiver TakeBlock) → slice_get old.ends.takes.items t ≡ Some c → slice_get new.ends.takes.items t ≡ Some b →
      IsPrefix c.received c.heard × IsPrefix b.received c.heard
  pub sends : (t : ℕ) (d f : Sender Item) → slice_get old.ends.sends.items t ≡ Some d → slice_get new.ends.sends.items t ≡ Some f →
      (length f.sent ≤ d.got + d.depth) × (length f.sent ≤ 2 ^ 62) × (d.closed ≡ old.hushed)
  pub many : length new.ends.takes.items ≡ length old.ends.takes.items
  pub many_sends : length new.ends.sends.items ≡ length old.ends.sends.items

-- The turn made this move and no other.
pub record MakesMove {V : Type 0} (s : Session) (e : Edition) (old : ButlerState V) (turn : Turn) (new : ButlerState V) (move : Option Event) : Type 0 where
  pub takes : (t : ℕ) (c b : Receiver TakeBlock) → slice_get old.ends.takes.items t ≡ Some c → slice_get new.ends.takes.items t ≡ Some b →
      length b.received ≡ length c.received + flushed_by move t
  pub sends : (t : ℕ) (d f : Sender Item) → slice_get old.ends.sends.items t ≡ Some d → slice_get new.ends.sends.items t ≡ Some f →
      kinds f.sent ≡ kinds d.sent ++ sent_by move t (due_of s e old new t d)
  pub answer : turn ≡ answer_of move

-- A turn of at most one item that nothing fails in is one move, or none, as a function of what the butler knew.
abbrev pub ATurnOfOneIsOneMove : Type 0 → Type 0
ATurnOfOneIsOneMove V = (s : Session) (e : Edition) (old : ButlerState V) (turn : Turn) (new : ButlerState V) → Receives old new → AllSend s e old new → Answers s e 1 old (Ok turn) new →
    (old.hushed ≡ true → new.ends.sends ≡ old.ends.sends) → IsAlone old new →
    MakesMove s e old turn new (first_move s e old new)
