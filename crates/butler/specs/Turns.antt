-- What a turn does.
use Rattle.std.specs.Prelude.{◌≡◌, ℕ, ◌+◌, ◌<◌, ◌≤◌, true, false, List, length, slice_get, slice_index_or, Some, Result, Ok, Err}
use mathlib.Core.List.{IsPrefix}
use Rattle.ses_io.specs.Files.{Files}
use Rattle.ses_io.specs.Outside.{MediaOutside}
use Rattle.session_model.specs.declared.session.Session.{Session}
use Rattle.engine_model.specs.Due.{Ack}
use Rattle.edition_log.specs.EditionState.{EditionState as Edition, IsEditionOf}
use Rattle.disk_ring.specs.Sender.{Sender}
use Rattle.piece_item.specs.declared.item.Item.{Item}
use Rattle.capture_flush.specs.Flushed.{IsFlushed}
use Rattle.read_ahead.specs.Pass.{PassState}
use Rattle.read_ahead.specs.AllServes.{total_sent, AllAtHand}
use Rattle.capture_drain.specs.Drains.{IsDrained, AllDrain, AreDrained, total_received}
use Rattle.capture_drain.specs.Files.{tape_of}
use Rattle.butler.specs.declared.turning.Turn.{Turn}
use Rattle.butler.specs.declared.turning.Turn.TheVariants.{Moved, Idle}
use Rattle.butler.specs.declared.faults.ButlerFault.{ButlerFault}
use Rattle.butler.specs.declared.faults.ButlerFault.TheVariants.{ReadFault, WriteFault}
use Rattle.butler.specs.Sends.{acks_of, SendsOf, IsDone}
use Rattle.butler.specs.ButlerState.{ButlerState, Served, start_of}
use Rattle.butler.specs.Serving.{IsServing, IsTrueTo, SourcesStand}

-- the butler may enter the edition
pub record Enters {V : Type 0} (at : Served) (b : ButlerState V) (e : Edition) : Type 0 where
  -- it serves the session, and these are the edits that it entered last
  pub serving : IsServing at.session at.edits b
  -- the edition is one of the session
  pub edition_of : IsEditionOf at.session e
  -- and its list begins with them
  pub grows : IsPrefix at.edits e.edits

-- ---- what is received

pub record Receives {V : Type 0} (old new : ButlerState V) : Type 0 where
  -- all acknowledgements were taken
  pub acks : IsDrained old.ends.acks new.ends.acks
  -- and blocks of the capture rings
  pub takes : AllDrain old.ends.takes.items new.ends.takes.items

-- flushing is over: each capture ring was taken to its end
abbrev pub HasFlushed : {V : Type 0} → ButlerState V → ButlerState V → Type 0
HasFlushed old new = AreDrained old.ends.takes.items new.ends.takes.items

-- Where the files held the blocks that had been received, and of each take that had failed a front, so they do now.
abbrev pub TakesAreKept : Served → Files → Files → {V : Type 0} → ButlerState V → ButlerState V → Type 0
TakesAreKept at before after old new = IsFlushed (tape_of (start_of at) old.ends.takes.items) old.drain.files before →
    IsFlushed (tape_of (start_of at) new.ends.takes.items) new.drain.files after

-- ---- what is sent

-- of each track a turn sent what was due, by the edition that was entered and the acknowledgements that were taken
abbrev pub AllSend : {V : Type 0} → Session → Edition → ButlerState V → ButlerState V → Type 0
AllSend s e old new = (t : ℕ) (d f : Sender Item) → slice_get old.ends.sends.items t ≡ Some d → slice_get new.ends.sends.items t ≡ Some f →
    SendsOf s e.edits old.cycles t (acks_of new.ends.acks.received) d f

-- Where the files of the sources hold what they held at first, all that was held, made and sent by them stays true to them.
abbrev pub StaysTrue : {V : Type 0} → MediaOutside V → Served → Edition → ButlerState V → ButlerState V → Type 0
StaysTrue outside at e old new = SourcesStand at.held (outside.files new.media) old.sources.opened →
    IsTrueTo at.held at.session at.edits old → IsTrueTo at.held at.session e.edits new

-- ---- what is read

-- the pass of a butler that entered this edition: its next block is that of the table
abbrev pub pass_of : {V : Type 0} → Edition → ButlerState V → PassState
pass_of e b = record { edition = e; next = slice_index_or b.nexts e.transport.generation 0; cycles = b.cycles }

-- what is due of each track was made, or nothing is due: a turn that moves fewer than asked leaves it so, and one that finds it so reads nothing
abbrev pub IsAhead : {V : Type 0} → Edition → ButlerState V → Type 0
IsAhead e b = AllAtHand (pass_of e b) b.supplies

-- ---- what is answered

-- what a turn that sent and flushed n in all leaves
pub record Leaves {V : Type 0} (s : Session) (e : Edition) (acks : List Ack) (limit n : ℕ) (old new : ButlerState V) : Type 0 where
  pub most : n ≤ limit
  pub moved : total_sent new.ends.sends.items + total_received new.ends.takes.items ≡ total_sent old.ends.sends.items + total_received old.ends.takes.items + n
  -- no ring was closed
  pub still_open : (t : ℕ) (d f : Sender Item) → slice_get old.ends.sends.items t ≡ Some d → slice_get new.ends.sends.items t ≡ Some f → f.closed ≡ d.closed
  -- nothing was sent before flushing was over
  pub flushed_first : total_sent old.ends.sends.items < total_sent new.ends.sends.items → HasFlushed old new
  -- fewer than asked only where flushing is over, and each track has all that a turn can give it
  pub flushed : n < limit → HasFlushed old new
  pub done : n < limit → (t : ℕ) (d f : Sender Item) → slice_get old.ends.sends.items t ≡ Some d → slice_get new.ends.sends.items t ≡ Some f →
      IsDone s e.edits old.cycles t acks d f
  -- and then what is due of each track was made
  pub ahead : n < limit → old.hushed ≡ false → IsAhead e new
  -- nothing was sent of a track before all those before it had all
  pub in_order : (u t : ℕ) (c b d f : Sender Item) → u < t → slice_get old.ends.sends.items u ≡ Some c → slice_get new.ends.sends.items u ≡ Some b →
      slice_get old.ends.sends.items t ≡ Some d → slice_get new.ends.sends.items t ≡ Some f → length d.sent < length f.sent → IsDone s e.edits old.cycles u acks c b

-- a read failed: every playback ring is closed, and flushing was over
pub record HasClosed {V : Type 0} (s : Session) (e : Edition) (acks : List Ack) (limit : ℕ) (old new : ButlerState V) : Type 0 where
  pub closed : (t : ℕ) (d : Sender Item) → slice_get new.ends.sends.items t ≡ Some d → d.closed ≡ true
  pub flushed : HasFlushed old new
  -- fewer were moved than asked
  pub fewer : total_sent new.ends.sends.items + total_received new.ends.takes.items < total_sent old.ends.sends.items + total_received old.ends.takes.items + limit
  -- and nothing was sent of a track before all those before it had all
  pub in_order : (u t : ℕ) (c b d f : Sender Item) → u < t → slice_get old.ends.sends.items u ≡ Some c → slice_get new.ends.sends.items u ≡ Some b →
      slice_get old.ends.sends.items t ≡ Some d → slice_get new.ends.sends.items t ≡ Some f → length d.sent < length f.sent → IsDone s e.edits old.cycles u acks c b

-- a write failed, at a block that was received: nothing was sent
pub record HasBroken {V : Type 0} (limit : ℕ) (old new : ButlerState V) : Type 0 where
  pub sends : new.ends.sends ≡ old.ends.sends
  pub some : total_received old.ends.takes.items < total_received new.ends.takes.items
  pub few : total_received new.ends.takes.items ≤ total_received old.ends.takes.items + limit

-- what a turn answers
abbrev pub Answers : {V : Type 0} → Session → Edition → ℕ → ButlerState V → Result Turn ButlerFault → ButlerState V → Type 0
Answers s e most old (Ok (Moved n)) new = (1 ≤ n) × Leaves s e (acks_of new.ends.acks.received) most n old new
Answers s e most old (Ok Idle) new = Leaves s e (acks_of new.ends.acks.received) most 0 old new
Answers s e most old (Err ReadFault) new = HasClosed s e (acks_of new.ends.acks.received) most old new
Answers s e most old (Err WriteFault) new = HasBroken most old new
