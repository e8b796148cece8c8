-- What is so of playback in a run without letters, while no read of the media has failed.
use Rattle.std.specs.Prelude.{◌≡◌, ℕ, ◌≤◌, true, false, List, [], ◌∷◌, length, map, reverse, take, slice_get, Some}
use Rattle.session_model.specs.declared.session.Session.{Session}
use Rattle.session_model.specs.declared.edit.Edit.{Edit}
use Rattle.engine_model.specs.Due as engine
use Rattle.engine_model.specs.Due.{next_block}
use Rattle.engine_model.specs.Edits.{generation}
use Rattle.engine_model.specs.Items.{Kind}
use Rattle.engine_model.specs.Journal.{Entry, Play, rolled}
use Rattle.engine_model.specs.Plain.{plain_entry}
use Rattle.engine_laws.specs.SerialLaws.{IsReady, none_is_held}
use Rattle.machine_laws.specs.Stands.{each_once}
use Rattle.disk_ring.specs.Receiver.{Receiver}
use Rattle.disk_ring.specs.Sender.{Sender}
use Rattle.piece_item.specs.declared.item.Item.{Item}
use Rattle.read_ahead.specs.Items.{kinds}
use Rattle.butler.specs.Sends.{acks_of}
use Rattle.engine_core.specs.declared.run.Run.{Run}
use Rattle.engine_core.specs.Shows.{edits_of, made_of}

-- ---- as the plain one plays

-- what is played of each track
abbrev pub plays_in : Entry → List Play
plays_in e = map (λ n. n.play) e.notes

-- An entry plays as another: whatever it took.
pub record PlaysAs (plain e : Entry) : Type 0 where
  pub edition : e.edition ≡ plain.edition
  pub settled : e.settled ≡ plain.settled
  pub state : e.state ≡ plain.state
  pub plays : plays_in e ≡ plays_in plain

-- **Each entry plays as the plain one of its edition**, after the entries before it. They stand newest first.
abbrev pub PlayAsPlain : Session → List Edit → List Entry → Type 0
PlayAsPlain s edits [] = Unit {0}
PlayAsPlain s edits (e ∷ before) = PlaysAs (plain_entry s (take e.edition edits) before) e × PlayAsPlain s edits before

-- ---- the rings

-- what was sent of a track, the newest first
abbrev pub sent_of : Sender Item → List Kind
sent_of d = reverse (kinds d.sent)

module _ {V I W : Type 0} where
  abbrev pub sends_of : Run V I W → List (Sender Item)
  sends_of r = r.pair.butler.ends.sends.items

  abbrev pub plays_of : Run V I W → List (Receiver Item)
  plays_of r = r.pair.process.ends.plays.items

  -- the acknowledgements that the butler was sent
  abbrev pub acks_told : Run V I W → List engine.Ack
  acks_told r = acks_of r.pair.process.ends.to_butler.sent

  -- the generation of the newest edition, and its next block
  abbrev pub newest_generation : Run V I W → ℕ
  newest_generation r = generation (edits_of r) (length (edits_of r))

  -- Nothing that was sent is held, and none of it was sent twice; each block that was played was acknowledged.
  pub record IsFed (s : Session) (r : Run V I W) : Type 0 where
    -- from a generation on that the process has reached
    pub from : ℕ
    pub reached : from ≤ generation r.pair.playing.edits (length r.pair.playing.edits)
    pub free : (t : ℕ) (d : Sender Item) → slice_get (sends_of r) t ≡ Some d → none_is_held s.depth from (rolled from (made_of r)) (sent_of d) ≡ true
    pub once : (t : ℕ) (d : Sender Item) → slice_get (sends_of r) t ≡ Some d → each_once r.pair.butler.cycles (sent_of d) ≡ true
    pub acks : (g : ℕ) → next_block (acks_told r) g ≡ rolled g (made_of r)

  -- all that was sent was received
  abbrev pub AllHeard : Run V I W → Type 0
  AllHeard r = (t : ℕ) (d : Sender Item) (q : Receiver Item) → slice_get (sends_of r) t ≡ Some d → slice_get (plays_of r) t ≡ Some q → q.received ≡ d.sent

  -- each acknowledgement was taken
  abbrev pub AreTaken : Run V I W → Type 0
  AreTaken r = r.pair.butler.ends.acks.received ≡ r.pair.process.ends.to_butler.sent

  -- a cycle is open in the newest edition
  pub record IsNewest (r : Run V I W) : Type 0 where
    pub opens : r.pair.in_cycle ≡ true
    pub newest : r.pair.playing.edits ≡ edits_of r

  -- of each track all was sent that the cycle plays
  abbrev pub AllReady : Session → Run V I W → Type 0
  AllReady s r = (t : ℕ) (d : Sender Item) → slice_get (sends_of r) t ≡ Some d → IsReady s (edits_of r) t (newest_generation r) (rolled (newest_generation r) (made_of r)) (sent_of d)

  -- While no read fails a cycle is served so far.
  pub record FeedsSoFar (s : Session) (old now : Run V I W) : Type 0 where
    pub read_still : now.failed.read ≡ false → old.failed.read ≡ false
    pub fed : now.failed.read ≡ false → IsNewest old → IsFed s old → AllHeard old → IsNewest now × IsFed s now × AllHeard now

  -- **A cycle is served**: while no read fails, all that it plays is sent.
  pub record Feeds (s : Session) (old now : Run V I W) : Type 0 where
    pub so_far : FeedsSoFar s old now
    pub ready : now.failed.read ≡ false → IsNewest old → IsFed s old → AllHeard old → AllReady s now × AreTaken now

  -- **A serial cycle plays as the plain one**, while no read fails, if no cycle was open before it.
  pub record PlaysPlain (s : Session) (old new : Run V I W) : Type 0 where
    pub read_still : new.failed.read ≡ false → old.failed.read ≡ false
    pub fed : new.failed.read ≡ false → old.pair.in_cycle ≡ false → IsFed s old → AllHeard old → IsFed s new × AllHeard new
    pub plays : new.failed.read ≡ false → old.pair.in_cycle ≡ false → IsFed s old → AllHeard old → (e : Entry) → made_of new ≡ e ∷ made_of old → PlaysAs (plain_entry s (edits_of old) (made_of old)) e
