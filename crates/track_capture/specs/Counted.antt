-- How the takes of a track are counted, and what capturing a block does to its ring.
use Rattle.std.specs.Prelude.{◌≡◌, ℕ, suc, ◌<◌, ◌≤◌, ℤ, false, List, ◌∷◌, [], ◌++◌, length, Option, Some, None, IfSome, IsSomeAnd}
use Rattle.ses_io.specs.FixedList.{with_items}
use Rattle.session_model.specs.declared.session.Session.{Session}
use Rattle.engine_model.specs.Journal as engine
use Rattle.engine_model.specs.Journal.{Entry}
use Rattle.engine_model.specs.Fits.{greatest_take, last_take}
use Rattle.disk_ring.specs.Sender.{Sender, FoundFull, IsHead, Refuses}
use Rattle.piece_item.specs.declared.take_block.TakeBlock.{TakeBlock}
use Rattle.cycle_journal.specs.declared.note.Take.{Take}
use Rattle.cycle_journal.specs.declared.note.Take.TheVariants.{Off, Taken, Lost}
use Rattle.track_capture.specs.declared.capture.Place.{Place}
use Rattle.track_capture.specs.declared.capture.TrackCapture.{TrackCapture}
use Rattle.track_capture.specs.Picked.{picked}

-- the block that an entry took, none where it recorded nothing
abbrev pub place_of : engine.Take → Option Place
place_of engine.Off = None
place_of (engine.Taken n i) = Some (record { take = n; index = i })
place_of (engine.Lost n i head) = Some (record { take = n; index = i })

-- the block that follows the last one: its take goes on, or a new take begins
abbrev pub place_after : Option Place → ℕ → Place
place_after None most = record { take = suc most; index = 0 }
place_after (Some p) most = record { take = p.take; index = suc p.index }

-- the box as this block of a take, with these samples in the place of the ones that it had
abbrev pub block_at : TakeBlock → Place → List ℤ → TakeBlock
block_at box p samples = record { take = p.take; index = p.index; samples = with_items box.samples samples }

-- The counts are those of track t in these entries, the newest first.
pub record Counts (before : List Entry) (t : ℕ) (k : TrackCapture) : Type 0 where
  pub last : k.last ≡ place_of (last_take t before)
  pub greatest : k.greatest ≡ greatest_take t before
  -- no more takes and blocks than entries
  pub few : k.greatest ≤ length before
  pub index : IfSome k.last (λ p. (p.index < length before) × (p.take ≤ length before))

-- there is a box of so many samples
abbrev pub HasBox : ℕ → TrackCapture → Type 0
HasBox samples k = IsSomeAnd k.husk (λ b. length b.value.samples.items ≡ samples)

-- the ring is open, and the box fits it
pub record FitsRing (samples : ℕ) (k : TrackCapture) (d : Sender TakeBlock) : Type 0 where
  pub room : d.room ≡ samples
  pub box : HasBox samples k
  pub still_open : d.closed ≡ false

-- The track's part of the input was put as this block of this take.
pub record IsTaken (s : Session) (t channels : ℕ) (input : List ℤ) (old : Sender TakeBlock) (n i : ℕ) (new : Sender TakeBlock) : Type 0 where
  pub block : TakeBlock
  pub take : block.take ≡ n
  pub index : block.index ≡ i
  pub samples : block.samples.items ≡ picked s t channels input
  pub sent : new ≡ record old { sent = old.sent ++ block ∷ []; got = new.got }
  -- by the head that was loaded there was room
  pub head : IsHead old new.got
  pub free : ¬ (FoundFull old new.got)

-- what became of it, by the note
abbrev pub HasCaptured : Session → ℕ → ℕ → List ℤ → Sender TakeBlock → Take → Sender TakeBlock → Type 0
HasCaptured s t channels input old Off new = new ≡ old
HasCaptured s t channels input old (Taken n i) new = IsTaken s t channels input old n i new
HasCaptured s t channels input old (Lost n i head) new = Refuses old head new
