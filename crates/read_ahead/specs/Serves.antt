-- What serving a track does, by the numbers that are kept of it.
use Rattle.std.specs.Prelude.{◌≡◌, ◌⊎◌, ℕ, ◌+◌, ◌<◌, ◌≤◌, Bool, true, false, List, ◌++◌, length, All, Some, None, IsSomeAnd, Result, Ok, Err}
use Rattle.sound_model.specs.Regions.{Sounds}
use Rattle.engine_model.specs.Items as engine
use Rattle.engine_model.specs.Items.{Piece}
use Rattle.engine_model.specs.Due.{Needs}
use Rattle.edition_log.specs.EditionState.{EditionState as Edition}
use Rattle.audio_source.specs.declared.refusal.ReadFault.{ReadFault}
use Rattle.disk_ring.specs.Sender.{Sender}
use Rattle.piece_item.specs.declared.item.Item.{Item}
use Rattle.piece_item.specs.Views.{kind_of}
use Rattle.read_ahead.specs.declared.supply.TrackSupply.{TrackSupply}
use Rattle.read_ahead.specs.SendProgress.{now_due, AreDueInOrder}
use Rattle.read_ahead.specs.Items.{kinds, IsBlockOf, HasMade, IsMadeBy, IsFoundFull}

-- a box is there, and fits the ring
pub record HasSpare (p : TrackSupply) (d : Sender Item) : Type 0 where
  pub spare : IsSomeAnd p.spare (λ b. length b.value.samples.items ≡ d.room)

-- a track whose blocks have so many samples can be served
pub record IsStocked (samples : ℕ) (p : TrackSupply) (d : Sender Item) : Type 0 where
  pub room : d.room ≡ samples
  pub spare : HasSpare p d
  pub near : p.progress.fresh ≤ 100000

-- the item is of the track, and of a block that may be read
abbrev pub IsInReach : ℕ → engine.Kind → Type 0
IsInReach track (Piece t g s p) = (t ≡ track) × (s < 100000)
IsInReach track _ = Unit {0}

-- what is due was made, and waits in the spare box
pub record IsKept (n : Needs) (p : TrackSupply) : Type 0 where
  pub made : p.made ≡ true
  pub due : IsSomeAnd p.spare (λ b. now_due n p.progress ≡ Some (kind_of b.value.kind))

-- nothing has to be read for what is due
abbrev pub IsAtHand : Needs → TrackSupply → Type 0
IsAtHand n p = IsKept n p ⊎ (now_due n p.progress ≡ None)

-- What serving a track by these needs does to what is had of it and to its ring, whatever it answers.
pub record Serves (told : Type 0) (sounds : Sounds) (e : Edition) (n : Needs) (p : TrackSupply) (old : Sender Item) (q : TrackSupply) (new : Sender Item) : Type 0 where
  -- what was sent
  pub items : List Item
  -- by which heads the ring was found full
  pub full : List ℕ
  pub ring : new ≡ record old { sent = old.sent ++ items; heads = old.heads ++ full; got = new.got }
  pub run : AreDueInOrder n p.progress (kinds items) q.progress
  -- each item has its block, or was made before
  pub blocks : told → All (IsMadeBy sounds e p) items
  -- so has what is made now, which is what is due next
  pub made : (item : Item) → HasMade q item → HasMade p item
      ⊎ ((now_due n q.progress ≡ Some (kind_of item.kind)) × (told → IsBlockOf sounds e (kind_of item.kind) item.samples.items))
  pub once : length full ≤ 1
  pub got : old.got ≤ new.got
  -- where nothing is sent, what was made and is due is kept as it is
  pub keeps : length new.sent ≡ length old.sent → IsKept n p → q ≡ p

-- the ring was found full, and what is due is kept as it was made, or nothing is due
abbrev pub IsServed : Needs → Sender Item → TrackSupply → Sender Item → Type 0
IsServed n old q new = (IsFoundFull old new × IsKept n q) ⊎ (now_due n q.progress ≡ None)

-- whether an item was sent
abbrev pub HasSent : Needs → Sender Item → TrackSupply → Sender Item → Result Bool ReadFault → Type 0
HasSent n old q new (Ok true) = (length new.sent ≡ length old.sent + 1) × (new.heads ≡ old.heads) × (q.made ≡ false)
HasSent n old q new (Ok false) = (length new.sent ≡ length old.sent) × IsServed n old q new
HasSent n old q new (Err e) = length new.sent ≡ length old.sent

-- what one track was given of so many items
pub record HasServed (n : Needs) (most : ℕ) (old : Sender Item) (q : TrackSupply) (new : Sender Item) (sent : ℕ) : Type 0 where
  pub counted : length new.sent ≡ length old.sent + sent
  pub few : sent ≤ most
  pub done : sent < most → IsServed n old q new
