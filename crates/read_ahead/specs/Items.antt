-- What is made and sent of a track. Items stand in the order of their ring, the oldest first.
use Rattle.std.specs.Prelude.{◌≡◌, ◌⊎◌, ℕ, ◌*◌, ◌≤◌, true, ℤ, List, [], ◌∷◌, ◌++◌, map, IsSomeAnd}
use Rattle.sound_model.specs.Regions.{Sounds}
use Rattle.session_model.specs.Formed.{channels_at}
use Rattle.session_model.specs.Views.{track_regions}
use Rattle.engine_model.specs.Items as engine
use Rattle.engine_model.specs.Items.{Piece}
use Rattle.locate_loop.specs.Transport.{transport_of}
use Rattle.edition_log.specs.EditionState.{EditionState as Edition}
use Rattle.track_render.specs.Blocks.{placed_block}
use Rattle.disk_ring.specs.Sender.{Sender, FoundFull}
use Rattle.piece_item.specs.declared.item.Item.{Item}
use Rattle.piece_item.specs.Views.{kind_of}
use Rattle.read_ahead.specs.declared.supply.TrackSupply.{TrackSupply}

abbrev pub kinds : List Item → List engine.Kind
kinds items = map (λ item. kind_of item.kind) items

-- the samples of one block of a track
abbrev pub block_room : Edition → ℕ → ℕ
block_room e t = e.session.block * channels_at e.session t

-- one block of a track by an edition, frame by frame: frame i is the track sample at the place of the generation's frame
abbrev pub block_of : Sounds → Edition → ℕ → ℕ → List ℤ
block_of sounds e t s = placed_block sounds (track_regions e.session t) (channels_at e.session t) (transport_of e.transport) (s * e.session.block) (block_room e t)

-- a piece has its block by the edition that was entered
abbrev pub IsBlockOf : Sounds → Edition → engine.Kind → List ℤ → Type 0
IsBlockOf sounds e (Piece t g s p) samples = samples ≡ block_of sounds e t s
IsBlockOf sounds e _ samples = Unit {0}

-- the spare box holds this item, which was made and found no room
pub record HasMade (p : TrackSupply) (item : Item) : Type 0 where
  pub made : p.made ≡ true
  pub box : IsSomeAnd p.spare (λ b. b.value ≡ item)

-- an item has its block by the edition that was entered, or was made before
abbrev pub IsMadeBy : Sounds → Edition → TrackSupply → Item → Type 0
IsMadeBy sounds e p item = IsBlockOf sounds e (kind_of item.kind) item.samples.items ⊎ HasMade p item

-- the ring was found full, and it is the last thing that was done to it
pub record IsFoundFull (old new : Sender Item) : Type 0 where
  -- by this head
  pub head : ℕ
  pub heads : new.heads ≡ old.heads ++ head ∷ []
  pub full : FoundFull new head
  -- no fewer were received by then than it knew of before
  pub rises : old.got ≤ head
