-- What was received of a track and offered to its window, and the box that the process has to spare. Lists of items stand
-- newest first.
use Rattle.std.specs.Prelude.{◌≡◌, ℕ, List, [], ◌∷◌, ◌++◌, length, map, drop, reverse, ⊤}
use Rattle.engine_model.specs.Items as engine
use Rattle.piece_item.specs.declared.item.Item.{Item}
use Rattle.piece_item.specs.Views.{item_of}
use Rattle.disk_ring.specs.Receiver.{Receiver}
use Rattle.track_playback.specs.declared.playback.SpareBox.{SpareBox}
use Rattle.track_playback.specs.declared.playback.SpareBox.TheVariants.{Husk, Held, Lent}

-- the item that is held, where there is one
abbrev pub held : SpareBox → List engine.Item
held (Husk b) = []
held (Held b) = item_of b.value ∷ []
held Lent = []

-- the spare box has so many samples
abbrev pub HasRoom : ℕ → SpareBox → Type 0
HasRoom samples (Husk b) = length b.value.samples.items ≡ samples
HasRoom samples (Held b) = length b.value.samples.items ≡ samples
HasRoom samples Lent = ⊥

-- it is a box that may be filled again
abbrev pub HasHusk : SpareBox → Type 0
HasHusk (Husk b) = ⊤
HasHusk (Held b) = ⊥
HasHusk Lent = ⊥

-- it is a box of so many samples that may be filled again
abbrev pub IsHusk : ℕ → SpareBox → Type 0
IsHusk samples (Husk b) = length b.value.samples.items ≡ samples
IsHusk samples (Held b) = ⊥
IsHusk samples Lent = ⊥

-- what was received of a track
abbrev pub received_items : Receiver Item → List engine.Item
received_items r = reverse (map item_of r.received)

abbrev pub received_kinds : Receiver Item → List engine.Kind
received_kinds r = map (λ x. x.kind) (received_items r)

-- what was offered to its window: all that was received but a held item, which is the last one
abbrev pub offers : Receiver Item → SpareBox → List engine.Item
offers r spare = drop (length (held spare)) (received_items r)

-- where an item is held, it is the last one received
abbrev pub HoldsTheLast : Receiver Item → SpareBox → Type 0
HoldsTheLast r spare = received_items r ≡ held spare ++ offers r spare
