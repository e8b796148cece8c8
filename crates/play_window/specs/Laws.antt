-- What a window shows, told by all that was received, and which items may be offered.
use Rattle.std.specs.Prelude.{◌≡◌, ℕ, Bool, true, false, ◌↔◌, List, Option, Some, None}
use Rattle.engine_model.specs.Items.{Kind, Item, Piece, newest}
use Rattle.engine_model.specs.Cycle.{has_piece, is_held}
use Rattle.play_window.specs.Offers.{Offered, kinds, is_later, IsNear, last_generation, last_next, AreInOrder, piece_of}
use Rattle.play_window.specs.WindowState.{IsNoEarlier}

-- a piece of block s of generation g by this playlist edition is shown, or none where none was received
abbrev pub Shows : ℕ → ℕ → Bool → ℕ → Option Item → Type 0
Shows g s received touched None = received ≡ false
Shows g s received touched (Some item) = (received ≡ true) × ((t : ℕ) × (item.kind ≡ Piece t g s touched))

-- Of a block that isn't passed it shows a piece exactly where one was received, and then one of the newest playlist edition
-- received, whatever was received of other blocks and generations.
abbrev pub WindowsShowTheNewest : Type 0
WindowsShowTheNewest = (depth g s : ℕ) (offers : List Offered) → AreInOrder depth offers → IsNoEarlier (last_generation offers) (last_next offers) g s →
    Shows g s (has_piece g s (kinds offers)) (newest g s (kinds offers)) (piece_of g s offers)

-- The items that a window may be offered, and that it takes in, are those that the process doesn't hold.
abbrev pub UnheldItemsAreTakenIn : Type 0
UnheldItemsAreTakenIn = (depth g s : ℕ) (k : Kind) → (is_held depth g s k ≡ false) ↔ ((is_later g k ≡ false) × IsNear depth g s k)
