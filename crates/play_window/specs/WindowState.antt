-- What contracts see of a window, and when it is the window of a list of offers.
use Rattle.std.specs.Prelude.{◌≡◌, ℕ, ◌%◌, ◌≤◌, if◌then◌else◌, List, slice_get, Option, Some, None, Box}
use Rattle.std.specs.Global.{Global}
use Rattle.engine_model.specs.Items as engine
use Rattle.engine_model.specs.Cycle.{force}
use Rattle.piece_item.specs.declared.item.Item.{Item}
use Rattle.piece_item.specs.Views.{item_of, kind_of}
use Rattle.play_window.specs.Offers.{Offered, kinds, last_generation, last_next, AreInOrder, is_piece_of, last_given}

pub record WindowState : Type 0 where
  -- how many boxes it has
  pub depth : ℕ
  -- how many samples each box has
  pub samples : ℕ
  -- what the last offer asked for that was taken in, 0 before the first
  pub generation : ℕ
  pub next : ℕ
  -- the greatest mark, 0 before the first
  pub mark : ℕ
  -- the box of block s is box s % depth
  pub boxes : List (Box Item Global)

-- the piece of block s of generation g, where the box has it
abbrev pub piece_in : ℕ → ℕ → Option (Box Item Global) → Option engine.Item
piece_in g s None = None
piece_in g s (Some b) = if is_piece_of g s (kind_of b.value.kind) then Some (item_of b.value) else None

-- what the window has of block s of generation g
abbrev pub has : WindowState → ℕ → ℕ → Option engine.Item
has w g s = piece_in g s (slice_get w.boxes (s % w.depth))

-- block s of generation g is no earlier than block r of generation h
pub record IsNoEarlier (h r g s : ℕ) : Type 0 where
  pub generation : h ≤ g
  pub block : h ≡ g → r ≤ s

-- It is the window of these offers.
pub record IsWindowOf (offers : List Offered) (w : WindowState) : Type 0 where
  -- each offer might follow those before it
  pub order : AreInOrder w.depth offers
  -- it knows what the last one asked for
  pub generation : w.generation ≡ last_generation offers
  pub next : w.next ≡ last_next offers
  -- it has the piece given last of each block that isn't passed, and of no other
  pub pieces : (g s : ℕ) → IsNoEarlier w.generation w.next g s → has w g s ≡ last_given g s offers
  -- its mark is the greatest one in force, from now on
  pub marks : (g s : ℕ) → IsNoEarlier w.generation w.next g s → w.mark ≡ force g s (kinds offers)
