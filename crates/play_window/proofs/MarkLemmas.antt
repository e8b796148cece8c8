-- The greatest mark in force after one more offer.
use Rattle.std.proofs.Common.{◌≡◌, ℕ, List, ◌∷◌, arith}
use Rattle.std.specs.Prelude.{max, false}
use Rattle.engine_model.specs.Items.{Kind, Piece, Settled, Blank}
use Rattle.engine_model.specs.Cycle.{force}
use Rattle.play_window.specs.Offers.{IsNear, is_later}
use Rattle.play_window.specs.WindowState.{IsNoEarlier}

-- the greatest mark, given the one before the item
abbrev pub marked : Kind → ℕ → ℕ
marked (Piece t h s p) m = m
marked (Settled k h s) m = max m k
marked Blank m = m

pub marked_is : (depth g s h n m : ℕ) (k : Kind) (xs : List Kind) → IsNear depth h n k → is_later h k ≡ false → IsNoEarlier h n g s → m ≡ force g s xs → marked k m ≡ force g s (k ∷ xs)
marked_is depth g s h n m (Piece t i r p) xs near now from e = e
marked_is depth g s h n m (Settled j i r) xs near now from e = grind (arith, near, now, from.generation, from.block, e)
marked_is depth g s h n m Blank xs near now from e = e
