-- What draining does to capture rings.
use Rattle.std.specs.Prelude.{◌≡◌, ◌⊎◌, ℕ, ◌+◌, ◌<◌, ◌≤◌, List, [], ◌∷◌, ◌++◌, length, slice_get, sum_by, Some}
use mathlib.Core.List.{IsPrefix}
use Rattle.disk_ring.specs.Receiver.{Receiver, GoesOnOut}
use Rattle.piece_item.specs.declared.take_block.TakeBlock.{TakeBlock}

-- The ring was taken to its end: it was answered once that nothing more was there, and that was the last thing done to it.
pub record IsDrained {T : Type 0} (old new : Receiver T) : Type 0 where
  pub goes_on : GoesOnOut old new
  pub tails : new.tails ≡ old.tails ++ length new.received ∷ []
  -- and all that it had been told of was received
  pub told : IsPrefix old.heard new.received

-- blocks were taken, and at most once nothing more was found
pub record Drains {T : Type 0} (old new : Receiver T) : Type 0 where
  pub goes_on : GoesOnOut old new
  pub looks : (new.tails ≡ old.tails) ⊎ IsDrained old new

-- ---- all rings

-- each was taken to its end
abbrev pub AreDrained : List (Receiver TakeBlock) → List (Receiver TakeBlock) → Type 0
AreDrained olds news = (t : ℕ) (c b : Receiver TakeBlock) → slice_get olds t ≡ Some c → slice_get news t ≡ Some b → IsDrained c b

pub record AllDrain (olds news : List (Receiver TakeBlock)) : Type 0 where
  pub many : length news ≡ length olds
  pub each : (t : ℕ) (c b : Receiver TakeBlock) → slice_get olds t ≡ Some c → slice_get news t ≡ Some b → Drains c b
  -- none was touched before all those before it were taken to their ends
  pub in_order : (u t : ℕ) (a d c b : Receiver TakeBlock) → u < t → slice_get olds u ≡ Some a → slice_get news u ≡ Some d →
      slice_get olds t ≡ Some c → slice_get news t ≡ Some b → (b ≡ c) ⊎ IsDrained a d

-- how many blocks were taken, over all rings
abbrev pub total_received : List (Receiver TakeBlock) → ℕ
total_received rings = sum_by (λ r. length r.received) rings

-- so many of so many were taken, fewer only where each ring was taken to its end
pub record HaveDrained (most : ℕ) (olds news : List (Receiver TakeBlock)) (n : ℕ) : Type 0 where
  pub counted : total_received news ≡ total_received olds + n
  pub few : n ≤ most
  pub done : n < most → AreDrained olds news

-- a write failed: some of so many were taken
pub record HaveStopped (most : ℕ) (olds news : List (Receiver TakeBlock)) : Type 0 where
  pub some : total_received olds < total_received news
  pub few : total_received news ≤ total_received olds + most
