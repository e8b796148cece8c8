-- What stands of one track's entries while a process receives and plays on. Entries and what was received stand newest first.
use Rattle.std.specs.Prelude.{◌≡◌, ℕ, ◌≤◌, ◌<◌, ◌⊎◌, true, List}
use Rattle.engine_model.specs.Items.{Kind, among, blocks, newest}
use Rattle.engine_model.specs.Cycle.{force}

-- block r of generation h is at or past block s of generation g
abbrev pub GoneOn : ℕ → ℕ → ℕ → ℕ → Type 0
GoneOn g s h r = (g < h) ⊎ ((g ≡ h) × (s ≤ r))

-- an entry at (g, s) has a settled number k that the marks bear out
pub record Backed (g s k : ℕ) (xs : List Kind) : Type 0 where
  pub settled : k ≤ force g s xs

-- an entry at (g, s) heard playlist edition p
pub record HeardAt (g s p : ℕ) (xs : List Kind) : Type 0 where
  pub here : among s (blocks g xs) ≡ true
  pub at_most : p ≤ newest g s xs
