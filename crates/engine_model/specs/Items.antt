-- What the butler sends of one track: pieces, each one block of the track's samples for a place, and marks, each of which
-- says that all sent from its place on is as its edition has it. Lists of what was sent stand newest first here.
use Rattle.std.specs.Prelude.{ℕ, ℤ, Bool, false, ◌&&◌, ◌||◌, ◌==◌, if◌then◌else◌, List, [], ◌∷◌}
use Rattle.std.specs.List.{list_any}

pub data Kind : Type 0 where
  -- a box that holds nothing
  Blank : Kind
  -- track, generation, number of the block in its generation, playlist edition
  Piece : ℕ → ℕ → ℕ → ℕ → Kind
  -- edition, generation, from which block on
  Settled : ℕ → ℕ → ℕ → Kind

pub record Item : Type 0 where
  pub kind : Kind
  -- one block frame by frame, in each frame channel by channel
  pub samples : List ℤ

abbrev pub among : ℕ → List ℕ → Bool
among n xs = list_any (λ x. x == n) xs

-- the blocks of generation g that have a piece, the newest first; one that was sent again stands again
abbrev pub blocks : ℕ → List Kind → List ℕ
blocks g [] = []
blocks g (Piece t h s p ∷ xs) = if h == g then s ∷ blocks g xs else blocks g xs
blocks g (Settled k h s ∷ xs) = blocks g xs
blocks g (Blank ∷ xs) = blocks g xs

-- the playlist edition of the newest piece of a block, 0 where it has none
abbrev pub newest : ℕ → ℕ → List Kind → ℕ
newest g s [] = 0
newest g s (Piece t h r p ∷ xs) = if h == g && r == s then p else newest g s xs
newest g s (Settled k h r ∷ xs) = newest g s xs
newest g s (Blank ∷ xs) = newest g s xs

-- a mark of edition k was sent
abbrev pub has_mark : ℕ → List Kind → Bool
has_mark k [] = false
has_mark k (Piece t h s p ∷ xs) = has_mark k xs
has_mark k (Settled j h s ∷ xs) = j == k || has_mark k xs
has_mark k (Blank ∷ xs) = has_mark k xs
