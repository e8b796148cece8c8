-- Words on the marks of a list, which stands newest first.
use Rattle.std.specs.Prelude.{ℕ, suc, Bool, true, ◌&&◌, List, [], ◌∷◌}
use Rattle.engine_model.specs.Items.{Kind, Piece, Settled, Blank}
use Rattle.engine_model.specs.Cycle.{is_in_force}

-- one more than the edition of the newest mark, 0 where there is none
abbrev pub next_mark : List Kind → ℕ
next_mark [] = 0
next_mark (Piece u g s p ∷ xs) = next_mark xs
next_mark (Settled k g s ∷ xs) = suc k
next_mark (Blank ∷ xs) = next_mark xs

-- each mark is in force
abbrev pub all_in_force : ℕ → ℕ → List Kind → Bool
all_in_force g s [] = true
all_in_force g s (Piece u h r p ∷ xs) = all_in_force g s xs
all_in_force g s (Settled k h r ∷ xs) = is_in_force h r g s && all_in_force g s xs
all_in_force g s (Blank ∷ xs) = all_in_force g s xs
