-- What one cycle makes of what was received (own): which items are held, which marks are in force, and the entry. What was
-- received of a track stands newest first.
use Rattle.std.specs.Prelude.{ℕ, zero, suc, ◌+◌, max, min, Bool, false, ◌&&◌, ◌||◌, ◌==◌, nat_le, nat_lt, if◌then◌else◌, List, [], ◌∷◌, length, Option, Some, None}
use Rattle.session_model.specs.declared.session.Session.{Session}
use Rattle.session_model.specs.declared.edit.Edit.{Edit}
use Rattle.engine_model.specs.Edits.{generation}
use Rattle.engine_model.specs.Editions.{edition}
use Rattle.engine_model.specs.Items.{Kind, Piece, Settled, Blank, among, blocks, newest}
use Rattle.engine_model.specs.Journal.{Play, Silent, Heard, Short, Take, Note, State, Stopped, Seeking, Rolling, Entry, rolled}

-- at block s of generation g, a mark of generation h from block s0 on is in force
abbrev pub is_in_force : ℕ → ℕ → ℕ → ℕ → Bool
is_in_force h s0 g s = nat_lt h g || (h == g && nat_le s0 s)

-- the greatest mark in force, 0 where there is none
abbrev pub force : ℕ → ℕ → List Kind → ℕ
force g s [] = 0
force g s (Piece u h r p ∷ xs) = force g s xs
force g s (Settled k h s0 ∷ xs) = if is_in_force h s0 g s then max k (force g s xs) else force g s xs
force g s (Blank ∷ xs) = force g s xs

-- the settled number in edition r: the least of r and of each track's greatest mark in force
abbrev pub settled_number : ℕ → ℕ → ℕ → List (List Kind) → ℕ
settled_number r g s [] = r
settled_number r g s (xs ∷ tracks) = min (force g s xs) (settled_number r g s tracks)

-- An item is held, so that nothing is taken past it: it is of a later generation, or a piece that the window has no room
-- for yet, or a mark that isn't in force yet.
abbrev pub is_held : ℕ → ℕ → ℕ → Kind → Bool
is_held depth g s (Piece u h r p) = nat_lt g h || (h == g && nat_le (s + depth) r)
is_held depth g s (Settled k h s0) = nat_lt g h || (h == g && nat_lt s s0)
is_held depth g s Blank = false

-- a piece of the block was received
abbrev pub has_piece : ℕ → ℕ → List Kind → Bool
has_piece g s xs = among s (blocks g xs)

-- of the tracks, of which the first is track t, the first without a first piece of generation g, and how many items it had
abbrev pub waiting : ℕ → ℕ → List (List Kind) → Option (ℕ × ℕ)
waiting g t [] = None
waiting g t (xs ∷ tracks) = if has_piece g 0 xs then waiting g (suc t) tracks else Some (t, length xs)

abbrev pub first_state : ℕ → Option (ℕ × ℕ) → State
first_state g None = Rolling g 0
first_state g (Some w) = Seeking w.0 w.1

-- a generation seeks until each track has its first piece
abbrev pub rolling_state : ℕ → ℕ → List (List Kind) → State
rolling_state g zero tracks = first_state g (waiting g 0 tracks)
rolling_state g (suc s) tracks = Rolling g (suc s)

abbrev pub state_of : Bool → ℕ → ℕ → List (List Kind) → State
state_of rolls g s tracks = if rolls then rolling_state g s tracks else Stopped

-- what is played of a track in a state
abbrev pub play_of : State → List Kind → Play
play_of (Rolling g s) xs = if has_piece g s xs then Heard (newest g s xs) else Short (length xs)
play_of _ xs = Silent

abbrev pub notes_of : State → List (List Kind) → List Take → List Note
notes_of state (xs ∷ tracks) (take ∷ takes) = record { play = play_of state xs; take = take } ∷ notes_of state tracks takes
notes_of state _ _ = []

-- the entry of a cycle in edition r: of what was received of each track, and what was taken of each
abbrev pub entry_of : Session → List Edit → List Entry → List (List Kind) → List Take → ℕ → Entry
entry_of session edits before tracks takes r = let g = generation edits r in let s = rolled g before in
    let state = state_of (edition session edits r).transport.rolling g s tracks in
    record { edition = r; settled = settled_number r g s tracks; state = state; notes = notes_of state tracks takes }
