-- In which order the blocks of a generation are played. Journals stand with their first entry first.
use Rattle.std.specs.Prelude.{◌≡◌, ℕ, true, ◌==◌, if◌then◌else◌, List, [], ◌∷◌, ◌++◌}
use Rattle.std.specs.List.{range_with_len}
use Rattle.session_model.specs.declared.session.Session.{Session}
use Rattle.session_model.specs.declared.edit.Edit.{Edit}
use Rattle.engine_model.specs.Journal.{State, Stopped, Seeking, Rolling, Entry, rolled}
use Rattle.engine_model.specs.Fits.{is_lawful}

-- the block that an entry plays, where it plays one of generation g
abbrev pub block_in_state : ℕ → State → List ℕ
block_in_state g Stopped = []
block_in_state g (Seeking t tail) = []
block_in_state g (Rolling h s) = if h == g then s ∷ [] else []

-- the blocks of generation g that a journal plays
abbrev pub blocks_played : ℕ → List Entry → List ℕ
blocks_played g [] = []
blocks_played g (e ∷ es) = block_in_state g e.state ++ blocks_played g es

-- They are 0, 1, 2 and so on: none is left out, repeated or played out of turn.
abbrev pub BlocksCountUp : Type 0
BlocksCountUp = (session : Session) (edits : List Edit) (journal : List Entry) (g : ℕ) → is_lawful session edits journal ≡ true →
    blocks_played g journal ≡ range_with_len 0 (rolled g journal)
