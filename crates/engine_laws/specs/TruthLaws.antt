-- What stands of a journal's truth of one track while a process looks, receives, sees more edits, and makes entries.
-- Lists stand oldest first here.
use Rattle.std.specs.Prelude.{◌≡◌, ◌⊎◌, ℕ, true, nat_le, List, [], ◌∷◌, ◌++◌, length, reverse, slice_get, Some}
use Rattle.std.specs.List.{list_all}
use Rattle.session_model.specs.declared.session.Session.{Session}
use Rattle.session_model.specs.declared.edit.Edit.{Edit}
use Rattle.engine_model.specs.Edits.{generation}
use Rattle.engine_model.specs.Items.{Kind}
use Rattle.engine_model.specs.Journal.{Entry, rolled}
use Rattle.engine_model.specs.Cycle.{is_held, entry_of}
use Rattle.engine_model.specs.Truth.{misses, looked, is_missing, is_within, losses, IsTruthful}
use Rattle.engine_laws.specs.JournalInvariant.{no_takes}

-- by what was received of the track, and by the tails of its looks
pub record TruthStands (edits : List Edit) (depth t : ℕ) (received : List Kind) (tails : List ℕ) (journal : List Entry) : Type 0 where
  pub missing : list_all (is_missing received) (misses edits t journal) ≡ true
  pub looked_for : is_within (looked depth received (misses edits t journal)) tails ≡ true
  -- no miss names more items than were received
  pub within : list_all (λ m. nat_le m.tail (length received)) (misses edits t journal) ≡ true
  -- no block was lost
  pub none_lost : losses t journal ≡ []

-- it stands when more is received and looked for,
abbrev pub TruthStandsWhileReceiving : Type 0
TruthStandsWhileReceiving = (edits : List Edit) (depth t : ℕ) (received more : List Kind) (tails further : List ℕ) (journal : List Entry) →
    TruthStands edits depth t received tails journal → TruthStands edits depth t (received ++ more) (tails ++ further) journal

-- when more edits come,
abbrev pub TruthStandsWhileEditing : Type 0
TruthStandsWhileEditing = (edits extra : List Edit) (depth t : ℕ) (received : List Kind) (tails : List ℕ) (journal : List Entry) →
    list_all (λ e. nat_le e.edition (length edits)) journal ≡ true → TruthStands edits depth t received tails journal → TruthStands (edits ++ extra) depth t received tails journal

-- a look that ended behind the items received: its tail was noted after all of these, or the last item is held
abbrev pub HasLooked : ℕ → ℕ → ℕ → List Kind → List ℕ → List ℕ → Type 0
HasLooked depth g s received before tails = ((more : List ℕ) × (tails ≡ before ++ more ++ length received ∷ []))
    ⊎ ((x : Kind) × (rest : List Kind) × (more : List ℕ) × (received ≡ rest ++ x ∷ []) × (is_held depth g s x ≡ true) × (tails ≡ before ++ more))

-- with the entry of a cycle, after a look of its own,
abbrev pub TruthStandsWithItsEntry : Type 0
TruthStandsWithItsEntry = (session : Session) (edits : List Edit) (depth t : ℕ) (before tails : List ℕ) (tracks : List (List Kind)) (xs : List Kind) (journal : List Entry) →
    slice_get tracks t ≡ Some xs → length tracks ≡ length session.tracks.items →
    let g = generation edits (length edits) in HasLooked depth g (rolled g (reverse journal)) (reverse xs) before tails →
    TruthStands edits depth t (reverse xs) before journal →
    TruthStands edits depth t (reverse xs) tails (journal ++ entry_of session edits (reverse journal) tracks (no_takes session) (length edits) ∷ [])

-- and it is what is true of the ring, whatever else was sent on it.
abbrev pub TruthStandsOfTheRing : Type 0
TruthStandsOfTheRing = (edits : List Edit) (depth t : ℕ) (received unreceived : List Kind) (tails heads : List ℕ) (journal : List Entry) →
    TruthStands edits depth t received tails journal → IsTruthful edits depth t (received ++ unreceived) tails heads journal
