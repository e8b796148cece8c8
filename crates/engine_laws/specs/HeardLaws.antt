-- What is said of what a process hears. What was received of a track stands newest first.
use Rattle.std.specs.Prelude.{◌≡◌, ℕ, ◌≤◌, true, List, ◌++◌}
use Rattle.session_model.specs.declared.session.Session.{Session}
use Rattle.session_model.specs.declared.edit.Edit.{Edit}
use Rattle.engine_model.specs.Edits.{playlist_edition}
use Rattle.engine_model.specs.Items.{Kind, among, blocks, newest}
use Rattle.engine_model.specs.Order.{is_ordered_newest}
use Rattle.engine_model.specs.Cycle.{force}
use Rattle.engine_laws.specs.Entered.{GoneOn, Backed, HeardAt}

-- No older piece is heard: the newest piece of a block that has one is as every edition up to the mark in force has the playlist.
abbrev pub HeardIsSettled : Type 0
HeardIsSettled = (session : Session) (edits : List Edit) (t g s settled : ℕ) (xs : List Kind) → is_ordered_newest session edits t xs ≡ true →
    among s (blocks g xs) ≡ true → settled ≤ force g s xs → playlist_edition session edits t settled ≤ newest g s xs

-- what is heard is an edition of the track's playlist
abbrev pub HeardNamesAnEdition : Type 0
HeardNamesAnEdition = (session : Session) (edits : List Edit) (t g s : ℕ) (xs : List Kind) → is_ordered_newest session edits t xs ≡ true →
    among s (blocks g xs) ≡ true → newest g s xs ≡ playlist_edition session edits t (newest g s xs)

-- ---- nothing falls while more is received and the place goes on

abbrev pub ForceNeverFalls : Type 0
ForceNeverFalls = (g s h r : ℕ) (more xs : List Kind) → GoneOn g s h r → force g s xs ≤ force h r (more ++ xs)

abbrev pub HeardNeverFalls : Type 0
HeardNeverFalls = (session : Session) (edits : List Edit) (t g s h r : ℕ) (more xs : List Kind) → is_ordered_newest session edits t (more ++ xs) ≡ true →
    GoneOn g s h r → among s (blocks g xs) ≡ true → among r (blocks h (more ++ xs)) ≡ true → newest g s xs ≤ newest h r (more ++ xs)

-- what stands of an old entry stands when more is received
abbrev pub OldEntriesStand : Type 0
OldEntriesStand = (session : Session) (edits : List Edit) (t g s n : ℕ) (more xs : List Kind) → is_ordered_newest session edits t (more ++ xs) ≡ true →
    (Backed g s n xs → Backed g s n (more ++ xs)) × (HeardAt g s n xs → HeardAt g s n (more ++ xs))

-- and says of the next entry that it is no older
abbrev pub NextIsNoOlder : Type 0
NextIsNoOlder = (session : Session) (edits : List Edit) (t g s h r n : ℕ) (xs : List Kind) → is_ordered_newest session edits t xs ≡ true → GoneOn g s h r →
    (Backed g s n xs → n ≤ force h r xs) × (HeardAt g s n xs → among r (blocks h xs) ≡ true → n ≤ newest h r xs)
