-- What is said of entries that a process makes, whatever editions came since. Entries, what was received of each track, and the
-- tails of its looks stand newest first.
use Rattle.std.specs.Prelude.{◌≡◌, ◌⊎◌, ℕ, ◌≤◌, true, nat_le, List, ◌∷◌, ◌++◌, length, reverse, slice_get, Some}
use Rattle.std.specs.List.{list_all}
use Rattle.session_model.specs.declared.session.Session.{Session}
use Rattle.session_model.specs.declared.edit.Edit.{Edit}
use Rattle.engine_model.specs.Edits.{generation}
use Rattle.engine_model.specs.Items.{Kind}
use Rattle.engine_model.specs.Journal.{Take, Entry, rolled}
use Rattle.engine_model.specs.Fits.{is_lawful}
use Rattle.engine_model.specs.Cycle.{is_held, entry_of}
use Rattle.engine_model.specs.Truth.{misses, is_missing, looked, is_within}
use Rattle.engine_model.specs.Made.{Receives, AreMade}
use Rattle.engine_laws.specs.JournalInvariant.{AreOrdered}

-- ---- made entries

-- they stay made when the process enters a later edition and receives more,
abbrev pub MadeGoesOn : Type 0
MadeGoesOn = (session : Session) (edits : List Edit) (q r : ℕ) (old new : List (List Kind)) (entries : List Entry) → q ≤ r → Receives old new →
    AreMade session edits q old entries → AreMade session edits r new entries

-- and over every list that begins with the edits that the process saw
abbrev pub MadeStays : Type 0
MadeStays = (session : Session) (edits more : List Edit) (r : ℕ) (tracks : List (List Kind)) (entries : List Entry) → r ≤ length edits →
    AreMade session edits r tracks entries → AreMade session (edits ++ more) r tracks entries

-- what is made is a lawful journal, where what was received is ordered,
abbrev pub WhatIsMadeIsLawful : Type 0
WhatIsMadeIsLawful = (session : Session) (edits : List Edit) (r : ℕ) (tracks : List (List Kind)) (entries : List Entry) → r ≤ length edits → AreOrdered session edits tracks →
    AreMade session edits r tracks entries → is_lawful session edits (reverse entries) ≡ true

-- and each piece that it names as missing wasn't among the items received by then.
abbrev pub WhatIsMadeIsMissing : Type 0
WhatIsMadeIsMissing = (session : Session) (edits : List Edit) (r t : ℕ) (tracks : List (List Kind)) (xs : List Kind) (entries : List Entry) → slice_get tracks t ≡ Some xs →
    AreMade session edits r tracks entries → list_all (is_missing (reverse xs)) (misses edits t (reverse entries)) ≡ true

-- ---- looks

-- What a journal says of pieces that weren't there is true of what was received of track t, by the looks that found nothing.
pub record LooksStand (edits : List Edit) (depth t : ℕ) (received : List Kind) (tails : List ℕ) (entries : List Entry) : Type 0 where
  pub missing : list_all (is_missing (reverse received)) (misses edits t (reverse entries)) ≡ true
  pub looked_for : is_within (looked depth (reverse received) (misses edits t (reverse entries))) (reverse tails) ≡ true
  -- none names more items than were received
  pub within : list_all (λ m. nat_le m.tail (length received)) (misses edits t (reverse entries)) ≡ true

-- it stands when more is received and looked for,
abbrev pub LooksStandWhileReceiving : Type 0
LooksStandWhileReceiving = (edits : List Edit) (depth t : ℕ) (more received : List Kind) (further tails : List ℕ) (entries : List Entry) →
    LooksStand edits depth t received tails entries → LooksStand edits depth t (more ++ received) (further ++ tails) entries

-- when more edits come,
abbrev pub LooksStandWhileEditing : Type 0
LooksStandWhileEditing = (edits extra : List Edit) (depth t : ℕ) (received : List Kind) (tails : List ℕ) (entries : List Entry) →
    list_all (λ e. nat_le e.edition (length edits)) entries ≡ true → LooksStand edits depth t received tails entries → LooksStand (edits ++ extra) depth t received tails entries

-- a look-up that is over: its last look noted the number received, or the last item received is held
abbrev pub HasLookedUp : ℕ → ℕ → ℕ → List Kind → List ℕ → List ℕ → Type 0
HasLookedUp depth g s received before tails = (tails ≡ length received ∷ before)
    ⊎ ((x : Kind) × (rest : List Kind) × (received ≡ x ∷ rest) × (is_held depth g s x ≡ true) × (tails ≡ before))

-- and with the entry of a cycle in whichever edition, after a look-up of its own.
abbrev pub LooksStandWithItsEntry : Type 0
LooksStandWithItsEntry = (session : Session) (edits : List Edit) (depth t r : ℕ) (before tails : List ℕ) (tracks : List (List Kind)) (xs : List Kind) (takes : List Take) (entries : List Entry) →
    slice_get tracks t ≡ Some xs → length tracks ≡ length session.tracks.items → length takes ≡ length session.tracks.items →
    let g = generation edits r in HasLookedUp depth g (rolled g entries) xs before tails → LooksStand edits depth t xs before entries →
    LooksStand edits depth t xs tails (entry_of session edits entries tracks takes r ∷ entries)
