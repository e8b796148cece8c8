-- Looks that are made with patience: laws of what a process looked for. Lists stand oldest first.
use Rattle.std.specs.Prelude.{◌≡◌, ◌⊎◌, ℕ, suc, ◌≤◌, true, false, nat_le, List, [], ◌∷◌, ◌++◌, length, reverse, slice_get, Some}
use Rattle.std.specs.List.{list_all}
use Rattle.session_model.specs.declared.session.Session.{Session}
use Rattle.session_model.specs.declared.edit.Edit.{Edit}
use Rattle.engine_model.specs.Edits.{generation}
use Rattle.engine_model.specs.Editions.{edition}
use Rattle.engine_model.specs.Items.{Kind}
use Rattle.engine_model.specs.Journal.{Take, Entry, rolled}
use Rattle.engine_model.specs.Cycle.{entry_of, has_piece, is_held}
use Rattle.engine_model.specs.Truth.{misses, looked}
use Rattle.engine_model.specs.Waited.{are_waited}

-- further looks change nothing
abbrev pub FurtherLooks : Type 0
FurtherLooks = (patience : ℕ) (looked tails more : List ℕ) → are_waited patience looked tails ≡ true → are_waited patience looked (tails ++ more) ≡ true

-- one more number is looked for by so many looks of its own, of which the last one noted it
abbrev pub OneMoreIsLookedFor : Type 0
OneMoreIsLookedFor = (patience n : ℕ) (looked tails before : List ℕ) → patience ≤ suc (length before) → are_waited patience looked tails ≡ true →
    are_waited patience (looked ++ n ∷ []) (tails ++ (before ++ n ∷ [])) ≡ true

-- what a journal looked for of a track stands as it is when more edits come and more is received, where no miss names more than had been
abbrev pub LookedStands : Type 0
LookedStands = (edits extra : List Edit) (depth t : ℕ) (received more : List Kind) (journal : List Entry) → list_all (λ e. nat_le e.edition (length edits)) journal ≡ true →
    list_all (λ m. nat_le m.tail (length received)) (misses edits t journal) ≡ true →
    looked depth (received ++ more) (misses (edits ++ extra) t journal) ≡ looked depth received (misses edits t journal)

-- ---- the pieces of a track that weren't there. What was received and the entries stand newest first here, the tails of looks oldest first.

-- **Each of them was looked for with patience**, unless it stood behind a held item
abbrev pub IsWaitedFor : ℕ → List Edit → ℕ → ℕ → List Kind → List ℕ → List Entry → Type 0
IsWaitedFor patience edits depth t received tails entries = are_waited patience (looked depth (reverse received) (misses edits t (reverse entries))) tails ≡ true

-- so it stays when more edits come, and more is received and looked for,
abbrev pub WaitedForStands : Type 0
WaitedForStands = (patience : ℕ) (edits extra : List Edit) (depth t : ℕ) (received more : List Kind) (tails further : List ℕ) (entries : List Entry) →
    list_all (λ e. nat_le e.edition (length edits)) entries ≡ true → list_all (λ m. nat_le m.tail (length received)) (misses edits t (reverse entries)) ≡ true →
    IsWaitedFor patience edits depth t received tails entries → IsWaitedFor patience (edits ++ extra) depth t (more ++ received) (tails ++ further) entries

-- the looks of one cycle, of which the last one found that all was received; or the last item received is held
abbrev pub HasWaited : ℕ → ℕ → ℕ → ℕ → List Kind → List ℕ → List ℕ → Type 0
HasWaited patience depth g s received before tails = ((looks : List ℕ) × (patience ≤ suc (length looks)) × (tails ≡ before ++ (looks ++ length received ∷ [])))
    ⊎ ((x : Kind) × (rest : List Kind) × (received ≡ x ∷ rest) × (is_held depth g s x ≡ true))

-- and with the entry of a cycle, where a piece that wasn't there when the transport rolled was looked for so.
abbrev pub WaitedForWithItsEntry : Type 0
WaitedForWithItsEntry = (patience : ℕ) (session : Session) (edits : List Edit) (depth t r : ℕ) (before further : List ℕ) (tracks : List (List Kind)) (xs : List Kind) (takes : List Take) (entries : List Entry) →
    slice_get tracks t ≡ Some xs → length tracks ≡ length session.tracks.items → length takes ≡ length session.tracks.items →
    let g = generation edits r in
    ((edition session edits r).transport.rolling ≡ true → has_piece g (rolled g entries) xs ≡ false → HasWaited patience depth g (rolled g entries) xs before (before ++ further)) →
    IsWaitedFor patience edits depth t xs before entries → IsWaitedFor patience edits depth t xs (before ++ further) (entry_of session edits entries tracks takes r ∷ entries)
