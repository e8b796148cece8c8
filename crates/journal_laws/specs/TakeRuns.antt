-- Which entries a take has. Journals stand with their first entry first; places of entries count from 0 here, takes from 1.
use Rattle.std.specs.Prelude.{◌≡◌, ℕ, zero, suc, ◌+◌, ◌≤◌, ◌<◌, Bool, true, false, ◌&&◌, not, List, [], ◌∷◌, length, Option, Some, None, All}
use Rattle.session_model.specs.declared.session.Session.{Session}
use Rattle.session_model.specs.declared.edit.Edit.{Edit}
use Rattle.engine_model.specs.Editions.{edition}
use Rattle.engine_model.specs.Journal.{Take, Off, Taken, Lost, Entry, is_rolling, note_of}
use Rattle.engine_model.specs.Fits.{take_number, greatest_take, records, is_lawful}

-- what the entry at a place took of track t, nothing past the end
abbrev pub take_at : ℕ → ℕ → List Entry → Take
take_at t c [] = Off
take_at t zero (e ∷ es) = (note_of t e).take
take_at t (suc c) (e ∷ es) = take_at t c es

-- take and index of a note, whether its block was lost or not
abbrev pub numbered : Take → Option (ℕ × ℕ)
numbered Off = None
numbered (Taken n i) = Some (n, i)
numbered (Lost n i head) = Some (n, i)

abbrev pub is_off : Take → Bool
is_off Off = true
is_off (Taken n i) = false
is_off (Lost n i head) = false

-- Take n of track t is one run of entries.
pub record IsTakeOf (t n : ℕ) (journal : List Entry) : Type 0 where
  -- where it begins, and how many entries it has
  pub first : ℕ
  pub many : ℕ
  pub some : 0 < many
  pub within : first + many ≤ length journal
  -- they follow one another, and their indices count up from 0
  pub each : (i : ℕ) → i < many → numbered (take_at t (first + i) journal) ≡ Some (n, i)
  -- no other entry is of this take
  pub only : (c : ℕ) → take_number (take_at t c journal) ≡ n → (first ≤ c) × (c < first + many)
  -- the entry before it, if there is one, takes nothing
  pub begins : (c : ℕ) → suc c ≡ first → take_at t c journal ≡ Off

-- The takes of track t are the runs of entries in which it is recorded.
pub record AreRuns (session : Session) (edits : List Edit) (t : ℕ) (journal : List Entry) : Type 0 where
  -- an entry takes nothing exactly where it doesn't roll, or its edition doesn't record the track
  pub recorded : All (λ e. is_off (note_of t e).take ≡ not (is_rolling e.state && records (edition session edits e.edition) t)) journal
  -- each number from 1 to the greatest is that of a run,
  pub takes : (n : ℕ) → 1 ≤ n → n ≤ greatest_take t journal → IsTakeOf t n journal
  -- and there are no others
  pub counted : (c n i : ℕ) → numbered (take_at t c journal) ≡ Some (n, i) → (1 ≤ n) × (n ≤ greatest_take t journal)

abbrev pub TakesAreRuns : Type 0
TakesAreRuns = (session : Session) (edits : List Edit) (t : ℕ) (journal : List Entry) → t < length session.tracks.items → is_lawful session edits journal ≡ true →
    AreRuns session edits t journal
