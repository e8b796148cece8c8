-- Which entries a process makes of what it receives (own). A cycle makes its entry in the edition that it entered, of what had
-- been received by then; both may be older than what there is when a journal is looked at. Entries, and what was received of
-- each track, stand newest first.
use Rattle.std.specs.Prelude.{◌≡◌, ℕ, suc, ◌≤◌, Bool, true, false, ◌&&◌, List, [], ◌∷◌, ◌++◌, length, slice_get, Some}
use Rattle.session_model.specs.declared.session.Session.{Session}
use Rattle.session_model.specs.declared.edit.Edit.{Edit}
use Rattle.engine_model.specs.Edits.{has_quit}
use Rattle.engine_model.specs.Editions.{Edition, edition}
use Rattle.engine_model.specs.Items.{Kind}
use Rattle.engine_model.specs.Journal.{Take, Entry, is_rolling}
use Rattle.engine_model.specs.Fits.{records, next_take, fits_take}
use Rattle.engine_model.specs.Cycle.{entry_of}

-- more was received of each track
pub record Receives (old new : List (List Kind)) : Type 0 where
  pub many : length new ≡ length old
  pub each : (t : ℕ) (xs ys : List Kind) → slice_get old t ≡ Some xs → slice_get new t ≡ Some ys → (more : List Kind) × (ys ≡ more ++ xs)

-- what is noted of the takes of tracks, of which the first is track t: the next of its take where it is recorded, else nothing
abbrev pub fit_takes : Edition → Bool → List Entry → ℕ → List Take → Bool
fit_takes now rolling before t [] = true
fit_takes now rolling before t (take ∷ takes) = fits_take (rolling && records now t) (next_take t before) take && fit_takes now rolling before (suc t) takes

-- An entry that a cycle made; `Before` says of the entries before it by which edition and by what received they were made.
pub record IsMade (session : Session) (edits : List Edit) (r : ℕ) (tracks : List (List Kind)) (before : List Entry) (e : Entry) (Before : ℕ → List (List Kind) → Type 0) : Type 0 where
  -- the edition that the cycle entered, which had not quit
  pub entered : ℕ
  pub in_time : entered ≤ r
  pub unended : has_quit edits entered ≡ false
  -- what had been received of each track
  pub by : List (List Kind)
  pub many : length by ≡ length session.tracks.items
  pub received : Receives by tracks
  -- what it took of each
  pub takes : List Take
  pub one_each : length takes ≡ length session.tracks.items
  pub fit : fit_takes (edition session edits entered) (is_rolling e.state) before 0 takes ≡ true
  -- the entry is that of the cycle
  pub is : e ≡ entry_of session edits before by takes entered
  pub earlier : Before entered by

-- a process that has entered edition r, and has received these items of each track, made the entries
abbrev pub AreMade : Session → List Edit → ℕ → List (List Kind) → List Entry → Type 0
AreMade session edits r tracks [] = length tracks ≡ length session.tracks.items
AreMade session edits r tracks (e ∷ before) = IsMade session edits r tracks before e (λ q by. AreMade session edits q by before)
