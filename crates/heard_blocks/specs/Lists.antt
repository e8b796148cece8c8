-- A session whose tracks have the playlists of editions of their own.
use Rattle.std.specs.Prelude.{◌≡◌, ℕ, ◌<◌, ◌≤◌, List, length, slice_index_or}
use Rattle.session_model.specs.declared.session.Session.{Session}
use Rattle.session_model.specs.declared.edit.Edit.{Edit}
use Rattle.session_model.specs.Views.{track_regions}
use Rattle.engine_model.specs.Editions.{edition}
use Rattle.engine_model.specs.Fixed.{fixed_of}
use Rattle.edit_laws.specs.CommandLaws.{IsWhole}

pub record ListsState : Type 0 where
  pub session : Session
  -- of each track the edition whose playlist it has
  pub at : List ℕ

-- Track t has the playlist of its edition.
pub record IsAsOf (s : Session) (edits : List Edit) (l : ListsState) (t : ℕ) : Type 0 where
  pub stands : slice_index_or l.at t 0 ≤ length edits
  pub list : track_regions l.session t ≡ track_regions (edition s edits (slice_index_or l.at t 0)).session t

-- They are lists of a session that these edits were made of.
pub record HasLists (s : Session) (edits : List Edit) (l : ListsState) : Type 0 where
  -- valid, and the parts within what their types keep
  pub whole : IsWhole l.session
  -- all that no edit changes is as it was opened
  pub fixed : fixed_of l.session ≡ fixed_of s
  pub many : length l.at ≡ 32
  pub each : (t : ℕ) → t < length s.tracks.items → IsAsOf s edits l t

-- A session in which track t has the playlist of edition k, and each other track the one that it had.
pub record IsBrought (s : Session) (edits : List Edit) (t k : ℕ) (old now : Session) : Type 0 where
  pub whole : IsWhole now
  pub fixed : fixed_of now ≡ fixed_of s
  pub here : track_regions now t ≡ track_regions (edition s edits k).session t
  pub others : (u : ℕ) → ¬ (u ≡ t) → track_regions now u ≡ track_regions old u
