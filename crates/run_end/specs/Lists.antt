-- The lists that a run leaves.
use Rattle.std.specs.Prelude.{◌≡◌, ℕ, ◌≤◌, [], length}
use Rattle.session_model.specs.declared.session.Session.{Session}
use Rattle.run_end.specs.declared.lists.RunLists.{RunLists}

-- empty lists for so many tracks
abbrev pub no_lists : ℕ → RunLists
no_lists tracks = record { rings = record { items = []; room = tracks }; edits = record { items = []; room = 10000 } }

-- They are empty, and have room for the rings of all tracks and for all edits.
pub record HaveRoomFor (s : Session) (lists : RunLists) : Type 0 where
  pub no_rings : lists.rings.items ≡ []
  pub rings_room : length s.tracks.items ≤ lists.rings.room
  pub no_edits : lists.edits.items ≡ []
  pub edits_room : 10000 ≤ lists.edits.room
