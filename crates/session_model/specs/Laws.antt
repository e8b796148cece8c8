-- The tests of a session are the facts, and a playlist stands as its sound is laid.
use Rattle.std.specs.Prelude.{◌≡◌, ◌↔◌, IsTrue, List}
use Rattle.sound_model.specs.Regions.{Region}
use Rattle.sound_model.specs.Layers.{by_layer}
use Rattle.session_model.specs.declared.session.Session.{Session}
use Rattle.session_model.specs.Playlist.{IsPlaylist}
use Rattle.session_model.specs.Formed.{IsFormed}
use Rattle.session_model.specs.Valid.{IsValid}
use Rattle.session_model.specs.Tests.{is_formed, is_valid}

abbrev pub FormIsTested : Type 0
FormIsTested = (s : Session) → IsTrue (is_formed s) ↔ IsFormed s

abbrev pub ValidityIsTested : Type 0
ValidityIsTested = (s : Session) → IsTrue (is_valid s) ↔ IsValid s

-- the track sample lays the regions of a playlist in the order that they stand in
abbrev pub PlaylistsAreInOrder : Type 0
PlaylistsAreInOrder = (regions : List Region) → IsPlaylist regions → by_layer regions ≡ regions
