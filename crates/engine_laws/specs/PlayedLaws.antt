-- What is said of pieces when edits are made and more edits come.
use Rattle.std.specs.Prelude.{◌≡◌, ℕ, ◌-◌, ◌≤◌, ℤ, Bool, true, ◌==◌, List, ◌++◌, length, map, slice_get, Some, All}
use Rattle.sound_model.specs.Regions.{Sounds}
use Rattle.session_model.specs.declared.session.Session.{Session}
use Rattle.session_model.specs.declared.edit.Edit.{Edit}
use Rattle.session_model.specs.Views.{track_regions}
use Rattle.session_model.specs.Valid.{IsValid}
use Rattle.engine_model.specs.Edits.{playlist_edition, generation}
use Rattle.engine_model.specs.Editions.{edition}
use Rattle.engine_model.specs.Items.{Kind, Item, Piece, Settled, Blank}
use Rattle.engine_model.specs.Journal.{Take, Entry}
use Rattle.engine_model.specs.Cycle.{entry_of}
use Rattle.engine_model.specs.Mixed.{mixed}
use Rattle.std.specs.List.{list_all}
use Rattle.engine_model.specs.Played.{Samples, samples_of, IsGenuine, IsGenuineAs, block}

-- A track's playlist in an edition is the one that the last edit of it left.
abbrev pub PlaylistsStandSinceTheirEdit : Type 0
PlaylistsStandSinceTheirEdit = (session : Session) (edits : List Edit) (t k : ℕ) →
    track_regions (edition session edits k).session t ≡ track_regions (edition session edits (playlist_edition session edits t k)).session t

-- a piece names a generation and a playlist edition that the edits have made
abbrev pub IsNamed : List Edit → Kind → Type 0
IsNamed edits (Piece t g s p) = (g ≤ generation edits (length edits)) × (p ≤ length edits)
IsNamed edits (Settled k g s) = Unit {0}
IsNamed edits Blank = Unit {0}

abbrev pub is_of_track : ℕ → Kind → Bool
is_of_track t (Piece u g s p) = u == t
is_of_track t (Settled k g s) = true
is_of_track t Blank = true

-- a piece names track t
abbrev pub is_of : ℕ → Item → Bool
is_of t item = is_of_track t item.kind

-- what is genuine stays so when more edits come
abbrev pub GenuineStays : Type 0
GenuineStays = (sounds : Sounds) (session : Session) (edits more : List Edit) (kind : Kind) (block : List ℤ) → IsNamed edits kind →
    IsGenuineAs session edits (samples_of sounds session edits) kind block →
    IsGenuineAs session (edits ++ more) (samples_of sounds session (edits ++ more)) kind block

-- What was received of a track: all of it names the track, and is genuine.
pub record IsOfTrack (session : Session) (edits : List Edit) (samples : Samples) (t : ℕ) (items : List Item) : Type 0 where
  pub named : list_all (is_of t) items ≡ true
  pub genuine : All (IsGenuine session edits samples) items

-- The block that genuine pieces make of an entry is the block that the entry stands for, in every edition whose session is valid.
abbrev pub GenuinePiecesMakeTheBlock : Type 0
GenuinePiecesMakeTheBlock = (session : Session) (edits : List Edit) (samples : Samples) (before : List Entry) (tracks : List (List Item)) (takes : List Take) (r : ℕ) →
    IsValid (edition session edits r).session → length tracks ≡ length session.tracks.items → length takes ≡ length tracks →
    ((t : ℕ) (items : List Item) → slice_get tracks t ≡ Some items → IsOfTrack session edits samples t items) →
    let e = entry_of session edits before (map (map (λ i. i.kind)) tracks) takes r in mixed session edits tracks e ≡ block session edits samples e
