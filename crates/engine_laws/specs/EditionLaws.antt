-- What is said of editions, generations and places.
use Rattle.std.specs.Prelude.{◌≡◌, ℕ, ◌+◌, ◌<◌, ◌≤◌, List, ◌++◌, length, Some}
use Rattle.session_model.specs.declared.session.Session.{Session}
use Rattle.session_model.specs.declared.edit.Edit.{Edit}
use Rattle.engine_model.specs.Edits.{playlist_edition, generation, has_quit}
use Rattle.engine_model.specs.Transport.{Wrap, place_from, place_of, place}
use Rattle.engine_model.specs.Editions.{edition, IsAccepted}

-- a playlist edition is that of its own number: it is the number of the edit that made it, and that edit stands in the list
pub record NamesAnEdit (session : Session) (edits : List Edit) (t k : ℕ) : Type 0 where
  pub itself : playlist_edition session edits t (playlist_edition session edits t k) ≡ playlist_edition session edits t k
  pub past : playlist_edition session edits t k ≤ k
  pub stands : playlist_edition session edits t k ≤ length edits

abbrev pub PlaylistEditionsNameEdits : Type 0
PlaylistEditionsNameEdits = (session : Session) (edits : List Edit) (t k : ℕ) → NamesAnEdit session edits t k

-- playlist editions and generations never fall
abbrev pub NoneFalls : Type 0
NoneFalls = (session : Session) (edits : List Edit) (t j k : ℕ) → j ≤ k →
    (playlist_edition session edits t j ≤ playlist_edition session edits t k) × (generation edits j ≤ generation edits k)

-- what k edits say is the same whatever edits follow
pub record Stays (session : Session) (edits more : List Edit) (k : ℕ) : Type 0 where
  pub playlists : (t : ℕ) → playlist_edition session (edits ++ more) t k ≡ playlist_edition session edits t k
  pub generation : generation (edits ++ more) k ≡ generation edits k
  pub quit : has_quit (edits ++ more) k ≡ has_quit edits k
  pub edition : edition session (edits ++ more) k ≡ edition session edits k

abbrev pub EditionsStay : Type 0
EditionsStay = (session : Session) (edits more : List Edit) (k : ℕ) → k ≤ length edits → Stays session edits more k

-- the places of a generation that the edits have started
abbrev pub PlacesStay : Type 0
PlacesStay = (edits more : List Edit) (g n : ℕ) → g ≤ generation edits (length edits) → place (edits ++ more) g n ≡ place edits g n

-- from the end of a loop on each place lies in the loop
abbrev pub LoopsAreKept : Type 0
LoopsAreKept = (target : ℕ) (loop : Wrap) (n : ℕ) → loop.from < loop.to → target < loop.to → loop.to ≤ target + n →
    (loop.from ≤ place_from target (Some loop) n) × (place_from target (Some loop) n < loop.to)

-- The transport of an edition has the edition's generation, plays its places, and has quit exactly where an edit said so.
pub record PlaysIts (session : Session) (edits : List Edit) (k : ℕ) : Type 0 where
  pub counted : (edition session edits k).transport.generation ≡ generation edits k
  pub places : (n : ℕ) → place_of (edition session edits k).transport n ≡ place edits (generation edits k) n
  pub quit : (edition session edits k).transport.quit ≡ has_quit edits k

abbrev pub EditionsPlayTheirGeneration : Type 0
EditionsPlayTheirGeneration = (session : Session) (edits : List Edit) (k : ℕ) → IsAccepted session edits → k ≤ length edits → PlaysIts session edits k
