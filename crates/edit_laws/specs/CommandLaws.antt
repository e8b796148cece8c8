-- What is said of commands: what they may change, what they leave, and which rule a refusal names.
use Rattle.std.specs.Prelude.{◌≡◌, ◌↔◌, ℕ, true, false, List, length, map, slice_get, Option, Some, None, Ok, Err, IsOk}
use Rattle.std.specs.List.{list_all}
use Rattle.session_model.specs.declared.session.Session.{Session}
use Rattle.session_model.specs.declared.edit.Edit.{Edit}
use Rattle.session_model.specs.Valid.{IsValid}
use Rattle.session_model.specs.Views.{routes_of, track_regions}
use Rattle.engine_model.specs.Transport.{Wrap}
use Rattle.engine_model.specs.Edits.{touches, region_track, keeps_forms}
use Rattle.engine_model.specs.Refusals.{Refusal}
use Rattle.engine_model.specs.Changes.{Change, made}
use Rattle.engine_model.specs.Commands.{change_of}
use Rattle.engine_model.specs.MayMake.{KeepsItsTypes, MayMake}
use Rattle.engine_model.specs.Fixed.{fixed_of}
use Rattle.engine_model.specs.Editions.{Edition, edition, apply}
use Rattle.engine_model.specs.Items.{Item}
use Rattle.engine_model.specs.Journal.{Take, Entry}
use Rattle.engine_model.specs.Cycle.{entry_of}
use Rattle.engine_model.specs.Mixed.{mixed}
use Rattle.engine_model.specs.Played.{Samples, block}
use Rattle.engine_laws.specs.PlayedLaws.{IsOfTrack}
use Rattle.edit_laws.specs.Rows.{first_broken, rows_of, all_rows}

-- ---- what may be changed

-- valid, and the parts within what their types keep
pub record IsWhole (s : Session) : Type 0 where
  pub valid : IsValid s
  pub types : KeepsItsTypes s

-- What an accepted command changes may be changed.
abbrev pub ResolvedMayBeMade : Type 0
ResolvedMayBeMade = (s : Session) (wrap : Option Wrap) (edit : Edit) (c : Change) → IsWhole s → keeps_forms edit ≡ true → change_of s wrap edit ≡ Ok c → MayMake s c

-- What may be changed leaves a valid session.
abbrev pub MadeKeepsValid : Type 0
MadeKeepsValid = (s : Session) (c : Change) → IsWhole s → MayMake s c → IsWhole (made s c)

-- So each edition's session is valid, whatever edits were asked for.
abbrev pub EditsKeepValidity : Type 0
EditsKeepValidity = (s : Session) (edits : List Edit) (k : ℕ) → IsWhole s → list_all keeps_forms edits ≡ true → IsWhole (edition s edits k).session

-- So in each edition the block that genuine pieces make of an entry is the block that the entry stands for.
abbrev pub EachEditionPlaysItsPieces : Type 0
EachEditionPlaysItsPieces = (session : Session) (edits : List Edit) (samples : Samples) (before : List Entry) (tracks : List (List Item)) (takes : List Take) (r : ℕ) →
    IsWhole session → list_all keeps_forms edits ≡ true → length tracks ≡ length session.tracks.items → length takes ≡ length tracks →
    ((t : ℕ) (items : List Item) → slice_get tracks t ≡ Some items → IsOfTrack session edits samples t items) →
    let e = entry_of session edits before (map (map (λ i. i.kind)) tracks) takes r in mixed session edits tracks e ≡ block session edits samples e

-- ---- what stays

-- No edit changes what is fixed.
abbrev pub FixedStays : Type 0
FixedStays = (s : Session) (edits : List Edit) (k : ℕ) → fixed_of (edition s edits k).session ≡ fixed_of s

-- A command changes no playlist but of the track that it touches.
abbrev pub ARegionCommandIsHeardOnItsTrackAlone : Type 0
ARegionCommandIsHeardOnItsTrackAlone = (s : Session) (wrap : Option Wrap) (edit : Edit) (c : Change) (t : ℕ) → change_of s wrap edit ≡ Ok c → touches s t edit ≡ false →
    track_regions (made s c) t ≡ track_regions s t

-- A command of routes changes no playlist.
abbrev pub ARouteCommandTouchesNoPlaylist : Type 0
ARouteCommandTouchesNoPlaylist = (s : Session) (wrap : Option Wrap) (edit : Edit) (c : Change) (t : ℕ) → change_of s wrap edit ≡ Ok c → region_track edit ≡ None →
    track_regions (made s c) t ≡ track_regions s t

-- A region command changes no route.
abbrev pub ARegionCommandLeavesTheRoutes : Type 0
ARegionCommandLeavesTheRoutes = (s : Session) (wrap : Option Wrap) (edit : Edit) (c : Change) (track : List ℕ) → change_of s wrap edit ≡ Ok c → region_track edit ≡ Some track →
    ((made s c).routes ≡ s.routes) × (routes_of (made s c) ≡ routes_of s)

-- ---- refusals

-- A command is refused with the first of its rules that is broken, and accepted where none is.
pub record IsToldByRules (s : Session) (wrap : Option Wrap) (edit : Edit) : Type 0 where
  pub refused : (why : Refusal) → (change_of s wrap edit ≡ Err why) ↔ (first_broken (rows_of s wrap edit) ≡ Some why)
  pub accepted : IsOk (change_of s wrap edit) ↔ (first_broken (rows_of s wrap edit) ≡ None)

abbrev pub ARefusalNamesTheFirstRule : Type 0
ARefusalNamesTheFirstRule = (s : Session) (wrap : Option Wrap) (edit : Edit) → IsToldByRules s wrap edit

-- The same of an edit of an edition, whose first rule is the limit of edits.
pub record IsToldByAllRules (e : Edition) (edit : Edit) : Type 0 where
  pub refused : (why : Refusal) → (apply e edit ≡ Err why) ↔ (first_broken (all_rows e edit) ≡ Some why)
  pub accepted : IsOk (apply e edit) ↔ (first_broken (all_rows e edit) ≡ None)

abbrev pub AnEditIsRefusedByTheFirstRule : Type 0
AnEditIsRefusedByTheFirstRule = (e : Edition) (edit : Edit) → IsToldByAllRules e edit
