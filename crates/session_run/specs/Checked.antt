-- The text of a check: how many parts a session has.
use Rattle.std.specs.Prelude.{◌≡◌, ℕ, Bool, true, false, List, ◌++◌, length, codes, decimal, Ok}
use Rattle.std.specs.List.{count_by}
use Rattle.ses_io.specs.Outside.{MediaOutside}
use Rattle.session_model.specs.declared.route.RouteKind.{RouteKind}
use Rattle.session_model.specs.declared.route.RouteKind.TheVariants.{Track as OfTrack, Bus, Master}
use Rattle.session_model.specs.declared.session.Session.{Session}
use Rattle.session_model.specs.Valid.{IsValid}
use Rattle.session_opening.specs.Plan.{session_plan}

-- neither a track nor the master
abbrev pub is_bus : RouteKind → Bool
is_bus (OfTrack t) = false
is_bus Bus = true
is_bus Master = false

abbrev pub busses : Session → ℕ
busses s = count_by (λ r. is_bus r.kind) s.routes.items

-- `ok TRACKS BUSSES SOURCES`, and a line feed
abbrev pub check_text : Session → List ℕ
check_text s = codes "ok " ++ decimal (length s.tracks.items) ++ codes " " ++ decimal (busses s) ++ codes " " ++ decimal (length s.sources.items) ++ codes "\n"

-- The text of a check of the session of this file.
pub record IsCheckText {M : Type 0} (media : MediaOutside M) (before : M) (name : List ℕ) (text : List ℕ) : Type 0 where
  pub session : Session
  pub valid : IsValid session
  -- where the media tells, the session is that of the file, and each of its sources is opened
  pub of_file : media.tells → session_plan (media.files before) name ≡ Ok session
  pub is_text : text ≡ check_text session
