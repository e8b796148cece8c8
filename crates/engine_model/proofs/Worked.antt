-- What the worked runs are made of: the base session with its one mono track `t`, the edits of its commands, and entries.
use Rattle.std.proofs.Common.{ℕ, List, [], ◌∷◌, codes, Some}
use Rattle.session_model.specs.declared.session.Session.{Session}
use Rattle.session_model.specs.declared.edit.Edit.{Edit}
use Rattle.session_model.specs.declared.edit.Edit.TheVariants.{Roll, Quit, Locate, RegionGain}
use Rattle.session_model.proofs.SessionVectors.{base, session, track, whole, source, route, master}
use Rattle.session_model.specs.declared.route.RouteKind.TheVariants.{Track as OfTrack}
use Rattle.engine_model.specs.Journal.{Play, Off, Note, Rolling, Entry}

-- the base with a longer ring
abbrev pub deep : ℕ → Session
deep depth = record base { depth = depth }

-- a session of two tracks, `t` and `u`
abbrev pub two_tracks : Session
two_tracks = session (source (codes "a") ∷ []) (route (codes "t") (OfTrack 0) (Some 2) ∷ route (codes "u") (OfTrack 1) (Some 2) ∷ master ∷ [])
    (track 0 (whole ∷ []) ∷ track 1 (whole ∷ []) ∷ [])

-- `rgain t 1 32768`
abbrev pub quieter : Edit
quieter = RegionGain (codes "t") 1 32768

-- `roll`, `locate 4`, `quit`, with cycles between them
abbrev pub wait_then_locate : List Edit
wait_then_locate = Roll ∷ Locate 4 ∷ Quit ∷ []

-- `roll`, `rgain t 1 32768`, with a cycle between them
abbrev pub overwrite_heard : List Edit
overwrite_heard = Roll ∷ quieter ∷ []

-- `roll`, `locate 4`
abbrev pub mark_held : List Edit
mark_held = Roll ∷ Locate 4 ∷ []

abbrev pub unrecorded : Play → Note
unrecorded play = record { play = play; take = Off }

-- an entry of the one track that rolls
abbrev pub rolling : ℕ → ℕ → ℕ → ℕ → Play → Entry
rolling r settled g s play = record { edition = r; settled = settled; state = Rolling g s; notes = unrecorded play ∷ [] }
