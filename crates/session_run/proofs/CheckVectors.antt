-- What a check writes of worked sessions.
use Rattle.std.proofs.Common.{◌≡◌, ℕ, List, [], ◌∷◌, refl, codes, Some}
use Rattle.std.specs.Fmt.{digits}
use Rattle.session_model.specs.declared.route.Route.{Route}
use Rattle.session_model.specs.declared.route.RouteKind.TheVariants.{Track as OfTrack, Bus}
use Rattle.session_model.specs.declared.session.Session.{Session}
use Rattle.session_model.proofs.SessionVectors.{base, session, source, route, master, track, whole}
use Rattle.session_run.specs.Checked.{check_text}

-- one track, no bus, one source
of_base : check_text base ≡ codes "ok 1 0 1\n"
unfolding digits
of_base = refl

abbrev bus : List ℕ → ℕ → Route
bus name to = route name Bus (Some to)

-- two tracks, three busses, two sources
abbrev desk : Session
desk = session (source (codes "a") ∷ source (codes "d") ∷ [])
    (route (codes "t") (OfTrack 0) (Some 3) ∷ route (codes "w") (OfTrack 1) (Some 5) ∷ bus (codes "b1") 5 ∷ bus (codes "b2") 2 ∷ bus (codes "s") 5 ∷ master ∷ [])
    (track 0 (whole ∷ []) ∷ track 1 [] ∷ [])

of_desk : check_text desk ≡ codes "ok 2 3 2\n"
unfolding digits
of_desk = refl

-- the master alone
of_nothing : check_text (session [] (master ∷ []) []) ≡ codes "ok 0 0 0\n"
unfolding digits
of_nothing = refl
