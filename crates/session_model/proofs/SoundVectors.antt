-- The sound of sessions through the views: regions in layers, and sends before and after the fader.
use Rattle.std.proofs.Common.{◌≡◌, ℕ, List, [], ◌∷◌, refl, map, Bool, true, false, Some}
use Rattle.std.specs.Prelude.{ℤ, pos, codes}
use Rattle.std.specs.List.{range_with_len}
use Rattle.sound_model.specs.Numbers.{file_sample}
use Rattle.sound_model.specs.Regions.{Sounds}
use Rattle.sound_model.specs.Layers.{track_sample}
use Rattle.sound_model.specs.Routes.{input_within, master_sample}
use Rattle.ses_units.specs.declared.shape.Shape.TheVariants.{Linear}
use Rattle.session_model.specs.declared.region.Region.{Region}
use Rattle.session_model.specs.declared.route.RouteKind.TheVariants.{Track as OfTrack, Bus}
use Rattle.session_model.specs.declared.session.Session.{Session}
use Rattle.session_model.specs.Region.{regions_of}
use Rattle.session_model.specs.Views.{routes_of, track_regions}
use Rattle.session_model.specs.Frames.{sounds_of, interleaved}
use Rattle.session_model.proofs.SessionVectors.{listed, source, send_to, route, master, track, session}

-- the file samples of a track's eight first frames
abbrev heard_of_track : Sounds → Session → List ℤ
heard_of_track sounds s = map (λ x. file_sample 16 (track_sample sounds (track_regions s 0) 0 x)) (range_with_len 0 8)

abbrev heard : Sounds → Session → List ℤ
heard sounds s = map (λ x. file_sample 16 (master_sample (routes_of s) (λ t c. track_sample sounds (track_regions s t) c x) x 0)) (range_with_len 0 8)

-- eight frames of one value in 16 bits
abbrev constant : ℤ → List (List ℤ)
constant v = map (λ i. v ∷ []) (range_with_len 0 8)

-- ---- layers: source 0 is 800, source 1 is 400

abbrev two_constants : Sounds
two_constants = sounds_of (constant (pos 204800) ∷ constant (pos 102400) ∷ [])

abbrev plain : Region
plain = record { id = 2; source = 0; start = 0; length = 8; at = 0; layer = 0; gain = 65536; opaque = true; fade_in = 0; fade_out = 0; shape_in = Linear; shape_out = Linear }

-- a region of source 1 on layer 1 over one of source 0
abbrev two_layers : Bool → ℕ → Session
two_layers opaque fade_in = session (source (codes "a") ∷ source (codes "b") ∷ []) (route (codes "t") (OfTrack 0) (Some 1) ∷ master ∷ [])
    (track 0 (regions_of (plain ∷ record plain { id = 1; layer = 1; source = 1; opaque = opaque; fade_in = fade_in } ∷ [])) ∷ [])

opaque_over : heard_of_track two_constants (two_layers true 4)
    ≡ pos 800 ∷ pos 700 ∷ pos 600 ∷ pos 500 ∷ pos 400 ∷ pos 400 ∷ pos 400 ∷ pos 400 ∷ []
unfolding track_sample
opaque_over = refl

opaque_over_in_the_master : heard two_constants (two_layers true 4)
    ≡ pos 800 ∷ pos 700 ∷ pos 600 ∷ pos 500 ∷ pos 400 ∷ pos 400 ∷ pos 400 ∷ pos 400 ∷ []
unfolding track_sample input_within
opaque_over_in_the_master = refl

transparent_over : heard two_constants (two_layers false 0) ≡ map (λ i. pos 1200) (range_with_len 0 8)
unfolding track_sample input_within
transparent_over = refl

-- ---- sends: a track of 400 at half its level sends to bus `b` at unity

abbrev sending : Bool → Session
sending pre = session (source (codes "a") ∷ [])
    (record (route (codes "t") (OfTrack 0) (Some 2)) { fader = 32768; sends = listed (record (send_to 1) { pre = pre } ∷ []) }
    ∷ route (codes "b") Bus (Some 2) ∷ master ∷ [])
    (track 0 (regions_of (record plain { source = 0 } ∷ [])) ∷ [])

send_before_the_fader : heard (sounds_of (constant (pos 102400) ∷ [])) (sending true) ≡ map (λ i. pos 600) (range_with_len 0 8)
unfolding track_sample input_within
send_before_the_fader = refl

send_after_the_fader : heard (sounds_of (constant (pos 102400) ∷ [])) (sending false) ≡ map (λ i. pos 400) (range_with_len 0 8)
unfolding track_sample input_within
send_after_the_fader = refl

-- ---- solo goes by the tracks, not by the routes

abbrev two_tracks : Session
two_tracks = session (source (codes "a") ∷ source (codes "b") ∷ [])
    (route (codes "t") (OfTrack 0) (Some 2) ∷ route (codes "u") (OfTrack 1) (Some 2) ∷ master ∷ [])
    (track 0 (regions_of (plain ∷ [])) ∷ record (track 1 (regions_of (record plain { source = 1 } ∷ []))) { solo = true } ∷ [])

solo : heard two_constants two_tracks ≡ map (λ i. pos 400) (range_with_len 0 8)
unfolding track_sample input_within
solo = refl

-- ---- frames of sources

-- two frames of two channels from frame 1 on, of which the second isn't there
interleaved_past_the_end : interleaved (sounds_of (((pos 1 ∷ pos 2 ∷ []) ∷ (pos 3 ∷ pos 4 ∷ []) ∷ []) ∷ []) 0) 2 1 4 ≡ pos 3 ∷ pos 4 ∷ pos 0 ∷ pos 0 ∷ []
interleaved_past_the_end = refl
