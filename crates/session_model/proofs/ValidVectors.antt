-- Sessions at the ends of the rules are valid.
use Rattle.std.proofs.Common.{◌≡◌, [], ◌∷◌, ◌++◌, refl, map, true, Some}
use Rattle.std.specs.Prelude.{codes}
use Rattle.std.specs.List.{range_with_len}
use Rattle.session_model.specs.declared.route.RouteKind.TheVariants.{Track as OfTrack}
use Rattle.session_model.specs.Tests.{is_formed, is_valid}
use Rattle.session_model.proofs.SessionVectors.{listed, source, whole, send_to, route, master, track, session, base, t, bus, desk, with_track, numbered, stereo}

-- ---- at the ends of the rules

least_numbers : is_valid (record base { rate = 8000; block = 1; depth = 2 }) ≡ true
unfolding is_formed is_valid
least_numbers = refl

greatest_numbers : is_valid (record base { rate = 192000; block = 256; depth = 256 }) ≡ true
unfolding is_formed is_valid
greatest_numbers = refl

master_alone : is_valid (session [] (master ∷ []) []) ≡ true
unfolding is_formed is_valid
master_alone = refl

source_named_like_a_track : is_valid (record base { sources = listed (source (codes "t") ∷ []) }) ≡ true
unfolding is_formed is_valid
source_named_like_a_track = refl

last_input : is_valid (with_track (record (track 0 (whole ∷ [])) { armed = true; input = Some 7 })) ≡ true
unfolding is_formed is_valid
last_input = refl

last_stereo_input : is_valid (stereo 6) ≡ true
unfolding is_formed is_valid
last_stereo_input = refl

mono_into_stereo : is_valid (desk (t 1 ∷ record master { channels = 2 } ∷ [])) ≡ true
unfolding is_formed is_valid
mono_into_stereo = refl

sends_to_a_bus_and_the_master : is_valid (desk (record (t 2) { sends = listed (send_to 1 ∷ send_to 2 ∷ []) } ∷ bus (codes "b") 2 ∷ master ∷ [])) ≡ true
unfolding is_formed is_valid
sends_to_a_bus_and_the_master = refl

eight_sends : is_formed (desk (record (t 9) { sends = listed (map send_to (range_with_len 1 8)) } ∷ map (λ i. bus (numbered i) 9) (range_with_len 1 8) ++ master ∷ [])) ≡ true
unfolding is_formed
eight_sends = refl

most_of_all : is_formed (session (map (λ i. source (numbered i)) (range_with_len 0 64))
    (map (λ i. route (numbered i) (OfTrack i) (Some 63)) (range_with_len 0 32) ++ map (λ i. bus (numbered i) 63) (range_with_len 32 31) ++ master ∷ [])
    (map (λ i. track i []) (range_with_len 0 32))) ≡ true
unfolding is_formed
most_of_all = refl
