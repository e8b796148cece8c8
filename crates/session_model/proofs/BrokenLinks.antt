-- Sessions that each break one rule of the master, of outputs, sends and channels, or of tracks aren't valid.
use Rattle.std.proofs.Common.{◌≡◌, [], ◌∷◌, ◌++◌, refl, map, true, false, Some, None}
use Rattle.std.specs.Prelude.{codes}
use Rattle.std.specs.List.{range_with_len}
use Rattle.session_model.specs.declared.route.RouteKind.TheVariants.{Track as OfTrack, Bus}
use Rattle.session_model.specs.Tests.{is_formed, is_valid}
use Rattle.session_model.proofs.SessionVectors.{listed, whole, send_to, route, master, track, session, base, a, t, bus, desk, with_track, numbered, stereo}

-- ---- the master

master_of_another_name : is_valid (desk (t 1 ∷ record master { name = codes "main" } ∷ [])) ≡ false
unfolding is_formed is_valid
master_of_another_name = refl

master_with_a_left_gain : is_valid (desk (t 1 ∷ record master { left = 0 } ∷ [])) ≡ false
unfolding is_formed is_valid
master_with_a_left_gain = refl

master_with_a_right_gain : is_valid (desk (t 1 ∷ record master { right = 65537 } ∷ [])) ≡ false
unfolding is_formed is_valid
master_with_a_right_gain = refl

master_with_an_output : is_valid (desk (t 2 ∷ bus (codes "b") 2 ∷ record master { target = Some 1 } ∷ [])) ≡ false
unfolding is_formed is_valid
master_with_an_output = refl

master_with_a_send : is_valid (desk (t 2 ∷ bus (codes "b") 2 ∷ record master { sends = listed (send_to 1 ∷ []) } ∷ [])) ≡ false
unfolding is_formed is_valid
master_with_a_send = refl

-- ---- outputs and sends

track_without_an_output : is_valid (desk (route (codes "t") (OfTrack 0) None ∷ master ∷ [])) ≡ false
unfolding is_formed is_valid
track_without_an_output = refl

bus_without_an_output : is_valid (desk (t 2 ∷ route (codes "b") Bus None ∷ master ∷ [])) ≡ false
unfolding is_formed is_valid
bus_without_an_output = refl

output_into_nothing : is_valid (desk (t 2 ∷ master ∷ [])) ≡ false
unfolding is_formed is_valid
output_into_nothing = refl

output_into_a_track : is_valid (session [] (t 1 ∷ route (codes "u") (OfTrack 1) (Some 2) ∷ master ∷ []) (track 0 [] ∷ track 1 [] ∷ [])) ≡ false
unfolding is_formed is_valid
output_into_a_track = refl

send_into_nothing : is_valid (desk (record (t 1) { sends = listed (send_to 2 ∷ []) } ∷ master ∷ [])) ≡ false
unfolding is_formed is_valid
send_into_nothing = refl

send_into_a_track : is_valid (session [] (record (t 2) { sends = listed (send_to 1 ∷ []) } ∷ route (codes "u") (OfTrack 1) (Some 2) ∷ master ∷ []) (track 0 [] ∷ track 1 [] ∷ [])) ≡ false
unfolding is_formed is_valid
send_into_a_track = refl

two_sends_into_one_bus : is_valid (desk (record (t 2) { sends = listed (send_to 1 ∷ send_to 1 ∷ []) } ∷ bus (codes "b") 2 ∷ master ∷ [])) ≡ false
unfolding is_formed is_valid
two_sends_into_one_bus = refl

nine_sends : is_valid (desk (record (t 10) { sends = listed (map send_to (range_with_len 1 9)) } ∷ map (λ i. bus (numbered i) 10) (range_with_len 1 9) ++ master ∷ [])) ≡ false
unfolding is_formed is_valid
nine_sends = refl

-- ---- channels

bus_of_no_channel : is_valid (desk (t 2 ∷ record (bus (codes "b") 2) { channels = 0 } ∷ master ∷ [])) ≡ false
unfolding is_formed is_valid
bus_of_no_channel = refl

master_of_three_channels : is_valid (desk (t 1 ∷ record master { channels = 3 } ∷ [])) ≡ false
unfolding is_formed is_valid
master_of_three_channels = refl

stereo_bus_into_a_mono_master : is_valid (desk (t 2 ∷ record (bus (codes "b") 2) { channels = 2 } ∷ master ∷ [])) ≡ false
unfolding is_formed is_valid
stereo_bus_into_a_mono_master = refl

stereo_send_into_a_mono_bus : is_valid (desk (t 3 ∷ bus (codes "b") 3 ∷ record (bus (codes "c") 3) { channels = 2; sends = listed (send_to 1 ∷ []) } ∷ record master { channels = 2 } ∷ [])) ≡ false
unfolding is_formed is_valid
stereo_send_into_a_mono_bus = refl

stereo_source_on_a_mono_track : is_valid (record base { sources = listed (record a { channels = 2 } ∷ []) }) ≡ false
unfolding is_formed is_valid
stereo_source_on_a_mono_track = refl

-- ---- tracks

input_past_the_last : is_valid (with_track (record (track 0 (whole ∷ [])) { input = Some 8 })) ≡ false
unfolding is_formed is_valid
input_past_the_last = refl

stereo_input_past_the_last : is_valid (stereo 7) ≡ false
unfolding is_formed is_valid
stereo_input_past_the_last = refl

armed_without_an_input : is_valid (with_track (record (track 0 (whole ∷ [])) { armed = true; input = None })) ≡ false
unfolding is_formed is_valid
armed_without_an_input = refl

region_of_no_source : is_valid (with_track (track 0 (record whole { source = 1 } ∷ []))) ≡ false
unfolding is_formed is_valid
region_of_no_source = refl

-- ---- cycles: formed, and not valid

bus_into_itself : is_valid (desk (t 2 ∷ bus (codes "b") 1 ∷ master ∷ [])) ≡ false
unfolding is_formed is_valid
bus_into_itself = refl

send_back : is_valid (desk (t 3 ∷ bus (codes "b") 2 ∷ record (bus (codes "c") 3) { sends = listed (send_to 1 ∷ []) } ∷ master ∷ [])) ≡ false
unfolding is_formed is_valid
send_back = refl

cycles_are_formed : is_formed (desk (t 3 ∷ bus (codes "b") 2 ∷ bus (codes "c") 1 ∷ master ∷ [])) ≡ true
unfolding is_formed
cycles_are_formed = refl
