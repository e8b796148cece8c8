-- Sessions that each break one rule of numbers, names or the order of routes aren't valid.
use Rattle.std.proofs.Common.{◌≡◌, [], ◌∷◌, ◌++◌, refl, map, false, Some, None}
use Rattle.std.specs.Prelude.{codes}
use Rattle.std.specs.List.{range_with_len}
use Rattle.session_model.specs.declared.route.RouteKind.TheVariants.{Track as OfTrack, Master}
use Rattle.session_model.specs.Tests.{is_formed, is_valid}
use Rattle.session_model.proofs.SessionVectors.{listed, source, whole, route, master, track, session, base, a, t, bus, desk, with_track, numbered}

-- ---- the numbers of a session

rate_too_low : is_valid (record base { rate = 7999 }) ≡ false
unfolding is_formed is_valid
rate_too_low = refl

rate_too_high : is_valid (record base { rate = 192001 }) ≡ false
unfolding is_formed is_valid
rate_too_high = refl

block_of_nothing : is_valid (record base { block = 0 }) ≡ false
unfolding is_formed is_valid
block_of_nothing = refl

block_too_long : is_valid (record base { block = 4097 }) ≡ false
unfolding is_formed is_valid
block_too_long = refl

ring_of_one_item : is_valid (record base { depth = 1 }) ≡ false
unfolding is_formed is_valid
ring_of_one_item = refl

ring_too_deep : is_valid (record base { depth = 257 }) ≡ false
unfolding is_formed is_valid
ring_too_deep = refl

ring_of_too_many_frames : is_valid (record base { block = 4096; depth = 17 }) ≡ false
unfolding is_formed is_valid
ring_of_too_many_frames = refl

-- ---- how many there are

too_many_sources : is_valid (record base { sources = listed (a ∷ map (λ i. source (numbered i)) (range_with_len 0 64)) }) ≡ false
unfolding is_formed is_valid
too_many_sources = refl

too_many_tracks : is_valid (session [] (map (λ i. route (numbered i) (OfTrack i) (Some 33)) (range_with_len 0 33) ++ master ∷ []) (map (λ i. track i []) (range_with_len 0 33))) ≡ false
unfolding is_formed is_valid
too_many_tracks = refl

too_many_routes : is_valid (session [] (map (λ i. bus (numbered i) 64) (range_with_len 0 64) ++ master ∷ []) []) ≡ false
unfolding is_formed is_valid
too_many_routes = refl

no_master : is_valid (session [] [] []) ≡ false
unfolding is_formed is_valid
no_master = refl

-- ---- names and sources

one_name_for_two_sources : is_valid (record base { sources = listed (a ∷ a ∷ []) }) ≡ false
unfolding is_formed is_valid
one_name_for_two_sources = refl

one_name_for_two_routes : is_valid (desk (t 2 ∷ bus (codes "t") 2 ∷ master ∷ [])) ≡ false
unfolding is_formed is_valid
one_name_for_two_routes = refl

source_of_no_channel : is_valid (record base { sources = listed (a ∷ record (source (codes "b")) { channels = 0 } ∷ []) }) ≡ false
unfolding is_formed is_valid
source_of_no_channel = refl

source_of_three_channels : is_valid (record base { sources = listed (a ∷ record (source (codes "b")) { channels = 3 } ∷ []) }) ≡ false
unfolding is_formed is_valid
source_of_three_channels = refl

-- ---- the order of routes

bus_before_a_track : is_valid (session (a ∷ []) (bus (codes "b") 2 ∷ t 2 ∷ master ∷ []) (track 1 (whole ∷ []) ∷ [])) ≡ false
unfolding is_formed is_valid
bus_before_a_track = refl

master_before_a_bus : is_valid (desk (t 1 ∷ master ∷ bus (codes "b") 1 ∷ [])) ≡ false
unfolding is_formed is_valid
master_before_a_bus = refl

two_masters : is_valid (desk (t 2 ∷ route (codes "m") Master None ∷ master ∷ [])) ≡ false
unfolding is_formed is_valid
two_masters = refl

route_of_another_track : is_valid (desk (route (codes "t") (OfTrack 1) (Some 1) ∷ master ∷ [])) ≡ false
unfolding is_formed is_valid
route_of_another_track = refl

track_of_another_route : is_valid (with_track (track 1 (whole ∷ []))) ≡ false
unfolding is_formed is_valid
track_of_another_route = refl
