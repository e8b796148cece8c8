-- What commands change of worked sessions, and which rule refuses them. The first rule that is broken is named.
use Rattle.std.proofs.Common.{◌≡◌, ℕ, suc, ◌++◌, ◌+◌, List, [], ◌∷◌, refl, true, false, codes, map, Some, None, Ok, Err, replicate}
use Rattle.std.specs.Prelude.{is_ok}
use Rattle.std.specs.List.{range_with_len}
use Rattle.sound_model.specs.Regions as sound
use Rattle.sound_model.specs.Regions.{Region}
use Rattle.sound_model.specs.Lanes.{Point}
use Rattle.sound_model.specs.Reach.{reaches, reaches_below}
use Rattle.ses_units.specs.declared.mode.Mode.TheVariants.{Play as ByLane}
use Rattle.ses_units.specs.declared.shape.Shape.TheVariants.{Linear, Slow}
use Rattle.session_model.specs.declared.route.SendLink.{SendLink}
use Rattle.session_model.specs.declared.route.Route.{Route}
use Rattle.session_model.specs.declared.route.RouteKind.TheVariants.{Track as OfTrack, Bus}
use Rattle.session_model.specs.declared.session.Session.{Session}
use Rattle.session_model.specs.declared.edit.Edit.{Edit}
use Rattle.session_model.specs.declared.edit.Edit.TheVariants.{Roll, Stop, Quit, Recording, Locate, Loop, LoopOff, Arm, Solo, Mute, Gain, Pan, Mode, Point as SetPoint, Unpoint, Connect, Send, Unsend, Add, Remove, Move, Trim, Layer, Opaque, RegionGain, Fade, Shape}
use Rattle.session_model.proofs.SessionVectors.{base, listed, session, source, route, master, track, whole}
use Rattle.engine_model.specs.Refusals as refusal
use Rattle.engine_model.specs.Refusals.{Checked, Refusal, Limit, Edits, Points, Sends, Regions, NoRoute, NotTrack, NotBus, NoSource, NoRegion, RegionTwice, NoInput, OnMaster, Far, LoopEmpty, NoLoop, NoPoint, NoSend, Channels, Cycle, Fades}
use Rattle.engine_model.specs.Changes.{Change, TransportOnly, Armed, Soloed, Muted, Faded, Panned, InMode, PointSet, PointUnset, Leads, SendSet, SendUnset, RegionPut, RegionTaken, made, with_send, without_send}
use Rattle.engine_model.specs.Commands.{change_of, added}
use Rattle.engine_model.specs.Editions.{opening, edition, apply}

-- ---- a session with busses: track `t`, stereo track `w` without an input, mono busses `b1` and `b2`, stereo bus `s`

bus : List ℕ → ℕ → ℕ → Route
bus name channels to = record (route name Bus (Some to)) { channels = channels }

desk : Session
desk = session (source (codes "a") ∷ record (source (codes "d")) { channels = 2 } ∷ [])
    (route (codes "t") (OfTrack 0) (Some 3) ∷ record (route (codes "w") (OfTrack 1) (Some 5)) { channels = 2 }
    ∷ bus (codes "b1") 1 5 ∷ bus (codes "b2") 1 2 ∷ bus (codes "s") 2 5 ∷ record master { channels = 2 } ∷ [])
    (track 0 (whole ∷ []) ∷ record (track 1 []) { input = None } ∷ [])

-- what a command changes where no loop is in force
in_desk : Edit → Checked Change
in_desk edit = change_of desk None edit

-- ---- the transport

transport_alone : map (change_of base None) (Roll ∷ Stop ∷ Quit ∷ Recording true ∷ Locate 1099511627775 ∷ Loop 4 5 ∷ []) ≡ replicate 6 (Ok TransportOnly)
transport_alone = refl

loops_are_refused : map (change_of base None) (Locate 1099511627776 ∷ Loop 1099511627776 1099511627776 ∷ Loop 0 1099511627777 ∷ Loop 5 5 ∷ LoopOff ∷ [])
    ≡ Err (Far 1099511627776) ∷ Err (Far 1099511627776) ∷ Err (Far 1099511627777) ∷ Err LoopEmpty ∷ Err NoLoop ∷ []
loops_are_refused = refl

loop_off_ends_a_loop : change_of base (Some (record { from = 2; to = 5 })) LoopOff ≡ Ok TransportOnly
loop_off_ends_a_loop = refl

-- no edit is after 10,000, whatever it asks; the last one may be any
full_is_refused : apply (record (opening base) { number = 10000 }) Roll ≡ Err (Limit Edits)
full_is_refused = refl

full_comes_first : apply (record (opening base) { number = 10000 }) (Gain (codes "nobody") 0) ≡ Err (Limit Edits)
full_comes_first = refl

one_before_is_full : is_ok (apply (record (opening base) { number = 9999 }) Roll) ≡ true
one_before_is_full = refl

-- ---- tracks and routes

tracks_change : map in_desk (Arm (codes "t") true ∷ Arm (codes "w") false ∷ Solo (codes "w") true ∷ []) ≡ Ok (Armed 0 true) ∷ Ok (Armed 1 false) ∷ Ok (Soloed 1 true) ∷ []
unfolding in_desk desk bus
tracks_change = refl

tracks_are_refused : map in_desk (Arm (codes "w") true ∷ Arm (codes "b1") true ∷ Arm (codes "x") true ∷ Solo (codes "master") true ∷ Solo (codes "a") true ∷ [])
    ≡ Err (NoInput (codes "w")) ∷ Err (NotTrack (codes "b1")) ∷ Err (NoRoute (codes "x")) ∷ Err (NotTrack (codes "master")) ∷ Err (NoRoute (codes "a")) ∷ []
unfolding in_desk desk bus
tracks_are_refused = refl

routes_change : map in_desk (Mute (codes "master") true ∷ Gain (codes "b1") 262144 ∷ Pan (codes "t") 0 65536 ∷ Mode (codes "s") ByLane ∷ [])
    ≡ Ok (Muted 5 true) ∷ Ok (Faded 2 262144) ∷ Ok (Panned 0 0 65536) ∷ Ok (InMode 4 ByLane) ∷ []
unfolding in_desk desk bus
routes_change = refl

routes_are_refused : map in_desk (Mute (codes "x") true ∷ Gain (codes "x") 262145 ∷ Gain (codes "t") 262145 ∷ Pan (codes "master") 262145 0 ∷ Pan (codes "t") 262145 262146 ∷ Pan (codes "t") 0 262146 ∷ [])
    ≡ Err (NoRoute (codes "x")) ∷ Err (NoRoute (codes "x")) ∷ Err (refusal.Gain 262145) ∷ Err OnMaster ∷ Err (refusal.Gain 262145) ∷ Err (refusal.Gain 262146) ∷ []
unfolding in_desk desk bus
routes_are_refused = refl

-- ---- lanes

points : ℕ → List Point
points n = map (λ k. record { at = k; gain = 0 }) (range_with_len 0 n)

-- a session whose one track has so many points
with_lane : ℕ → Session
with_lane n = session (source (codes "a") ∷ []) (record (route (codes "t") (OfTrack 0) (Some 1)) { lane = points n } ∷ master ∷ []) (track 0 [] ∷ [])

lanes_change : map (change_of (with_lane 3) None) (SetPoint (codes "t") 9 7 ∷ SetPoint (codes "t") 1 7 ∷ Unpoint (codes "t") 2 ∷ [])
    ≡ Ok (PointSet 0 (record { at = 9; gain = 7 })) ∷ Ok (PointSet 0 (record { at = 1; gain = 7 })) ∷ Ok (PointUnset 0 2) ∷ []
unfolding with_lane points
lanes_change = refl

lanes_are_refused : map (change_of (with_lane 3) None) (SetPoint (codes "t") 1099511627776 262145 ∷ SetPoint (codes "t") 0 262145 ∷ Unpoint (codes "t") 3 ∷ [])
    ≡ Err (Far 1099511627776) ∷ Err (refusal.Gain 262145) ∷ Err (NoPoint 3) ∷ []
unfolding with_lane points
lanes_are_refused = refl

-- 1,024 points are all that a lane has; a point in place of one of them is none more
a_full_lane : map (change_of (with_lane 1024) None) (SetPoint (codes "t") 1024 0 ∷ SetPoint (codes "t") 1023 1 ∷ [])
    ≡ Err (Limit Points) ∷ Ok (PointSet 0 (record { at = 1023; gain = 1 })) ∷ []
unfolding with_lane points
a_full_lane = refl

-- ---- outputs and sends

links_change : map in_desk (Connect (codes "b1") (codes "master") ∷ Connect (codes "t") (codes "b1") ∷ Connect (codes "t") (codes "b2") ∷ Send (codes "t") (codes "b1") true 0
    ∷ Send (codes "b2") (codes "b1") false 65536 ∷ [])
    ≡ Ok (Leads 2 5) ∷ Ok (Leads 0 2) ∷ Ok (Leads 0 3) ∷ Ok (SendSet 0 (record { to = 2; pre = true; gain = 0 })) ∷ Ok (SendSet 3 (record { to = 2; pre = false; gain = 65536 })) ∷ []
unfolding in_desk desk bus reaches reaches_below
links_change = refl

-- b2 leads to b1, so that b1 can't lead to b2
cycle_refused : in_desk (Connect (codes "b1") (codes "b2")) ≡ Err (Cycle (codes "b1"))
unfolding in_desk desk bus reaches reaches_below
cycle_refused = refl

to_itself : in_desk (Connect (codes "b1") (codes "b1")) ≡ Err (Cycle (codes "b1"))
unfolding in_desk desk bus reaches reaches_below
to_itself = refl

links_are_refused : map in_desk (Connect (codes "x") (codes "t") ∷ Connect (codes "master") (codes "x") ∷ Connect (codes "t") (codes "x") ∷ Connect (codes "t") (codes "w")
    ∷ Connect (codes "w") (codes "b1") ∷ Send (codes "master") (codes "b1") true 0 ∷ Send (codes "w") (codes "b1") true 262145 ∷ Send (codes "w") (codes "b1") true 0
    ∷ Send (codes "b1") (codes "b2") true 0 ∷ Unsend (codes "t") (codes "x") ∷ Unsend (codes "t") (codes "w") ∷ Unsend (codes "master") (codes "x") ∷ [])
    ≡ Err (NoRoute (codes "x")) ∷ Err OnMaster ∷ Err (NoRoute (codes "x")) ∷ Err (NotBus (codes "w")) ∷ Err (Channels (codes "w")) ∷ Err OnMaster ∷ Err (refusal.Gain 262145)
    ∷ Err (Channels (codes "w")) ∷ Err (Cycle (codes "b1")) ∷ Err (NoRoute (codes "x")) ∷ Err (NoSend (codes "w")) ∷ Err OnMaster ∷ []
unfolding in_desk desk bus reaches reaches_below
links_are_refused = refl

link : ℕ → ℕ → SendLink
link to gain = record { to = to; pre = true; gain = gain }

-- a send in place of another keeps its place, a new one stands last
sends_keep_their_place : with_send (link 2 9) (link 1 0 ∷ link 2 0 ∷ link 3 0 ∷ []) ≡ link 1 0 ∷ link 2 9 ∷ link 3 0 ∷ []
unfolding link
sends_keep_their_place = refl

a_new_send_is_last : with_send (link 4 9) (link 1 0 ∷ link 2 0 ∷ []) ≡ link 1 0 ∷ link 2 0 ∷ link 4 9 ∷ []
unfolding link
a_new_send_is_last = refl

one_send_less : without_send 2 (link 1 0 ∷ link 2 0 ∷ link 3 0 ∷ []) ≡ link 1 0 ∷ link 3 0 ∷ []
unfolding link
one_send_less = refl

-- eight sends, to the busses at places 1 to 8, are all that a route has
many_sends : Session
many_sends = session [] (record (route (codes "t") (OfTrack 0) (Some 10)) { sends = listed (map (λ k. link (suc k) 0) (range_with_len 0 8)) }
    ∷ map (λ k. bus (codes "b" ++ (48 + k) ∷ []) 1 10) (range_with_len 1 9) ++ master ∷ []) (track 0 [] ∷ [])

a_ninth_send : map (change_of many_sends None) (Send (codes "t") (codes "b9") true 0 ∷ Send (codes "t") (codes "b8") true 5 ∷ Unsend (codes "t") (codes "b8") ∷ [])
    ≡ Err (Limit Sends) ∷ Ok (SendSet 0 (link 8 5)) ∷ Ok (SendUnset 0 8) ∷ []
unfolding many_sends link bus reaches reaches_below
a_ninth_send = refl

-- ---- regions

regions_change : map in_desk (Add (codes "t") 2 (codes "a") 1 2 3 4 ∷ Remove (codes "t") 1 ∷ Move (codes "t") 1 5 ∷ Trim (codes "t") 1 2 4 ∷ Layer (codes "t") 1 7 ∷ Opaque (codes "t") 1 false
    ∷ RegionGain (codes "t") 1 32768 ∷ Fade (codes "t") 1 3 5 ∷ Shape (codes "t") 1 Slow Linear ∷ [])
    ≡ map Ok (RegionPut 0 (added 2 0 1 2 3 4) ∷ RegionTaken 0 1 ∷ RegionPut 0 (record whole { at = 5 }) ∷ RegionPut 0 (record whole { start = 2; long = 4 }) ∷ RegionPut 0 (record whole { layer = 7 })
    ∷ RegionPut 0 (record whole { opaque = false }) ∷ RegionPut 0 (record whole { gain = 32768 }) ∷ RegionPut 0 (record whole { fade_in = 3; fade_out = 5 }) ∷ RegionPut 0 (record whole { shape_in = sound.Slow }) ∷ [])
unfolding in_desk desk bus
regions_change = refl

regions_are_refused : map in_desk (Add (codes "t") 1 (codes "x") 0 1 0 0 ∷ Add (codes "t") 2 (codes "x") 0 1 0 0 ∷ Add (codes "t") 2 (codes "d") 0 1 0 0 ∷ Add (codes "w") 2 (codes "a") 0 1 0 0
    ∷ Add (codes "t") 2 (codes "a") 1099511627775 2 1099511627775 0 ∷ Add (codes "s") 2 (codes "a") 0 1 0 0 ∷ Remove (codes "t") 2 ∷ Move (codes "t") 9 0 ∷ Move (codes "t") 1 1099511627769
    ∷ Trim (codes "t") 1 1099511627776 1 ∷ Trim (codes "t") 1 0 1099511627777 ∷ RegionGain (codes "t") 9 262145 ∷ RegionGain (codes "t") 1 262145 ∷ Fade (codes "t") 1 4 5 ∷ Shape (codes "t") 9 Slow Slow ∷ [])
    ≡ map Err (RegionTwice 1 ∷ NoSource (codes "x") ∷ Channels (codes "t") ∷ Channels (codes "w") ∷ Far 1099511627775 ∷ NotTrack (codes "s") ∷ NoRegion 2 ∷ NoRegion 9 ∷ Far 1099511627769
    ∷ Far 1099511627776 ∷ Far 0 ∷ NoRegion 9 ∷ refusal.Gain 262145 ∷ Fades 1 ∷ NoRegion 9 ∷ [])
unfolding in_desk desk bus
regions_are_refused = refl

-- a region may end at 2^40, and not past it
add_far : map (change_of base None) (Add (codes "t") 9 (codes "a") 0 2 1099511627775 0 ∷ Add (codes "t") 9 (codes "a") 0 1 1099511627775 0 ∷ [])
    ≡ Err (Far 1099511627775) ∷ Ok (RegionPut 0 (added 9 0 0 1 1099511627775 0)) ∷ []
add_far = refl

-- its own place is far where a region that is trimmed would end past 2^40, and its fades must have room
trims_are_refused : let s = session (source (codes "a") ∷ []) (route (codes "t") (OfTrack 0) (Some 1) ∷ master ∷ []) (track 0 (record whole { at = 1099511627768; fade_in = 2; fade_out = 3 } ∷ []) ∷ []) in
    map (change_of s None) (Trim (codes "t") 1 0 9 ∷ Trim (codes "t") 1 0 4 ∷ []) ≡ Err (Far 1099511627768) ∷ Err (Fades 1) ∷ []
trims_are_refused = refl

many_regions : Session
many_regions = session (source (codes "a") ∷ []) (route (codes "t") (OfTrack 0) (Some 1) ∷ master ∷ []) (track 0 (map (λ k. record whole { id = suc k; layer = k }) (range_with_len 0 256)) ∷ [])

a_full_playlist : change_of many_regions None (Add (codes "t") 300 (codes "a") 0 1 0 0) ≡ Err (Limit Regions)
unfolding many_regions
a_full_playlist = refl

-- ---- what a change makes of a session

-- the one region of the base's track after one edit
region_after : Edit → List Region
region_after edit = after (slices (edition base (edit ∷ []) 1).session) where
  slices : Session → List (List Region)
  slices s = map (λ k. k.list) s.tracks.items

  after : List (List Region) → List Region
  after [] = []
  after (list ∷ lists) = list

quieter_is_heard : region_after (RegionGain (codes "t") 1 32768) ≡ record whole { gain = 32768 } ∷ []
unfolding region_after
quieter_is_heard = refl

removed_is_gone : region_after (Remove (codes "t") 1) ≡ []
unfolding region_after
removed_is_gone = refl

-- a region that is added lies where its layer says
added_below : region_after (Add (codes "t") 7 (codes "a") 0 4 2 0) ≡ whole ∷ added 7 0 0 4 2 0 ∷ []
unfolding region_after
added_below = refl

refused_changes_nothing : region_after (Remove (codes "t") 2) ≡ whole ∷ []
unfolding region_after
refused_changes_nothing = refl

armed_in_the_base : map (λ k. k.armed) (edition base (Arm (codes "t") true ∷ []) 1).session.tracks.items ≡ true ∷ []
armed_in_the_base = refl

retargeted : map (λ q. q.target) (made desk (Leads 3 4)).routes.items ≡ Some 3 ∷ Some 5 ∷ Some 5 ∷ Some 4 ∷ Some 5 ∷ None ∷ []
unfolding desk bus
retargeted = refl

panned : map (λ q. q.left) (made base (Panned 0 1 2)).routes.items ++ map (λ q. q.right) (made base (Panned 0 1 2)).routes.items ≡ 1 ∷ 65536 ∷ 2 ∷ 65536 ∷ []
panned = refl
