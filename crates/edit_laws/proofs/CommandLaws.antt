-- What commands keep and what they leave.
use Rattle.std.proofs.Common.{◌≡◌, ℕ, zero, suc, ◌+◌, List, [], ◌∷◌, length, map, refl, ap, subst, ◌∙◌}
use Rattle.std.specs.Prelude.{true, false, not, ◌==◌, nat_le, nat_lt, Option, Some, slice_get}
use Rattle.std.specs.Option.{option_map_or}
use Rattle.std.specs.List.{list_all}
use Rattle.std.proofs.lemmas.Bool.{and_parts}
use Rattle.std.proofs.lemmas.Option.{none-some}
use Rattle.sound_model.specs.Regions.{Region}
use Rattle.sound_model.specs.Layers.{with_region}
use Rattle.session_model.specs.declared.route.RouteKind.{RouteKind}
use Rattle.session_model.specs.declared.route.RouteKind.TheVariants.{Track as OfTrack, Bus, Master}
use Rattle.session_model.specs.declared.route.Route.{Route}
use Rattle.session_model.specs.declared.track.Track.{Track}
use Rattle.session_model.specs.declared.session.Session.{Session}
use Rattle.session_model.specs.declared.edit.Edit.{Edit}
use Rattle.session_model.specs.declared.edit.Edit.TheVariants as edit
use Rattle.session_model.specs.Formed.{channels_at}
use Rattle.session_model.specs.Playlist.{has_region, without_region}
use Rattle.session_model.specs.Views.{is_soloed, routes_of, route_of, track_regions}
use Rattle.engine_model.specs.Transport.{Wrap}
use Rattle.engine_model.specs.Edits.{region_track, is_named, keeps_forms}
use Rattle.engine_model.specs.Refusals.{Regions, Limit, RegionTwice, Gain, Far, Channels, Fades, refused_if}
use Rattle.engine_model.specs.Changes.{Change, RegionPut, RegionTaken, changed_at, with_track, made}
use Rattle.engine_model.specs.Commands.{ends_far, is_loud, track_at, source_at, region_at, source_channels, change_of}
use Rattle.engine_laws.proofs.CheckedLemmas.{WhereOk, after_check, where_ok}
use Rattle.engine_laws.proofs.ChangeLemmas.{same_at_each}
use Rattle.engine_laws.proofs.CommandLemmas.{untouched_stays}
use Rattle.engine_laws.proofs.SessionLemmas.{sessions_keep}
use Rattle.engine_laws.proofs.PlayedLemmas.{fixed_stands}
use Rattle.engine_laws.proofs.MixedLemmas.{genuine_pieces_make_the_block}
use Rattle.edit_laws.specs.CommandLaws.{IsWhole, EditsKeepValidity, EachEditionPlaysItsPieces, FixedStays, ARegionCommandIsHeardOnItsTrackAlone, ARouteCommandTouchesNoPlaylist, ARegionCommandLeavesTheRoutes}
use Rattle.edit_laws.proofs.MadeLemmas.{made_keeps_valid}
use Rattle.edit_laws.proofs.ResolveLemmas.{resolved_may_be_made}

edit_keeps_forms : (edits : List Edit) (k : ℕ) (edit : Edit) → list_all keeps_forms edits ≡ true → slice_get edits k ≡ Some edit → keeps_forms edit ≡ true
edit_keeps_forms [] k edit all here = cc
edit_keeps_forms (x ∷ xs) zero edit all here = let same : x ≡ edit = cc in subst (λ y. keeps_forms y ≡ true) same (and_parts (keeps_forms x) (list_all keeps_forms xs) all).0
edit_keeps_forms (x ∷ xs) (suc k) edit all here = edit_keeps_forms xs k edit (and_parts (keeps_forms x) (list_all keeps_forms xs) all).1 here

pub edits_keep_validity : EditsKeepValidity
edits_keep_validity s edits k whole forms = sessions_keep IsWhole s edits whole (λ j edit z wrap c here e before. made_keeps_valid z c before
    (resolved_may_be_made z wrap edit c before (edit_keeps_forms edits j edit forms here) e)) k

pub each_edition_plays_its_pieces : EachEditionPlaysItsPieces
each_edition_plays_its_pieces session edits samples before tracks takes r whole forms = genuine_pieces_make_the_block session edits samples before tracks takes r
    (edits_keep_validity session edits r whole forms).valid

pub fixed_stays : FixedStays
fixed_stays s edits k = fixed_stands s edits k

pub a_region_command_is_heard_on_its_track_alone : ARegionCommandIsHeardOnItsTrackAlone
a_region_command_is_heard_on_its_track_alone s wrap edit c t e untouched = untouched_stays s wrap edit c t e untouched

pub a_route_command_touches_no_playlist : ARouteCommandTouchesNoPlaylist
a_route_command_touches_no_playlist s wrap edit c t e none = untouched_stays s wrap edit c t e (ap (λ o. option_map_or (is_named s t) o false) none)

-- a route is soloed as its track is, which a change of the playlist leaves
solo_stays : (f : Track → Track) (u : ℕ) (ks : List Track) → ((k : Track) → (f k).solo ≡ k.solo) → (kind : RouteKind) → is_soloed (changed_at f u ks) kind ≡ is_soloed ks kind
solo_stays f u ks same (OfTrack t) = same_at_each (λ k. k.solo) false f same u t ks
solo_stays f u ks same Bus = refl
solo_stays f u ks same Master = refl

same_solos : (s : Session) (u : ℕ) (f : Track → Track) → ((k : Track) → (f k).solo ≡ k.solo) → routes_of (with_track f u s) ≡ routes_of s
same_solos s u f same = by_list s.routes.items
  where
    by_list : (qs : List Route) → map (route_of (changed_at f u s.tracks.items)) qs ≡ map (route_of s.tracks.items) qs
    by_list [] = refl
    by_list (q ∷ qs) = ap (λ x. x ∷ map (route_of (changed_at f u s.tracks.items)) qs) (ap (λ b. record (route_of s.tracks.items q) { soloed = b }) (solo_stays f u s.tracks.items same q.kind))
        ∙ ap (λ xs. route_of s.tracks.items q ∷ xs) (by_list qs)

-- the change leaves the routes
abbrev LeavesRoutes : Session → Change → Type 0
LeavesRoutes s c = ((made s c).routes ≡ s.routes) × (routes_of (made s c) ≡ routes_of s)

put_leaves : (s : Session) (t : ℕ) (r : Region) → LeavesRoutes s (RegionPut t r)
put_leaves s t r = (refl, same_solos s t (λ k. record k { list = with_region r (without_region k.list r.id) }) (λ k. refl))

taken_leaves : (s : Session) (t id : ℕ) → LeavesRoutes s (RegionTaken t id)
taken_leaves s t id = (refl, same_solos s t (λ k. record k { list = without_region k.list id }) (λ k. refl))

region_leaves : (s : Session) (wrap : Option Wrap) (edit : Edit) (name : List ℕ) → region_track edit ≡ Some name → WhereOk (LeavesRoutes s) (change_of s wrap edit)
region_leaves s wrap (edit.Add track id source start long place layer) name is = after_check _ (track_at s track) _ (λ t at.
    after_check _ (refused_if (has_region (track_regions s t) id) (RegionTwice id)) _ (λ x e. after_check _ (source_at s source) _
    (λ from there. after_check _ (refused_if (not (source_channels s from == channels_at s t)) (Channels track)) _ (λ y f. after_check _ (refused_if (ends_far start long) (Far start)) _
    (λ z g. after_check _ (refused_if (ends_far place long) (Far place)) _ (λ u h. after_check _ (refused_if (nat_le 256 (length (track_regions s t))) (Limit Regions)) _
    (λ v i. put_leaves s t _)))))))
region_leaves s wrap (edit.Remove track id) name is = after_check _ (track_at s track) _ (λ t at. after_check _ (region_at s t id) _ (λ r there. taken_leaves s t id))
region_leaves s wrap (edit.Move track id place) name is = after_check _ (track_at s track) _ (λ t at. after_check _ (region_at s t id) _ (λ r there.
    after_check _ (refused_if (ends_far place r.long) (Far place)) _ (λ x e. put_leaves s t _)))
region_leaves s wrap (edit.Trim track id start long) name is = after_check _ (track_at s track) _ (λ t at. after_check _ (region_at s t id) _ (λ r there.
    after_check _ (refused_if (ends_far start long) (Far start)) _ (λ x e. after_check _ (refused_if (ends_far r.at long) (Far r.at)) _
    (λ y f. after_check _ (refused_if (nat_lt long (r.fade_in + r.fade_out)) (Fades id)) _ (λ z g. put_leaves s t _)))))
region_leaves s wrap (edit.Layer track id layer) name is = after_check _ (track_at s track) _ (λ t at. after_check _ (region_at s t id) _ (λ r there. put_leaves s t _))
region_leaves s wrap (edit.Opaque track id on) name is = after_check _ (track_at s track) _ (λ t at. after_check _ (region_at s t id) _ (λ r there. put_leaves s t _))
region_leaves s wrap (edit.RegionGain track id gain) name is = after_check _ (track_at s track) _ (λ t at. after_check _ (region_at s t id) _ (λ r there.
    after_check _ (refused_if (is_loud gain) (Gain gain)) _ (λ x e. put_leaves s t _)))
region_leaves s wrap (edit.Fade track id fade_in fade_out) name is = after_check _ (track_at s track) _ (λ t at. after_check _ (region_at s t id) _ (λ r there.
    after_check _ (refused_if (nat_lt r.long (fade_in + fade_out)) (Fades id)) _ (λ x e. put_leaves s t _)))
region_leaves s wrap (edit.Shape track id shape_in shape_out) name is = after_check _ (track_at s track) _ (λ t at. after_check _ (region_at s t id) _ (λ r there. put_leaves s t _))
region_leaves s wrap _ name is = absurd (none-some name is)

pub a_region_command_leaves_the_routes : ARegionCommandLeavesTheRoutes
a_region_command_leaves_the_routes s wrap edit c track e named = where_ok (LeavesRoutes s) (change_of s wrap edit) c (region_leaves s wrap edit track named) e
