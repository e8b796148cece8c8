-- A command on a track changes the same of two sessions that have the track's playlist and all that is fixed alike.
use Rattle.std.proofs.Common.{◌≡◌, ℕ, ◌+◌, List, [], ◌∷◌, length, map, refl, sym, ap, ◌∙◌, cond}
use Rattle.std.specs.Prelude.{true, not, ◌==◌, nat_le, nat_lt, Option, Some, None, Ok, Err, slice_get, find, position}
use Rattle.std.specs.Option.{option_map_or}
use Rattle.std.specs.List.{position_or_len}
use Rattle.std.specs.Str.{bytes_eq}
use Rattle.sound_model.specs.Regions.{Region}
use Rattle.ses_units.specs.Shape.{shape_of}
use Rattle.session_model.specs.declared.route.Route.{Route}
use Rattle.session_model.specs.declared.session.SourceDecl.{SourceDecl}
use Rattle.session_model.specs.declared.session.Session.{Session}
use Rattle.session_model.specs.declared.edit.Edit.{Edit}
use Rattle.session_model.specs.declared.edit.Edit.TheVariants as edit
use Rattle.session_model.specs.Formed.{channels_at}
use Rattle.session_model.specs.Playlist.{has_id, has_region}
use Rattle.session_model.specs.Views.{track_regions}
use Rattle.engine_model.specs.Transport.{Wrap}
use Rattle.engine_model.specs.Edits.{keeps_forms}
use Rattle.engine_model.specs.Fixed.{FixedRoute, fixed_of}
use Rattle.engine_model.specs.Refusals.{Regions, Limit, NoRoute, NotTrack, NoSource, NoRegion, RegionTwice, Gain, Far, Channels, Fades, Checked, ◌>>=◌, refused_if, found}
use Rattle.engine_model.specs.Changes.{Change, RegionPut, RegionTaken}
use Rattle.engine_model.specs.Commands.{ends_far, is_loud, is_track, track_at, source_at, region_at, source_channels, added, change_of}
use Rattle.engine_model.specs.MayMake.{MayMake}
use Rattle.engine_laws.proofs.ChangeLemmas.{list_changed}
use Rattle.engine_laws.proofs.CheckedLemmas.{WhereOk, after_check, where_ok}
use Rattle.engine_laws.proofs.CommandLemmas.{changes_its, track_named}
use Rattle.engine_laws.proofs.FixedLemmas.{fixed_route, many_tracks, many_routes, channels_stay}
use Rattle.edit_laws.specs.CommandLaws.{IsWhole}
use Rattle.edit_laws.proofs.ResolveLemmas.{resolved_may_be_made}

some_is : {X : Type 0} (x y : X) → Some x ≡ Some y → x ≡ y
some_is x y h = ap (λ o. option_map_or (λ z. z) o x) h

none_is_some : {X : Type 0} {C : Type 0} (x : X) → None ≡ Some x → C
none_is_some x e = cc

-- ---- a track by its name

place_by_fixed : (name : List ℕ) (qs : List Route) → position_or_len (λ (q : Route). bytes_eq q.name name) qs ≡ position_or_len (λ (q : FixedRoute). bytes_eq q.name name) (map fixed_route qs)
place_by_fixed name [] = refl
place_by_fixed name (q ∷ qs) = ap (λ n. cond (not (bytes_eq q.name name)) (1 + n) 0) (place_by_fixed name qs)

module _ (s z : Session) (same : fixed_of z ≡ fixed_of s) where
  place_same : (name : List ℕ) → position_or_len (λ (q : Route). bytes_eq q.name name) z.routes.items ≡ position_or_len (λ (q : Route). bytes_eq q.name name) s.routes.items
  place_same name = place_by_fixed name z.routes.items ∙ ap (λ x. position_or_len (λ (q : FixedRoute). bytes_eq q.name name) x.routes) same ∙ sym (place_by_fixed name s.routes.items)

  found_same : (name : List ℕ) → position (λ (q : Route). bytes_eq q.name name) z.routes.items ≡ position (λ (q : Route). bytes_eq q.name name) s.routes.items
  found_same name = ap (λ n. cond (nat_lt n (length z.routes.items)) (Some n) None) (place_same name)
      ∙ ap (λ m. let n = position_or_len (λ (q : Route). bytes_eq q.name name) s.routes.items in cond (nat_lt n m) (Some n) None) (many_routes s z same)

  track_same : (name : List ℕ) → track_at z name ≡ track_at s name
  track_same name = ap (λ o. found (NoRoute name) o >>= (λ r. refused_if (not (is_track z r)) (NotTrack name) >>= (λ track. Ok r))) (found_same name)
      ∙ ap (λ m. found (NoRoute name) (position (λ (q : Route). bytes_eq q.name name) s.routes.items) >>= (λ r. refused_if (not (nat_lt r m)) (NotTrack name) >>= (λ track. Ok r))) (many_tracks s z same)

  -- ---- a command on a track

  module _ (t : ℕ) (list : track_regions z t ≡ track_regions s t) where
    -- what follows once the track is found, in each session
    on_track : (name : List ℕ) (F G : ℕ → Checked Change) → ((u : ℕ) → WhereOk (λ c. list_changed c ≡ Some u) (G u)) → F t ≡ G t → (c : Change) →
        (track_at s name >>= G) ≡ Ok c → list_changed c ≡ Some t → (track_at z name >>= F) ≡ Ok c
    on_track name F G ends at c e of = ap (λ m. m >>= F) (track_same name) ∙ by_track (track_at s name) e
      where
        by_track : (m : Checked ℕ) → (m >>= G) ≡ Ok c → (m >>= F) ≡ Ok c
        by_track (Err why) e = cc
        by_track (Ok u) e = let its : u ≡ t = some_is u t (sym (where_ok (λ d. list_changed d ≡ Some u) (G u) c (ends u) e) ∙ of) in
            ap F its ∙ at ∙ ap G (sym its) ∙ e

    -- once its region is found
    on_region : (name : List ℕ) (id : ℕ) (G : ℕ → Region → Checked Change) → ((u : ℕ) (r : Region) → WhereOk (λ c. list_changed c ≡ Some u) (G u r)) → (c : Change) →
        (track_at s name >>= (λ u. region_at s u id >>= G u)) ≡ Ok c → list_changed c ≡ Some t → (track_at z name >>= (λ u. region_at z u id >>= G u)) ≡ Ok c
    on_region name id G ends = on_track name (λ u. region_at z u id >>= G u) (λ u. region_at s u id >>= G u) (λ u. after_check _ (region_at s u id) (G u) (λ r at. ends u r))
        (ap (λ l. found (NoRegion id) (find (has_id id) l) >>= G t) list)

    -- a region that is added, by the playlist, the sources and the channels
    abbrev adding : ℕ → List ℕ → ℕ → List ℕ → ℕ → ℕ → ℕ → ℕ → List Region → List SourceDecl → ℕ → Checked Change
    adding u track id source start long place layer rs ds many = refused_if (has_region rs id) (RegionTwice id) >>= (λ new. found (NoSource source) (position (λ d. bytes_eq d.name source) ds)
        >>= (λ from. refused_if (not (option_map_or (λ d. d.channels) (slice_get ds from) 0 == many)) (Channels track) >>= (λ fits. refused_if (ends_far start long) (Far start)
        >>= (λ near_source. refused_if (ends_far place long) (Far place) >>= (λ near. refused_if (nat_le 256 (length rs)) (Limit Regions)
        >>= (λ room. Ok (RegionPut u (added id from start long place layer))))))))

    by_command : (wrap : Option Wrap) (e : Edit) (c : Change) → list_changed c ≡ track_named s e → change_of s wrap e ≡ Ok c → list_changed c ≡ Some t → change_of z wrap e ≡ Ok c
    by_command wrap (edit.Add track id source start long place layer) c its e of = on_track track _ (λ u. adding u track id source start long place layer (track_regions s u) s.sources.items (channels_at s u))
        (λ u. after_check _ (refused_if (has_region (track_regions s u) id) (RegionTwice id)) _ (λ v a. after_check _ (source_at s source) _ (λ from b.
        after_check _ (refused_if (not (source_channels s from == channels_at s u)) (Channels track)) _ (λ w d. after_check _ (refused_if (ends_far start long) (Far start)) _ (λ x f.
        after_check _ (refused_if (ends_far place long) (Far place)) _ (λ y g. after_check _ (refused_if (nat_le 256 (length (track_regions s u))) (Limit Regions)) _ (λ q h. refl)))))))
        (ap (λ l. adding t track id source start long place layer l z.sources.items (channels_at z t)) list
        ∙ ap (λ x. adding t track id source start long place layer (track_regions s t) x.sources (channels_at z t)) same
        ∙ ap (adding t track id source start long place layer (track_regions s t) s.sources.items) (channels_stay s z same t))
        c e of
    by_command wrap (edit.Remove track id) c its e of = on_region track id (λ u r. Ok (RegionTaken u id)) (λ u r. refl) c e of
    by_command wrap (edit.Move track id place) c its e of = on_region track id (λ u r. refused_if (ends_far place r.long) (Far place) >>= (λ near. Ok (RegionPut u (record r { at = place }))))
        (λ u r. after_check _ (refused_if (ends_far place r.long) (Far place)) _ (λ x a. refl)) c e of
    by_command wrap (edit.Trim track id start long) c its e of = on_region track id
        (λ u r. refused_if (ends_far start long) (Far start) >>= (λ near_source. refused_if (ends_far r.at long) (Far r.at) >>= (λ near.
        refused_if (nat_lt long (r.fade_in + r.fade_out)) (Fades id) >>= (λ fades. Ok (RegionPut u (record r { start = start; long = long }))))))
        (λ u r. after_check _ (refused_if (ends_far start long) (Far start)) _ (λ x a. after_check _ (refused_if (ends_far r.at long) (Far r.at)) _ (λ y b.
        after_check _ (refused_if (nat_lt long (r.fade_in + r.fade_out)) (Fades id)) _ (λ v d. refl)))) c e of
    by_command wrap (edit.Layer track id layer) c its e of = on_region track id (λ u r. Ok (RegionPut u (record r { layer = layer }))) (λ u r. refl) c e of
    by_command wrap (edit.Opaque track id on) c its e of = on_region track id (λ u r. Ok (RegionPut u (record r { opaque = on }))) (λ u r. refl) c e of
    by_command wrap (edit.RegionGain track id gain) c its e of = on_region track id (λ u r. refused_if (is_loud gain) (Gain gain) >>= (λ quiet. Ok (RegionPut u (record r { gain = gain }))))
        (λ u r. after_check _ (refused_if (is_loud gain) (Gain gain)) _ (λ x a. refl)) c e of
    by_command wrap (edit.Fade track id fade_in fade_out) c its e of = on_region track id
        (λ u r. refused_if (nat_lt r.long (fade_in + fade_out)) (Fades id) >>= (λ fades. Ok (RegionPut u (record r { fade_in = fade_in; fade_out = fade_out }))))
        (λ u r. after_check _ (refused_if (nat_lt r.long (fade_in + fade_out)) (Fades id)) _ (λ x a. refl)) c e of
    by_command wrap (edit.Shape track id shape_in shape_out) c its e of = on_region track id (λ u r. Ok (RegionPut u (record r { shape_in = shape_of shape_in; shape_out = shape_of shape_out })))
        (λ u r. refl) c e of
    by_command wrap _ c its e of = none_is_some t (sym its ∙ of)

    same_change : (wrap : Option Wrap) (e : Edit) (c : Change) → change_of s wrap e ≡ Ok c → list_changed c ≡ Some t → change_of z wrap e ≡ Ok c
    same_change wrap e c is of = by_command wrap e c (changes_its s wrap e c is) is of

    -- so it may be made of the one where it may be made of the other
    pub may_be_made : (wrap : Option Wrap) (e : Edit) (c : Change) → IsWhole z → keeps_forms e ≡ true → change_of s wrap e ≡ Ok c → list_changed c ≡ Some t → MayMake z c
    may_be_made wrap e c whole forms is of = resolved_may_be_made z wrap e c whole forms (same_change wrap e c is of)
