-- What an accepted command changes may be changed.
use Rattle.std.proofs.Common.{◌≡◌, inr, ℕ, ◌+◌, ◌^◌, ◌≤◌, length, refl, sym, arith}
use Rattle.std.specs.Prelude.{Bool, true, false, not, ◌&&◌, ◌==◌, nat_le, nat_lt, Option, Ok, is_none, find}
use Rattle.std.proofs.lemmas.Bool.{true≢false, and_parts, not-false, ltb-false, leb-true, leb-false}
use Rattle.sound_model.specs.Regions.{Region}
use Rattle.ses_units.specs.Shape.{shape_of}
use Rattle.session_model.specs.declared.session.Session.{Session}
use Rattle.session_model.specs.declared.edit.Edit.{Edit}
use Rattle.session_model.specs.declared.edit.Edit.TheVariants as edit
use Rattle.session_model.specs.Formed.{channels_at}
use Rattle.session_model.specs.Region.{IsRegion}
use Rattle.session_model.specs.Playlist.{has_id, has_region}
use Rattle.session_model.specs.Views.{track_regions}
use Rattle.engine_model.specs.Transport.{Wrap}
use Rattle.engine_model.specs.Edits.{is_id, is_layer, keeps_forms}
use Rattle.engine_model.specs.Refusals.{Points, Sends, Regions, Limit, NoRegion, RegionTwice, NoInput, Gain, Far, LoopEmpty, NoLoop, NoPoint, NoSend, Channels, Cycle, Fades, refused_if}
use Rattle.engine_model.specs.Commands.{is_far, ends_far, is_loud, route_at, track_at, bus_at, sender_at, source_at, region_at, has_input, source_channels, narrows, closes, other_points, has_point, other_sends, has_send, added, change_of}
use Rattle.engine_model.specs.MayMake.{MayMake}
use Rattle.engine_laws.proofs.CheckedLemmas.{WhereOk, after_check, where_ok, was_found}
use Rattle.edit_laws.specs.CommandLaws.{IsWhole, ResolvedMayBeMade}
use Rattle.edit_laws.proofs.FoundLemmas.{kept, not_loud, not_far, ends_near, within_routes, within_tracks, bus_is, sender_is, may_link, find_keeps, region_is, put_again, source_is}

-- ---- the commands

input_asked : (on there : Bool) → on && not there ≡ false → on ≡ true → there ≡ true
input_asked true true h is = refl
input_asked true false h is = absurd (true≢false h)
input_asked false there h is = absurd (true≢false (sym is))

module _ (s : Session) (wrap : Option Wrap) (whole : IsWhole s) where
  may_be_made : (edit : Edit) → keeps_forms edit ≡ true → WhereOk (MayMake s) (change_of s wrap edit)
  may_be_made edit.Roll forms = tt
  may_be_made edit.Stop forms = tt
  may_be_made edit.Quit forms = tt
  may_be_made (edit.Recording on) forms = tt
  may_be_made (edit.Locate to) forms = after_check _ (refused_if (is_far to) (Far to)) _ (λ x e. tt)
  may_be_made (edit.Loop from to) forms = after_check _ (refused_if (is_far from) (Far from)) _ (λ x e. after_check _ (refused_if (is_far to) (Far to)) _
      (λ y f. after_check _ (refused_if (nat_le to from) LoopEmpty) _ (λ z g. tt)))
  may_be_made edit.LoopOff forms = after_check _ (refused_if (is_none wrap) NoLoop) _ (λ x e. tt)
  may_be_made (edit.Arm track on) forms = after_check _ (track_at s track) _ (λ t at. after_check _ (refused_if (on && not (has_input s t)) (NoInput track)) _
      (λ x e. (within_tracks s track t at, input_asked on (has_input s t) (kept (on && not (has_input s t)) (NoInput track) x e))))
  may_be_made (edit.Solo track on) forms = after_check _ (track_at s track) _ (λ t at. within_tracks s track t at)
  may_be_made (edit.Mute route on) forms = after_check _ (route_at s route) _ (λ r at. within_routes s route r at)
  may_be_made (edit.Gain route gain) forms = after_check _ (route_at s route) _ (λ r at. after_check _ (refused_if (is_loud gain) (Gain gain)) _
      (λ x e. (within_routes s route r at, not_loud gain (kept (is_loud gain) (Gain gain) x e))))
  may_be_made (edit.Pan route left right) forms = after_check _ (sender_at s route) _ (λ r at. after_check _ (refused_if (is_loud left) (Gain left)) _
      (λ x e. after_check _ (refused_if (is_loud right) (Gain right)) _
      (λ y f. (sender_is s route r at, not_loud left (kept (is_loud left) (Gain left) x e), not_loud right (kept (is_loud right) (Gain right) y f)))))
  may_be_made (edit.Mode route mode) forms = after_check _ (route_at s route) _ (λ r at. within_routes s route r at)
  may_be_made (edit.Point route place gain) forms = after_check _ (route_at s route) _ (λ r at. after_check _ (refused_if (is_far place) (Far place)) _
      (λ x e. after_check _ (refused_if (is_loud gain) (Gain gain)) _ (λ y f. after_check _ (refused_if (nat_le 1024 (other_points s r place)) (Limit Points)) _
      (λ z g. (
        within_routes s route r at,
        not_far place (kept (is_far place) (Far place) x e),
        not_loud gain (kept (is_loud gain) (Gain gain) y f),
        leb-false 1024 (other_points s r place) (kept (nat_le 1024 (other_points s r place)) (Limit Points) z g),
      )))))
  may_be_made (edit.Unpoint route place) forms = after_check _ (route_at s route) _ (λ r at. after_check _ (refused_if (not (has_point s r place)) (NoPoint place)) _
      (λ x e. (within_routes s route r at, not-false (has_point s r place) (kept (not (has_point s r place)) (NoPoint place) x e))))
  may_be_made (edit.Connect route target) forms = after_check _ (sender_at s route) _ (λ r at. after_check _ (bus_at s target) _ (λ to there.
      after_check _ (refused_if (narrows s r to) (Channels route)) _ (λ x e. after_check _ (refused_if (closes s r to) (Cycle route)) _
      (λ y f. may_link s r to (sender_is s route r at) (bus_is s target to there) (kept (narrows s r to) (Channels route) x e) (kept (closes s r to) (Cycle route) y f)))))
  may_be_made (edit.Send route target pre gain) forms = after_check _ (sender_at s route) _ (λ r at. after_check _ (bus_at s target) _ (λ to there.
      after_check _ (refused_if (is_loud gain) (Gain gain)) _ (λ w d. after_check _ (refused_if (narrows s r to) (Channels route)) _
      (λ x e. after_check _ (refused_if (closes s r to) (Cycle route)) _ (λ y f. after_check _ (refused_if (nat_le 8 (other_sends s r to)) (Limit Sends)) _
      (λ z g. (
        may_link s r to (sender_is s route r at) (bus_is s target to there) (kept (narrows s r to) (Channels route) x e) (kept (closes s r to) (Cycle route) y f),
        not_loud gain (kept (is_loud gain) (Gain gain) w d),
        leb-false 8 (other_sends s r to) (kept (nat_le 8 (other_sends s r to)) (Limit Sends) z g),
      )))))))
  may_be_made (edit.Unsend route target) forms = after_check _ (sender_at s route) _ (λ r at. after_check _ (route_at s target) _ (λ to there.
      after_check _ (refused_if (not (has_send s r to)) (NoSend target)) _ (λ x e. (sender_is s route r at, not-false (has_send s r to) (kept (not (has_send s r to)) (NoSend target) x e)))))
  may_be_made (edit.Add track id source start long place layer) forms = after_check _ (track_at s track) _ (λ t at.
      after_check _ (refused_if (has_region (track_regions s t) id) (RegionTwice id)) _ (λ x e. after_check _ (source_at s source) _
      (λ from there. after_check _ (refused_if (not (source_channels s from == channels_at s t)) (Channels track)) _ (λ y f. after_check _ (refused_if (ends_far start long) (Far start)) _
      (λ z g. after_check _ (refused_if (ends_far place long) (Far place)) _ (λ u h. after_check _ (refused_if (nat_le 256 (length (track_regions s t))) (Limit Regions)) _
      (λ v i. record {
        track = within_tracks s track t at;
        limits = added_limits (ends_near start long (kept (ends_far start long) (Far start) z g)) (ends_near place long (kept (ends_far place long) (Far place) u h));
        source = source_is s source from (channels_at s t) there (kept (not (source_channels s from == channels_at s t)) (Channels track) y f);
        room = inr (leb-false 256 (length (track_regions s t)) (kept (nat_le 256 (length (track_regions s t))) (Limit Regions) v i));
      })))))))
    where
      added_limits : {from : ℕ} → start + long ≤ 2 ^ 40 → place + long ≤ 2 ^ 40 → IsRegion (added id from start long place layer)
      added_limits near_source near = let parts = and_parts (is_id id && nat_le 1 long) (is_layer layer) forms in let firsts = and_parts (is_id id) (nat_le 1 long) parts.0 in
          let ids = and_parts (nat_le 1 id) (nat_le id 999999) firsts.0 in let some = leb-true 1 long firsts.1 in record {
            id_least = leb-true 1 id ids.0;
            id_most = leb-true id 999999 ids.1;
            start = omega (arith, some, near_source);
            some = some;
            long = omega (arith, near_source);
            source_end = near_source;
            end = near;
            layer = leb-true layer 65535 parts.1;
            gain = omega arith;
            fades = omega arith;
          }
  may_be_made (edit.Remove track id) forms = after_check _ (track_at s track) _ (λ t at. after_check _ (region_at s t id) _ (λ r there.
      (within_tracks s track t at, found_region t r there)))
    where
      found_region : (t : ℕ) (r : Region) → region_at s t id ≡ Ok r → has_region (track_regions s t) id ≡ true
      found_region t r e = (find_keeps (λ x. Unit {0}) id (track_regions s t) r (λ k d l. tt) (was_found (NoRegion id) (find (has_id id) (track_regions s t)) r e)).2
  may_be_made (edit.Move track id place) forms = after_check _ (track_at s track) _ (λ t at. after_check _ (region_at s t id) _ (λ r there.
      after_check _ (refused_if (ends_far place r.long) (Far place)) _ (λ x e. let is = region_is s t id r whole (within_tracks s track t at) there in
      put_again s t id r (record r { at = place }) is refl refl (record {
        id_least = is.limits.id_least;
        id_most = is.limits.id_most;
        start = is.limits.start;
        some = is.limits.some;
        long = is.limits.long;
        source_end = is.limits.source_end;
        end = ends_near place r.long (kept (ends_far place r.long) (Far place) x e);
        layer = is.limits.layer;
        gain = is.limits.gain;
        fades = is.limits.fades;
      }))))
  may_be_made (edit.Trim track id start long) forms = after_check _ (track_at s track) _ (λ t at. after_check _ (region_at s t id) _ (λ r there.
      after_check _ (refused_if (ends_far start long) (Far start)) _ (λ x e. after_check _ (refused_if (ends_far r.at long) (Far r.at)) _
      (λ y f. after_check _ (refused_if (nat_lt long (r.fade_in + r.fade_out)) (Fades id)) _ (λ z g. let is = region_is s t id r whole (within_tracks s track t at) there in
      put_again s t id r (record r { start = start; long = long }) is refl refl (trimmed r is.limits (ends_near start long (kept (ends_far start long) (Far start) x e))
      (ends_near r.at long (kept (ends_far r.at long) (Far r.at) y f)) (ltb-false long (r.fade_in + r.fade_out) (kept (nat_lt long (r.fade_in + r.fade_out)) (Fades id) z g))))))))
    where
      trimmed : (r : Region) → IsRegion r → start + long ≤ 2 ^ 40 → r.at + long ≤ 2 ^ 40 → r.fade_in + r.fade_out ≤ long → IsRegion (record r { start = start; long = long })
      trimmed r h near_source near fades = let some = leb-true 1 long (and_parts (is_id id) (nat_le 1 long) forms).1 in record {
        id_least = h.id_least;
        id_most = h.id_most;
        start = omega (arith, some, near_source);
        some = some;
        long = omega (arith, near_source);
        source_end = near_source;
        end = near;
        layer = h.layer;
        gain = h.gain;
        fades = fades;
      }
  may_be_made (edit.Layer track id layer) forms = after_check _ (track_at s track) _ (λ t at. after_check _ (region_at s t id) _ (λ r there.
      let is = region_is s t id r whole (within_tracks s track t at) there in
      put_again s t id r (record r { layer = layer }) is refl refl (record {
        id_least = is.limits.id_least;
        id_most = is.limits.id_most;
        start = is.limits.start;
        some = is.limits.some;
        long = is.limits.long;
        source_end = is.limits.source_end;
        end = is.limits.end;
        layer = leb-true layer 65535 (and_parts (is_id id) (is_layer layer) forms).1;
        gain = is.limits.gain;
        fades = is.limits.fades;
      })))
  may_be_made (edit.Opaque track id on) forms = after_check _ (track_at s track) _ (λ t at. after_check _ (region_at s t id) _ (λ r there.
      let is = region_is s t id r whole (within_tracks s track t at) there in
      put_again s t id r (record r { opaque = on }) is refl refl (record {
        id_least = is.limits.id_least;
        id_most = is.limits.id_most;
        start = is.limits.start;
        some = is.limits.some;
        long = is.limits.long;
        source_end = is.limits.source_end;
        end = is.limits.end;
        layer = is.limits.layer;
        gain = is.limits.gain;
        fades = is.limits.fades;
      })))
  may_be_made (edit.RegionGain track id gain) forms = after_check _ (track_at s track) _ (λ t at. after_check _ (region_at s t id) _ (λ r there.
      after_check _ (refused_if (is_loud gain) (Gain gain)) _ (λ x e. let is = region_is s t id r whole (within_tracks s track t at) there in
      put_again s t id r (record r { gain = gain }) is refl refl (record {
        id_least = is.limits.id_least;
        id_most = is.limits.id_most;
        start = is.limits.start;
        some = is.limits.some;
        long = is.limits.long;
        source_end = is.limits.source_end;
        end = is.limits.end;
        layer = is.limits.layer;
        gain = not_loud gain (kept (is_loud gain) (Gain gain) x e);
        fades = is.limits.fades;
      }))))
  may_be_made (edit.Fade track id fade_in fade_out) forms = after_check _ (track_at s track) _ (λ t at. after_check _ (region_at s t id) _ (λ r there.
      after_check _ (refused_if (nat_lt r.long (fade_in + fade_out)) (Fades id)) _ (λ x e. let is = region_is s t id r whole (within_tracks s track t at) there in
      put_again s t id r (record r { fade_in = fade_in; fade_out = fade_out }) is refl refl (record {
        id_least = is.limits.id_least;
        id_most = is.limits.id_most;
        start = is.limits.start;
        some = is.limits.some;
        long = is.limits.long;
        source_end = is.limits.source_end;
        end = is.limits.end;
        layer = is.limits.layer;
        gain = is.limits.gain;
        fades = ltb-false r.long (fade_in + fade_out) (kept (nat_lt r.long (fade_in + fade_out)) (Fades id) x e);
      }))))
  may_be_made (edit.Shape track id shape_in shape_out) forms = after_check _ (track_at s track) _ (λ t at. after_check _ (region_at s t id) _ (λ r there.
      let is = region_is s t id r whole (within_tracks s track t at) there in
      put_again s t id r (record r { shape_in = shape_of shape_in; shape_out = shape_of shape_out }) is refl refl (record {
        id_least = is.limits.id_least;
        id_most = is.limits.id_most;
        start = is.limits.start;
        some = is.limits.some;
        long = is.limits.long;
        source_end = is.limits.source_end;
        end = is.limits.end;
        layer = is.limits.layer;
        gain = is.limits.gain;
        fades = is.limits.fades;
      })))

pub resolved_may_be_made : ResolvedMayBeMade
resolved_may_be_made s wrap edit c whole forms e = where_ok (MayMake s) (change_of s wrap edit) c (may_be_made s wrap whole edit forms) e
