-- Which playlist a command changes: that of the track which it names, or none.
use Rattle.std.proofs.Common.{◌≡◌, ℕ, List, refl, sym, ap, ◌∙◌}
use Rattle.std.specs.Prelude.{Bool, true, false, not, ◌&&◌, nat_le, nat_lt, ◌+◌, ◌==◌, Option, Some, None, Ok, length, is_none, position}
use Rattle.std.specs.Option.{option_map_or}
use Rattle.std.specs.Str.{bytes_eq}
use Rattle.std.proofs.lemmas.Bool.{true≢false}
use Rattle.session_model.specs.declared.session.Session.{Session}
use Rattle.session_model.specs.declared.edit.Edit.{Edit}
use Rattle.session_model.specs.declared.edit.Edit.TheVariants as edit
use Rattle.session_model.specs.Formed.{channels_at}
use Rattle.session_model.specs.Playlist.{has_region}
use Rattle.session_model.specs.Views.{track_regions}
use Rattle.engine_model.specs.Transport.{Wrap}
use Rattle.engine_model.specs.Edits.{region_track, is_named, touches}
use Rattle.engine_model.specs.Refusals.{Points, Sends, Regions, Limit, NoRoute, NotTrack, RegionTwice, NoInput, Gain, Far, LoopEmpty, NoLoop, NoPoint, NoSend, Channels, Cycle, Fades, refused_if}
use Rattle.engine_model.specs.Changes.{Change, made}
use Rattle.engine_model.specs.Commands.{is_far, ends_far, is_loud, route_at, is_track, track_at, bus_at, sender_at, source_at, region_at, has_input, source_channels, narrows, closes, other_points, has_point, other_sends, has_send, change_of}
use Rattle.engine_laws.proofs.CheckedLemmas.{WhereOk, after_check, where_ok, was_found, was_kept, found_there}
use Rattle.engine_laws.proofs.ChangeLemmas.{list_changed, lists_stay}

-- ---- a track by its name

pub record IsTrackOf (s : Session) (name : List ℕ) (t : ℕ) : Type 0 where
  pub named : position (λ q. bytes_eq q.name name) s.routes.items ≡ Some t
  pub track : is_track s t ≡ true

pub track_is : (s : Session) (name : List ℕ) (t : ℕ) → track_at s name ≡ Ok t → IsTrackOf s name t
track_is s name t e = where_ok (IsTrackOf s name) (track_at s name) t (after_check _ (route_at s name) _
    (λ r at. after_check _ (refused_if (not (is_track s r)) (NotTrack name)) _ (λ x kept. record {
      named = was_found (NoRoute name) (position (λ q. bytes_eq q.name name) s.routes.items) r at;
      track = unnot (is_track s r) (was_kept (not (is_track s r)) (NotTrack name) x kept);
    }))) e
  where
    unnot : (b : Bool) → not b ≡ false → b ≡ true
    unnot true h = refl
    unnot false h = absurd (true≢false h)

-- ---- the playlist of a command

-- the track that a region command names
abbrev pub track_named : Session → Edit → Option ℕ
track_named s edit = option_map_or (λ name. position (λ q. bytes_eq q.name name) s.routes.items) (region_track edit) None

abbrev IsOfIts : Session → Edit → Change → Type 0
IsOfIts s edit c = list_changed c ≡ track_named s edit

module _ (s : Session) (wrap : Option Wrap) where
  -- after the track was found
  of_track : (edit : Edit) (name : List ℕ) (t : ℕ) → track_at s name ≡ Ok t → track_named s edit ≡ position (λ q. bytes_eq q.name name) s.routes.items → Some t ≡ track_named s edit
  of_track edit name t at is = sym (track_is s name t at).named ∙ sym is

  of_its : (edit : Edit) → WhereOk (IsOfIts s edit) (change_of s wrap edit)
  of_its edit.Roll = refl
  of_its edit.Stop = refl
  of_its edit.Quit = refl
  of_its (edit.Recording on) = refl
  of_its (edit.Locate to) = after_check _ (refused_if (is_far to) (Far to)) _ (λ x e. refl)
  of_its (edit.Loop from to) = after_check _ (refused_if (is_far from) (Far from)) _ (λ x e. after_check _ (refused_if (is_far to) (Far to)) _
      (λ y f. after_check _ (refused_if (nat_le to from) LoopEmpty) _ (λ z g. refl)))
  of_its edit.LoopOff = after_check _ (refused_if (is_none wrap) NoLoop) _ (λ x e. refl)
  of_its (edit.Arm track on) = after_check _ (track_at s track) _ (λ t at. after_check _ (refused_if (on && not (has_input s t)) (NoInput track)) _ (λ x e. refl))
  of_its (edit.Solo track on) = after_check _ (track_at s track) _ (λ t at. refl)
  of_its (edit.Mute route on) = after_check _ (route_at s route) _ (λ r at. refl)
  of_its (edit.Gain route gain) = after_check _ (route_at s route) _ (λ r at. after_check _ (refused_if (is_loud gain) (Gain gain)) _ (λ x e. refl))
  of_its (edit.Pan route left right) = after_check _ (sender_at s route) _ (λ r at. after_check _ (refused_if (is_loud left) (Gain left)) _
      (λ x e. after_check _ (refused_if (is_loud right) (Gain right)) _ (λ y f. refl)))
  of_its (edit.Mode route mode) = after_check _ (route_at s route) _ (λ r at. refl)
  of_its (edit.Point route place gain) = after_check _ (route_at s route) _ (λ r at. after_check _ (refused_if (is_far place) (Far place)) _
      (λ x e. after_check _ (refused_if (is_loud gain) (Gain gain)) _ (λ y f. after_check _ (refused_if (nat_le 1024 (other_points s r place)) (Limit Points)) _ (λ z g. refl))))
  of_its (edit.Unpoint route place) = after_check _ (route_at s route) _ (λ r at. after_check _ (refused_if (not (has_point s r place)) (NoPoint place)) _ (λ x e. refl))
  of_its (edit.Connect route target) = after_check _ (sender_at s route) _ (λ r at. after_check _ (bus_at s target) _ (λ to there.
      after_check _ (refused_if (narrows s r to) (Channels route)) _ (λ x e. after_check _ (refused_if (closes s r to) (Cycle route)) _ (λ y f. refl))))
  of_its (edit.Send route target pre gain) = after_check _ (sender_at s route) _ (λ r at. after_check _ (bus_at s target) _ (λ to there.
      after_check _ (refused_if (is_loud gain) (Gain gain)) _ (λ w d. after_check _ (refused_if (narrows s r to) (Channels route)) _
      (λ x e. after_check _ (refused_if (closes s r to) (Cycle route)) _ (λ y f. after_check _ (refused_if (nat_le 8 (other_sends s r to)) (Limit Sends)) _ (λ z g. refl))))))
  of_its (edit.Unsend route target) = after_check _ (sender_at s route) _ (λ r at. after_check _ (route_at s target) _ (λ to there.
      after_check _ (refused_if (not (has_send s r to)) (NoSend target)) _ (λ x e. refl)))
  of_its (edit.Add track id source start long place layer) = after_check _ (track_at s track) _ (λ t at.
      after_check _ (refused_if (has_region (track_regions s t) id) (RegionTwice id)) _ (λ x e. after_check _ (source_at s source) _
      (λ from there. after_check _ (refused_if (not (source_channels s from == channels_at s t)) (Channels track)) _ (λ y f. after_check _ (refused_if (ends_far start long) (Far start)) _
      (λ z g. after_check _ (refused_if (ends_far place long) (Far place)) _ (λ u h. after_check _ (refused_if (nat_le 256 (length (track_regions s t))) (Limit Regions)) _
      (λ v i. of_track (edit.Add track id source start long place layer) track t at refl)))))))
  of_its (edit.Remove track id) = after_check _ (track_at s track) _ (λ t at. after_check _ (region_at s t id) _ (λ r there. of_track (edit.Remove track id) track t at refl))
  of_its (edit.Move track id place) = after_check _ (track_at s track) _ (λ t at. after_check _ (region_at s t id) _ (λ r there.
      after_check _ (refused_if (ends_far place r.long) (Far place)) _ (λ x e. of_track (edit.Move track id place) track t at refl)))
  of_its (edit.Trim track id start long) = after_check _ (track_at s track) _ (λ t at. after_check _ (region_at s t id) _ (λ r there.
      after_check _ (refused_if (ends_far start long) (Far start)) _ (λ x e. after_check _ (refused_if (ends_far r.at long) (Far r.at)) _
      (λ y f. after_check _ (refused_if (nat_lt long (r.fade_in + r.fade_out)) (Fades id)) _ (λ z g. of_track (edit.Trim track id start long) track t at refl)))))
  of_its (edit.Layer track id layer) = after_check _ (track_at s track) _ (λ t at. after_check _ (region_at s t id) _ (λ r there. of_track (edit.Layer track id layer) track t at refl))
  of_its (edit.Opaque track id on) = after_check _ (track_at s track) _ (λ t at. after_check _ (region_at s t id) _ (λ r there. of_track (edit.Opaque track id on) track t at refl))
  of_its (edit.RegionGain track id gain) = after_check _ (track_at s track) _ (λ t at. after_check _ (region_at s t id) _ (λ r there.
      after_check _ (refused_if (is_loud gain) (Gain gain)) _ (λ x e. of_track (edit.RegionGain track id gain) track t at refl)))
  of_its (edit.Fade track id fade_in fade_out) = after_check _ (track_at s track) _ (λ t at. after_check _ (region_at s t id) _ (λ r there.
      after_check _ (refused_if (nat_lt r.long (fade_in + fade_out)) (Fades id)) _ (λ x e. of_track (edit.Fade track id fade_in fade_out) track t at refl)))
  of_its (edit.Shape track id shape_in shape_out) = after_check _ (track_at s track) _ (λ t at. after_check _ (region_at s t id) _
      (λ r there. of_track (edit.Shape track id shape_in shape_out) track t at refl))

-- a command changes the playlist of the track that it names
pub changes_its : (s : Session) (wrap : Option Wrap) (edit : Edit) (c : Change) → change_of s wrap edit ≡ Ok c → list_changed c ≡ track_named s edit
changes_its s wrap edit c e = where_ok (IsOfIts s edit) (change_of s wrap edit) c (of_its s wrap edit) e

-- and touches it
named_touches : (s : Session) (t : ℕ) (o : Option (List ℕ)) → option_map_or (λ name. position (λ q. bytes_eq q.name name) s.routes.items) o None ≡ Some t →
    option_map_or (is_named s t) o false ≡ true
named_touches s t None e = cc
named_touches s t (Some name) e = let at = found_there (λ q. bytes_eq q.name name) s.routes.items t e in
    ap (λ o. option_map_or (λ q. bytes_eq q.name name) o false) at.there ∙ at.passes

pub untouched_stays : (s : Session) (wrap : Option Wrap) (edit : Edit) (c : Change) (t : ℕ) → change_of s wrap edit ≡ Ok c → touches s t edit ≡ false →
    track_regions (made s c) t ≡ track_regions s t
untouched_stays s wrap edit c t e untouched = lists_stay s c t
    (λ same. true≢false (sym (named_touches s t (region_track edit) (sym (changes_its s wrap edit c e) ∙ same)) ∙ untouched))
