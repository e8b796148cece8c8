-- A change of one track leaves a whole session.
use Rattle.std.proofs.Common.{◌≡◌, inl, inr, ℕ, ◌≤◌, ◌<◌, ◌⊎◌, List, [], ◌∷◌, length, refl, sym, ap, subst, ◌∙◌, arith}
use Rattle.std.specs.Prelude.{Bool, true, false, not, ◌||◌, if◌then◌else◌, Some, IsTrue, is_some, slice_get}
use Rattle.std.specs.Option.{option_map_or}
use Rattle.std.proofs.lemmas.List.Elements.{All-filter}
use Rattle.sound_model.specs.Regions.{Region}
use Rattle.sound_model.specs.Layers.{with_region}
use Rattle.session_model.specs.declared.track.Track.{Track}
use Rattle.session_model.specs.declared.session.Session.{Session}
use Rattle.session_model.specs.Formed.{channels_at, HasSource, IsFormedTrack}
use Rattle.session_model.specs.Playlist.{IsPlaylist, has_id, has_region, without_region}
use Rattle.session_model.specs.Views.{track_regions}
use Rattle.session_model.proofs.PlaylistLemmas.{All-with_region, IsPlaylist-with_region, IsPlaylist-without_region}
use Rattle.engine_model.specs.Changes.{Armed, Soloed, RegionPut, RegionTaken, with_track, made}
use Rattle.engine_model.specs.Commands.{has_input}
use Rattle.engine_model.specs.MayMake.{MayPut}
use Rattle.engine_model.specs.Fixed.{fixed_of}
use Rattle.engine_laws.proofs.FixedLemmas.{channels_stay}
use Rattle.edit_laws.specs.CommandLaws.{IsWhole}
use Rattle.edit_laws.proofs.FrameLemmas.{each_changed, all_changed, formed_by, routes_stay, track_stays, source_stays}
use Rattle.edit_laws.proofs.LinkLemmas.{no_new_cycle}

module _ (s : Session) (f : Track → Track) (t : ℕ) (whole : IsWhole s) (same : fixed_of (with_track f t s) ≡ fixed_of s) where
  abbrev Z : Session
  Z = with_track f t s

  by_track : ((k : Track) → slice_get s.tracks.items t ≡ Some k → IsFormedTrack Z t k → IsFormedTrack Z t (f k)) → ((k : Track) → slice_get s.tracks.items t ≡ Some k → IsPlaylist k.list →
      IsPlaylist (f k).list) → IsWhole Z
  by_track formed playlist = record {
    valid = record {
      formed = formed_by s Z same whole.valid.formed (routes_stay s Z same whole.valid.formed.routes)
          (each_changed (IsFormedTrack s) (IsFormedTrack Z) f t s.tracks.items (λ i k h. track_stays s Z same i k h)
          (λ k here h. formed k here (track_stays s Z same t k h)) whole.valid.formed.tracks);
      no_cycle = no_new_cycle s Z (λ from to here. here) whole.valid.no_cycle;
    };
    types = record { routes = whole.types.routes; tracks = all_changed (λ k. IsPlaylist k.list) f t s.tracks.items playlist whole.types.tracks };
  }

-- ---- a playlist without an id

none_left : (qs : List Region) (id : ℕ) → has_region (without_region qs id) id ≡ false
none_left [] id = refl
none_left (q ∷ qs) id = by_id (has_id id q) refl (none_left qs id)
  where
    by_id : (b : Bool) → has_id id q ≡ b → has_region (without_region qs id) id ≡ false → has_region (if not b then q ∷ without_region qs id else without_region qs id) id ≡ false
    by_id true e rest = rest
    by_id false e rest = ap (λ b. b || has_region (without_region qs id) id) e ∙ rest

no_longer : (qs : List Region) (id : ℕ) → length (without_region qs id) ≤ length qs
no_longer [] id = omega arith
no_longer (q ∷ qs) id = by_id (has_id id q) (no_longer qs id)
  where
    by_id : (b : Bool) → length (without_region qs id) ≤ length qs → length (if not b then q ∷ without_region qs id else without_region qs id) ≤ length (q ∷ qs)
    by_id true rest = omega (arith, rest)
    by_id false rest = omega (arith, rest)

shorter : (qs : List Region) (id : ℕ) → has_region qs id ≡ true → length (without_region qs id) < length qs
shorter [] id e = cc
shorter (q ∷ qs) id e = by_id (has_id id q) (no_longer qs id) (λ h. shorter qs id h) e
  where
    by_id : (b : Bool) → length (without_region qs id) ≤ length qs → (has_region qs id ≡ true → length (without_region qs id) < length qs) → b || has_region qs id ≡ true →
        length (if not b then q ∷ without_region qs id else without_region qs id) < length (q ∷ qs)
    by_id true most rest e = omega (arith, most)
    by_id false most rest e = let less : length (without_region qs id) < length qs = rest e in omega (arith, less)

room_left : (qs : List Region) (id : ℕ) → length qs ≤ 256 → IsTrue (has_region qs id) ⊎ (length qs < 256) → length (without_region qs id) < 256
room_left qs id few (inl there) = let less = shorter qs id there in omega (arith, less, few)
room_left qs id few (inr room) = let most = no_longer qs id in omega (arith, most, room)

-- ---- the changes

module _ (s : Session) (t : ℕ) (whole : IsWhole s) where
  regions_are : (k : Track) → slice_get s.tracks.items t ≡ Some k → track_regions s t ≡ k.list
  regions_are k here = ap (λ o. option_map_or (λ x. x.list) o []) here

  pub armed_whole : (on : Bool) → (on ≡ true → has_input s t ≡ true) → fixed_of (made s (Armed t on)) ≡ fixed_of s → IsWhole (made s (Armed t on))
  armed_whole on may same = by_track s (λ k. record k { armed = on }) t whole same
      (λ k here h. record { route = h.route; input = h.input; armed = λ is. sym (ap (λ o. option_map_or (λ x. is_some x.input) o false) here) ∙ may is; regions = h.regions })
      (λ k here h. h)

  pub soloed_whole : (on : Bool) → fixed_of (made s (Soloed t on)) ≡ fixed_of s → IsWhole (made s (Soloed t on))
  soloed_whole on same = by_track s (λ k. record k { solo = on }) t whole same (λ k here h. record { route = h.route; input = h.input; armed = h.armed; regions = h.regions }) (λ k here h. h)

  pub region_put_whole : (r : Region) → MayPut s t r → fixed_of (made s (RegionPut t r)) ≡ fixed_of s → IsWhole (made s (RegionPut t r))
  region_put_whole r may same = let f : Track → Track = λ k. record k { list = with_region r (without_region k.list r.id) } in let z = with_track f t s in by_track s f t whole same
      (λ k here h. record {
        route = h.route;
        input = h.input;
        armed = h.armed;
        regions = All-with_region (HasSource z (channels_at z t)) r (without_region k.list r.id)
            (subst (λ n. HasSource z n r) (sym (channels_stay s z same t)) (source_stays s z same (channels_at s t) r may.source))
            (All-filter (λ x. not (has_id r.id x)) (HasSource z (channels_at z t)) k.list h.regions);
      })
      (λ k here h. IsPlaylist-with_region r (without_region k.list r.id) (IsPlaylist-without_region r.id k.list h)
      (room_left k.list r.id h.few (subst (λ l. IsTrue (has_region l r.id) ⊎ (length l < 256)) (regions_are k here) may.room)) (none_left k.list r.id) may.limits)

  pub region_taken_whole : (id : ℕ) → fixed_of (made s (RegionTaken t id)) ≡ fixed_of s → IsWhole (made s (RegionTaken t id))
  region_taken_whole id same = let f : Track → Track = λ k. record k { list = without_region k.list id } in let z = with_track f t s in by_track s f t whole same
      (λ k here h. record { route = h.route; input = h.input; armed = h.armed; regions = All-filter (λ x. not (has_id id x)) (HasSource z (channels_at z t)) k.list h.regions })
      (λ k here h. IsPlaylist-without_region id k.list h)
