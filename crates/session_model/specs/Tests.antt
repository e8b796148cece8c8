-- The tests of a formed and of a valid session, which compute.
use Rattle.std.specs.Prelude.{ℕ, ◌+◌, ◌*◌, Bool, true, false, not, ◌&&◌, ◌||◌, ◌==◌, nat_eq, nat_lt, nat_le, length, map, slice_get, is_some, is_none, codes}
use Rattle.std.specs.Option.{option_map_or}
use Rattle.std.specs.List.{list_all}
use Rattle.std.specs.Str.{bytes_eq}
use Rattle.sound_model.specs.Numbers.{unity}
use Rattle.sound_model.specs.Regions.{Region}
use Rattle.sound_model.specs.Routes.{has_cycle}
use Rattle.session_model.specs.declared.route.RouteKind.{RouteKind}
use Rattle.session_model.specs.declared.route.RouteKind.TheVariants.{Track as OfTrack, Bus, Master}
use Rattle.session_model.specs.declared.route.Route.{Route}
use Rattle.session_model.specs.declared.track.Track.{Track}
use Rattle.session_model.specs.declared.session.SourceDecl.{SourceDecl}
use Rattle.session_model.specs.declared.session.Session.{Session}
use Rattle.session_model.specs.Lists.{each_from, are_apart}
use Rattle.session_model.specs.Formed.{kind_at, channels_at}
use Rattle.session_model.specs.Views.{routes_of}

abbrev pub is_between : ℕ → ℕ → ℕ → Bool
is_between low n high = nat_le low n && nat_le n high

abbrev pub has_limits : Session → Bool
has_limits s = is_between 8000 s.rate 192000 && is_between 1 s.block 4096 && is_between 2 s.depth 256
    && nat_le (s.depth * s.block) 65536 && nat_le (length s.sources.items) 64 && nat_le (length s.tracks.items) 32
    && nat_le (length s.routes.items) 64 && nat_lt (length s.tracks.items) (length s.routes.items)

abbrev pub has_names : Session → Bool
has_names s = are_apart bytes_eq (map (λ d. d.name) s.sources.items) && are_apart bytes_eq (map (λ q. q.name) s.routes.items)

abbrev pub is_formed_source : SourceDecl → Bool
is_formed_source d = is_between 1 d.channels 2

-- ---- routes

abbrev pub same_kind : RouteKind → RouteKind → Bool
same_kind (OfTrack t) (OfTrack u) = t == u
same_kind Bus Bus = true
same_kind Master Master = true
same_kind _ _ = false

abbrev pub may_feed : Session → Route → ℕ → Bool
may_feed s q to = nat_le (length s.tracks.items) to && option_map_or (λ next. nat_le q.channels next.channels) (slice_get s.routes.items to) false

abbrev pub is_master : Route → Bool
is_master q = bytes_eq q.name (codes "master") && q.left == unity && q.right == unity && is_none q.target && length q.sends.items == 0

abbrev pub leads_on : Session → Route → RouteKind → Bool
leads_on s q (OfTrack t) = option_map_or (may_feed s q) q.target false
leads_on s q Bus = option_map_or (may_feed s q) q.target false
leads_on s q Master = is_master q

abbrev pub is_formed_route : Session → ℕ → Route → Bool
is_formed_route s place q = same_kind q.kind (kind_at (length s.tracks.items) (length s.routes.items) place)
    && is_between 1 q.channels 2 && leads_on s q q.kind && nat_le (length q.sends.items) 8 && nat_le 8 q.sends.room
    && list_all (λ l. may_feed s q l.to) q.sends.items && are_apart nat_eq (map (λ l. l.to) q.sends.items)

-- ---- tracks

abbrev pub has_source : Session → ℕ → Region → Bool
has_source s channels r = option_map_or (λ d. d.channels == channels) (slice_get s.sources.items r.source) false

abbrev pub is_formed_track : Session → ℕ → Track → Bool
is_formed_track s place k = k.route == place && option_map_or (λ first. nat_le (first + channels_at s place) 8) k.input true
    && (not k.armed || is_some k.input) && list_all (has_source s (channels_at s place)) k.list

-- ---- the session

unfoldable pub is_formed : Session → Bool
is_formed s = has_limits s && has_names s && list_all is_formed_source s.sources.items
    && each_from (is_formed_route s) 0 s.routes.items && each_from (is_formed_track s) 0 s.tracks.items

-- Cycles are looked for only in a formed session, since that takes long in others.
abbrev pub valid_where : Bool → Session → Bool
valid_where false s = false
valid_where true s = not (has_cycle (routes_of s))

unfoldable pub is_valid : Session → Bool
is_valid s = valid_where (is_formed s) s
