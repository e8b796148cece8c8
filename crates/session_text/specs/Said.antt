-- What the text of a session says, part by part: the places of sources and routes are their names again.
use Rattle.std.specs.Prelude.{ℕ, ◌-◌, false, List, [], length, map, slice_get, slice_index_or, slice_range, take, Option, Some, None, codes}
use Rattle.std.specs.List.{zip}
use Rattle.std.specs.Option.{option_map_or}
use Rattle.sound_model.specs.Numbers.{unity}
use Rattle.sound_model.specs.Regions as sound
use Rattle.ses_units.specs.declared.mode.Mode.TheVariants.{Manual}
use Rattle.ses_units.specs.declared.shape.Shape.{Shape}
use Rattle.ses_units.specs.declared.shape.Shape.TheVariants.{Linear, Slow}
use Rattle.session_model.specs.declared.route.SendLink.{SendLink}
use Rattle.session_model.specs.declared.route.Route.{Route}
use Rattle.session_model.specs.declared.track.Track.{Track}
use Rattle.session_model.specs.declared.session.Session.{Session}
use Rattle.session_walk.specs.declared.said as text
use Rattle.session_walk.specs.declared.said.Version.TheVariants.{Two}
use Rattle.session_walk.specs.declared.said.Written.{Written}
use Rattle.session_toml.specs.Built.{listed}

-- ---- names

-- the name at a place
abbrev pub name_at : List (List ℕ) → ℕ → List ℕ
name_at names place = slice_index_or names place []

abbrev pub names_of : List Route → List (List ℕ)
names_of routes = map (λ q. q.name) routes

-- an output that leads nowhere is the master's, who says none
abbrev pub out_name : List (List ℕ) → Option ℕ → List ℕ
out_name names None = codes "master"
out_name names (Some place) = name_at names place

-- ---- regions

abbrev pub said_shape : sound.Shape → Shape
said_shape sound.Linear = Linear
said_shape sound.Slow = Slow

unfoldable pub said_region : List (List ℕ) → sound.Region → text.RegionText.RegionText
said_region names r = record {
  id = r.id;
  source = name_at names r.source;
  span = record { start = r.start; length = r.long; at = r.at };
  layer = r.layer;
  gain = r.gain;
  opaque = r.opaque;
  fades = record { fade_in = r.fade_in; fade_out = r.fade_out; shape_in = said_shape r.shape_in; shape_out = said_shape r.shape_out };
}

-- ---- routes

abbrev pub said_send : List (List ℕ) → SendLink → text.SendText.SendText
said_send names l = record { to = name_at names l.to; pre = l.pre; gain = l.gain }

abbrev pub said_level : Route → text.Level.Level
said_level q = record { gain = q.fader; muted = q.muted }

abbrev pub said_automation : Route → text.Automation.Automation
said_automation q = record { mode = q.mode; lane = q.lane }

unfoldable pub said_route : List (List ℕ) → Route → text.RouteText.RouteText
said_route names q = record {
  named = record { name = q.name; channels = q.channels };
  strip = record { out = out_name names q.target; level = said_level q; left = q.left; right = q.right; automation = said_automation q };
  sends = listed 8 (map (said_send names) q.sends.items);
}

unfoldable pub said_master : Route → text.MasterText.MasterText
said_master q = record { level = said_level q; automation = said_automation q }

-- ---- tracks

-- a track beside its route
unfoldable pub said_track : List (List ℕ) → List (List ℕ) → Route × Track → text.TrackText.TrackText
said_track sources routes (q, k) = record {
  route = said_route routes q;
  own = record {
    named = record { name = q.name; channels = q.channels };
    settings = record { input = k.input; solo = k.solo; armed = k.armed };
    regions = listed 256 (map (said_region sources) k.list);
  };
}

-- ---- the session

-- the routes of tracks stand first, the master last, and the busses between them
abbrev pub track_routes : Session → List Route
track_routes s = take (length s.tracks.items) s.routes.items

abbrev pub busses : Session → List Route
busses s = slice_range s.routes.items (length s.tracks.items) (length s.routes.items - 1)

abbrev pub master : Session → Option Route
master s = slice_get s.routes.items (length s.routes.items - 1)

-- what an absent master says
abbrev pub plain_master : text.MasterText.MasterText
plain_master = record { level = record { gain = unity; muted = false }; automation = record { mode = Manual; lane = [] } }

abbrev pub said_head : Session → text.Head.Head
said_head s = record {
  version = Two;
  rate = s.rate;
  bits = s.bits;
  channels = option_map_or (λ q. q.channels) (master s) 0;
  block = s.block;
  depth = s.depth;
  takes = s.takes;
}

abbrev pub source_names : Session → List (List ℕ)
source_names s = map (λ d. d.name) s.sources.items

abbrev pub route_names : Session → List (List ℕ)
route_names s = names_of s.routes.items

unfoldable pub said_of : Session → Written
said_of s = record {
  head = said_head s;
  sources = listed 64 s.sources.items;
  tracks = listed 32 (map (said_track (source_names s) (route_names s)) (zip (track_routes s) s.tracks.items));
  busses = listed 63 (map (said_route (route_names s)) (busses s));
  master = option_map_or said_master (master s) plain_master;
}
