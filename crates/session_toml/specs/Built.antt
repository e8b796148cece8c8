-- The session that a text means, once no rule refuses it: names become the places of routes and sources (own).
use Rattle.std.specs.Prelude.{ℕ, suc, nat_lt, if◌then◌else◌, List, [], ◌∷◌, ◌++◌, length, map, Some, None, codes, bytes_eq}
use Rattle.std.specs.List.{position_or_len}
use Rattle.sound_model.specs.Numbers.{unity}
use Rattle.sound_model.specs.Regions as sound
use Rattle.sound_model.specs.Layers.{by_layer}
use Rattle.ses_units.specs.Shape.{shape_of}
use Rattle.ses_io.specs.FixedList.{Listed}
use Rattle.session_model.specs.declared.route.SendLink.{SendLink}
use Rattle.session_model.specs.declared.route.RouteKind.{RouteKind}
use Rattle.session_model.specs.declared.route.RouteKind.TheVariants.{Track as OfTrack, Bus, Master}
use Rattle.session_model.specs.declared.route.Route.{Route}
use Rattle.session_model.specs.declared.track.Track.{Track}
use Rattle.session_model.specs.declared.session.SourceDecl.{SourceDecl}
use Rattle.session_model.specs.declared.session.Session.{Session}
use Rattle.session_walk.specs.declared.said as text

-- ---- places

-- the place of a name, and the one after the last where it isn't there
abbrev pub place_of : List (List ℕ) → List ℕ → ℕ
place_of names name = position_or_len (λ n. bytes_eq n name) names

-- each item with its place, of which the first is i
abbrev pub numbered : {A B : Type 0} → (ℕ → A → B) → ℕ → List A → List B
numbered f i [] = []
numbered f i (x ∷ xs) = f i x ∷ numbered f (suc i) xs

abbrev pub listed : {A : Type 0} → ℕ → List A → Listed A
listed room items = record { items = items; room = room }

-- ---- routes: the master stands after all others, so it has the place of a name that isn't among theirs

abbrev pub route_names : List text.RouteText.RouteText → List (List ℕ)
route_names routes = map (λ q. q.named.name) routes

abbrev pub send_in : List (List ℕ) → text.SendText.SendText → SendLink
send_in names l = record { to = place_of names l.to; pre = l.pre; gain = l.gain }

abbrev pub sends_in : List (List ℕ) → List text.SendText.SendText → Listed SendLink
sends_in names sends = listed 8 (map (send_in names) sends)

-- of so many tracks, the route at a place
abbrev pub kind_in : ℕ → ℕ → RouteKind
kind_in tracks place = if nat_lt place tracks then OfTrack place else Bus

unfoldable pub route_in : List (List ℕ) → RouteKind → text.RouteText.RouteText → Route
route_in names kind q = record {
  name = q.named.name;
  kind = kind;
  channels = q.named.channels;
  fader = q.strip.level.gain;
  mode = q.strip.automation.mode;
  lane = q.strip.automation.lane;
  muted = q.strip.level.muted;
  left = q.strip.left;
  right = q.strip.right;
  target = Some (place_of names q.strip.out);
  sends = sends_in names q.sends.items;
}

unfoldable pub master_in : ℕ → text.MasterText.MasterText → Route
master_in channels m = record {
  name = codes "master";
  kind = Master;
  channels = channels;
  fader = m.level.gain;
  mode = m.automation.mode;
  lane = m.automation.lane;
  muted = m.level.muted;
  left = unity;
  right = unity;
  target = None;
  sends = listed 8 [];
}

-- ---- tracks

abbrev pub source_names : List SourceDecl → List (List ℕ)
source_names sources = map (λ d. d.name) sources

unfoldable pub region_in : List (List ℕ) → text.RegionText.RegionText → sound.Region
region_in names r = record {
  id = r.id;
  source = place_of names r.source;
  start = r.span.start;
  long = r.span.length;
  at = r.span.at;
  layer = r.layer;
  gain = r.gain;
  opaque = r.opaque;
  fade_in = r.fades.fade_in;
  fade_out = r.fades.fade_out;
  shape_in = shape_of r.fades.shape_in;
  shape_out = shape_of r.fades.shape_out;
}

-- the playlist of regions, by layer
abbrev pub playlist_in : List (List ℕ) → List text.RegionText.RegionText → List sound.Region
playlist_in names regions = by_layer (map (region_in names) regions)

unfoldable pub track_in : List (List ℕ) → ℕ → text.TrackOwn.TrackOwn → Track
track_in names place k = record {
  route = place;
  solo = k.settings.solo;
  armed = k.settings.armed;
  input = k.settings.input;
  list = playlist_in names k.regions.items;
}

-- ---- the session

abbrev pub routes_in : ℕ → List text.RouteText.RouteText → List Route
routes_in tracks routes = numbered (λ place. route_in (route_names routes) (kind_in tracks place)) 0 routes

unfoldable pub session_in : text.Head.Head → List SourceDecl → List text.RouteText.RouteText → List text.TrackOwn.TrackOwn → text.MasterText.MasterText → Session
session_in head sources routes tracks master = record {
  rate = head.rate;
  bits = head.bits;
  block = head.block;
  depth = head.depth;
  takes = head.takes;
  sources = listed 64 sources;
  routes = listed 64 (routes_in (length tracks) routes ++ master_in head.channels master ∷ []);
  tracks = listed 32 (numbered (track_in (source_names sources)) 0 tracks);
}
