-- The session that is made from a number n, 0..8,191: tracks by regions, all of one source (own). Tracks and regions count from 0.
use Rattle.std.specs.Prelude.{ℕ, suc, ◌*◌, ◌/◌, ◌%◌, ◌==◌, false, List, [], ◌∷◌, ◌++◌, Option, Some, None, codes, decimal}
use Rattle.sound_model.specs.Numbers.{unity}
use Rattle.sound_model.specs.Lanes as lanes
use Rattle.sound_model.specs.Regions as sound
use Rattle.ses_units.specs.declared.bits.Bits.TheVariants.{B16}
use Rattle.ses_units.specs.declared.mode.Mode.TheVariants.{Manual}
use Rattle.session_model.specs.declared.route.RouteKind.{RouteKind}
use Rattle.session_model.specs.declared.route.RouteKind.TheVariants.{Track as OfTrack, Master}
use Rattle.session_model.specs.declared.route.Route.{Route}
use Rattle.session_model.specs.declared.track.Track.{Track}
use Rattle.session_model.specs.declared.session.SourceDecl.{SourceDecl}
use Rattle.session_model.specs.declared.session.Session.{Session}
use Rattle.made_session.specs.Each.{each_below, listed}

-- 1 to 32 tracks
abbrev pub tracks : ℕ → ℕ
tracks n = suc (n % 32)

-- 1 to 256 regions on each
abbrev pub regions : ℕ → ℕ
regions n = suc (n / 32)

-- ---- the source

abbrev pub source : SourceDecl
source = record { name = codes "g"; file = codes "g.wav"; channels = 1 }

-- ---- regions

-- the whole of the source, 256 frames later and a layer higher than the one before; it covers what lies below where its number is even
unfoldable pub region : ℕ → sound.Region
region j = record {
  id = suc j;
  source = 0;
  start = 0;
  long = 4096;
  at = 256 * j;
  layer = j;
  gain = unity;
  opaque = j % 2 == 0;
  fade_in = 64 * (j % 4);
  fade_out = 0;
  shape_in = sound.Linear;
  shape_out = sound.Linear;
}

abbrev pub playlist : ℕ → List sound.Region
playlist n = each_below region (regions n)

-- ---- tracks

-- nothing is recorded, soloed or muted
unfoldable pub track : ℕ → ℕ → Track
track n t = record { route = t; solo = false; armed = false; input = None; list = playlist n }

abbrev pub track_items : ℕ → List Track
track_items n = each_below (track n) (tracks n)

-- ---- routes

abbrev pub track_name : ℕ → List ℕ
track_name t = codes "t" ++ decimal t

-- unity over the track's number from 1
abbrev pub fader : ℕ → ℕ
fader t = unity / suc t

abbrev pub no_points : List lanes.Point
no_points = []

-- a mono route with no lane and no sends, at unity left and right
unfoldable pub route : List ℕ → RouteKind → ℕ → Option ℕ → Route
route name kind fader target = record {
  name = name;
  kind = kind;
  channels = 1;
  fader = fader;
  mode = Manual;
  lane = no_points;
  muted = false;
  left = unity;
  right = unity;
  target = target;
  sends = listed 8 [];
}

-- to the master, which stands behind the tracks
abbrev pub track_route : ℕ → ℕ → Route
track_route n t = route (track_name t) (OfTrack t) (fader t) (Some (tracks n))

abbrev pub track_routes : ℕ → List Route
track_routes n = each_below (track_route n) (tracks n)

abbrev pub master : Route
master = route (codes "master") Master unity None

abbrev pub route_items : ℕ → List Route
route_items n = track_routes n ++ master ∷ []

-- ---- the session: its lists have the rooms that a session has which is read from a text

unfoldable pub made_session : ℕ → Session
made_session n = record {
  rate = 48000;
  bits = B16;
  block = 256;
  depth = 16;
  takes = codes "take";
  sources = listed 64 (source ∷ []);
  routes = listed 64 (route_items n);
  tracks = listed 32 (track_items n);
}
