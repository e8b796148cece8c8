-- A small session as a value, which is valid.
use Rattle.std.proofs.Common.{◌+◌, ◌/◌, ◌%◌, ◌≡◌, ℕ, List, [], ◌∷◌, ◌++◌, refl, true, false, Option, Some, None, codes}
use Rattle.sound_model.specs.Regions as sound
use Rattle.sound_model.specs.Regions.{Linear}
use Rattle.ses_units.specs.declared.bits.Bits.TheVariants.{B16}
use Rattle.ses_units.specs.declared.mode.Mode.TheVariants.{Manual}
use Rattle.ses_io.specs.FixedList.{Listed}
use Rattle.session_model.specs.declared.route.SendLink.{SendLink}
use Rattle.session_model.specs.declared.route.RouteKind.{RouteKind}
use Rattle.session_model.specs.declared.route.RouteKind.TheVariants.{Track as OfTrack, Bus, Master}
use Rattle.session_model.specs.declared.route.Route.{Route}
use Rattle.session_model.specs.declared.track.Track.{Track}
use Rattle.session_model.specs.declared.session.SourceDecl.{SourceDecl}
use Rattle.session_model.specs.declared.session.Session.{Session}
use Rattle.session_model.specs.Tests.{is_formed, is_valid}

abbrev pub listed : {X : Type 0} → List X → Listed X
listed items = record { items = items; room = 64 }

-- ---- the base: source `a`, track `t` with one region of it, into the master

abbrev pub source : List ℕ → SourceDecl
source name = record { name = name; file = name ++ codes ".wav"; channels = 1 }

abbrev pub whole : sound.Region
whole = record { id = 1; source = 0; start = 0; long = 8; at = 0; layer = 0; gain = 65536; opaque = true; fade_in = 0; fade_out = 0; shape_in = Linear; shape_out = Linear }

abbrev pub send_to : ℕ → SendLink
send_to to = record { to = to; pre = false; gain = 65536 }

-- a mono route at unity
abbrev pub route : List ℕ → RouteKind → Option ℕ → Route
route name kind target = record {
  name = name;
  kind = kind;
  channels = 1;
  fader = 65536;
  mode = Manual;
  lane = [];
  muted = false;
  left = 65536;
  right = 65536;
  target = target;
  sends = listed [];
}

abbrev pub master : Route
master = route (codes "master") Master None

abbrev pub track : ℕ → List sound.Region → Track
track route regions = record { route = route; solo = false; armed = false; input = Some 0; list = regions }

abbrev pub session : List SourceDecl → List Route → List Track → Session
session sources routes tracks = record {
  rate = 48000;
  bits = B16;
  block = 4;
  depth = 2;
  takes = codes "take";
  sources = listed sources;
  routes = listed routes;
  tracks = listed tracks;
}

abbrev pub base : Session
base = session (source (codes "a") ∷ []) (route (codes "t") (OfTrack 0) (Some 1) ∷ master ∷ []) (track 0 (whole ∷ []) ∷ [])

base_is_valid : is_valid base ≡ true
unfolding is_formed is_valid
base_is_valid = refl

-- ---- its parts, to be changed

abbrev pub a : SourceDecl
a = source (codes "a")

-- a mono track into the route at a place
abbrev pub t : ℕ → Route
t to = route (codes "t") (OfTrack 0) (Some to)

abbrev pub bus : List ℕ → ℕ → Route
bus name to = route name Bus (Some to)

-- the base with these routes
abbrev pub desk : List Route → Session
desk routes = session (a ∷ []) routes (track 0 (whole ∷ []) ∷ [])

-- the base with this track
abbrev pub with_track : Track → Session
with_track k = session (a ∷ []) (t 1 ∷ master ∷ []) (k ∷ [])

-- a name for each number below 100: `n00`, `n01` and so on
abbrev pub numbered : ℕ → List ℕ
numbered i = 110 ∷ (48 + i / 10) ∷ (48 + i % 10) ∷ []

-- a stereo track takes two of the input's channels
abbrev pub stereo : ℕ → Session
stereo first = session (record a { channels = 2 } ∷ []) (record (t 1) { channels = 2 } ∷ record master { channels = 2 } ∷ [])
    (record (track 0 (whole ∷ [])) { input = Some first } ∷ [])
