-- What a command changes, or the first rule that it breaks (own). The rules of a command are asked in their one order.
use Rattle.std.specs.Prelude.{ℕ, ◌+◌, ◌^◌, Bool, true, false, not, ◌&&◌, ◌||◌, ◌==◌, nat_le, nat_lt, List, length, filter, find, position, Option, slice_get, is_some, is_none, Ok}
use Rattle.std.specs.Option.{option_map_or}
use Rattle.std.specs.List.{list_any}
use Rattle.std.specs.Str.{bytes_eq}
use Rattle.sound_model.specs.Numbers.{unity}
use Rattle.sound_model.specs.Regions.{Region, Linear}
use Rattle.sound_model.specs.Reach.{reaches}
use Rattle.ses_units.specs.Shape.{shape_of}
use Rattle.session_model.specs.declared.session.Session.{Session}
use Rattle.session_model.specs.declared.edit.Edit.{Edit}
use Rattle.session_model.specs.declared.edit.Edit.TheVariants as edit
use Rattle.session_model.specs.Views.{routes_of, track_regions}
use Rattle.session_model.specs.Formed.{channels_at}
use Rattle.session_model.specs.Playlist.{has_id, has_region}
use Rattle.engine_model.specs.Transport.{Wrap}
use Rattle.engine_model.specs.Refusals.{Points, Sends, Regions, Limit, NoRoute, NotTrack, NotBus, NoSource, NoRegion, RegionTwice, NoInput, OnMaster, Gain, Far, LoopEmpty, NoLoop, NoPoint, NoSend, Channels, Cycle, Fades, Checked, ◌>>=◌, refused_if, found}
use Rattle.engine_model.specs.Changes.{Change, TransportOnly, Armed, Soloed, Muted, Faded, Panned, InMode, PointSet, PointUnset, Leads, SendSet, SendUnset, RegionPut, RegionTaken}

-- ---- numbers

-- a place lies at or past 2^40
abbrev pub is_far : ℕ → Bool
is_far place = nat_le (2 ^ 40) place

-- so many frames from a place on end past 2^40
abbrev pub ends_far : ℕ → ℕ → Bool
ends_far place long = nat_lt (2 ^ 40) (place + long)

abbrev pub is_loud : ℕ → Bool
is_loud gain = nat_lt 262144 gain

-- ---- what a name names

-- the place of the route of a name
abbrev pub route_at : Session → List ℕ → Checked ℕ
route_at s name = found (NoRoute name) (position (λ q. bytes_eq q.name name) s.routes.items)

-- the tracks' routes stand first
abbrev pub is_track : Session → ℕ → Bool
is_track s r = nat_lt r (length s.tracks.items)

-- the master stands last
abbrev pub is_master : Session → ℕ → Bool
is_master s r = nat_le (length s.routes.items) (r + 1)

abbrev pub track_at : Session → List ℕ → Checked ℕ
track_at s name = do
  r ← route_at s name
  track ← refused_if (not (is_track s r)) (NotTrack name)
  Ok r

-- a bus or the master
abbrev pub bus_at : Session → List ℕ → Checked ℕ
bus_at s name = do
  r ← route_at s name
  bus ← refused_if (is_track s r) (NotBus name)
  Ok r

-- a route other than the master
abbrev pub sender_at : Session → List ℕ → Checked ℕ
sender_at s name = do
  r ← route_at s name
  other ← refused_if (is_master s r) OnMaster
  Ok r

abbrev pub source_at : Session → List ℕ → Checked ℕ
source_at s name = found (NoSource name) (position (λ d. bytes_eq d.name name) s.sources.items)

abbrev pub region_at : Session → ℕ → ℕ → Checked Region
region_at s t id = found (NoRegion id) (find (has_id id) (track_regions s t))

-- ---- what stands at a place

abbrev pub has_input : Session → ℕ → Bool
has_input s t = option_map_or (λ k. is_some k.input) (slice_get s.tracks.items t) false

-- the channels of a source, 0 where there is none
abbrev pub source_channels : Session → ℕ → ℕ
source_channels s source = option_map_or (λ d. d.channels) (slice_get s.sources.items source) 0

-- a route of two channels would feed one of one
abbrev pub narrows : Session → ℕ → ℕ → Bool
narrows s r to = nat_lt (channels_at s to) (channels_at s r)

-- a link from one route to another would close a cycle
abbrev pub closes : Session → ℕ → ℕ → Bool
closes s r to = r == to || reaches (routes_of s) to r

-- how many points of a route's lane stand at other places, and whether one stands there
abbrev pub other_points : Session → ℕ → ℕ → ℕ
other_points s r place = option_map_or (λ q. length (filter (λ p. not (p.at == place)) q.lane)) (slice_get s.routes.items r) 0

abbrev pub has_point : Session → ℕ → ℕ → Bool
has_point s r place = option_map_or (λ q. list_any (λ p. p.at == place) q.lane) (slice_get s.routes.items r) false

-- how many sends of a route lead elsewhere, and whether one leads there
abbrev pub other_sends : Session → ℕ → ℕ → ℕ
other_sends s r to = option_map_or (λ q. length (filter (λ l. not (l.to == to)) q.sends.items)) (slice_get s.routes.items r) 0

abbrev pub has_send : Session → ℕ → ℕ → Bool
has_send s r to = option_map_or (λ q. list_any (λ l. l.to == to) q.sends.items) (slice_get s.routes.items r) false

-- a region that is added is opaque, at unity and without fades
abbrev pub added : ℕ → ℕ → ℕ → ℕ → ℕ → ℕ → Region
added id source start long place layer = record {
  id = id;
  source = source;
  start = start;
  long = long;
  at = place;
  layer = layer;
  gain = unity;
  opaque = true;
  fade_in = 0;
  fade_out = 0;
  shape_in = Linear;
  shape_out = Linear;
}

-- ---- the commands

-- what a command changes of a session in which this loop is in force, or the first rule that it breaks
abbrev pub change_of : Session → Option Wrap → Edit → Checked Change
change_of s wrap edit.Roll = Ok TransportOnly
change_of s wrap edit.Stop = Ok TransportOnly
change_of s wrap edit.Quit = Ok TransportOnly
change_of s wrap (edit.Recording on) = Ok TransportOnly
change_of s wrap (edit.Locate to) = do
  near ← refused_if (is_far to) (Far to)
  Ok TransportOnly
change_of s wrap (edit.Loop from to) = do
  near ← refused_if (is_far from) (Far from)
  near_end ← refused_if (is_far to) (Far to)
  some ← refused_if (nat_le to from) LoopEmpty
  Ok TransportOnly
change_of s wrap edit.LoopOff = do
  there ← refused_if (is_none wrap) NoLoop
  Ok TransportOnly
change_of s wrap (edit.Arm track on) = do
  t ← track_at s track
  input ← refused_if (on && not (has_input s t)) (NoInput track)
  Ok (Armed t on)
change_of s wrap (edit.Solo track on) = do
  t ← track_at s track
  Ok (Soloed t on)
change_of s wrap (edit.Mute route on) = do
  r ← route_at s route
  Ok (Muted r on)
change_of s wrap (edit.Gain route gain) = do
  r ← route_at s route
  quiet ← refused_if (is_loud gain) (Gain gain)
  Ok (Faded r gain)
change_of s wrap (edit.Pan route left right) = do
  r ← sender_at s route
  quiet ← refused_if (is_loud left) (Gain left)
  quiet_right ← refused_if (is_loud right) (Gain right)
  Ok (Panned r left right)
change_of s wrap (edit.Mode route mode) = do
  r ← route_at s route
  Ok (InMode r mode)
change_of s wrap (edit.Point route place gain) = do
  r ← route_at s route
  near ← refused_if (is_far place) (Far place)
  quiet ← refused_if (is_loud gain) (Gain gain)
  room ← refused_if (nat_le 1024 (other_points s r place)) (Limit Points)
  Ok (PointSet r (record { at = place; gain = gain }))
change_of s wrap (edit.Unpoint route place) = do
  r ← route_at s route
  there ← refused_if (not (has_point s r place)) (NoPoint place)
  Ok (PointUnset r place)
change_of s wrap (edit.Connect route target) = do
  r ← sender_at s route
  to ← bus_at s target
  wide ← refused_if (narrows s r to) (Channels route)
  no_cycle ← refused_if (closes s r to) (Cycle route)
  Ok (Leads r to)
change_of s wrap (edit.Send route target pre gain) = do
  r ← sender_at s route
  to ← bus_at s target
  quiet ← refused_if (is_loud gain) (Gain gain)
  wide ← refused_if (narrows s r to) (Channels route)
  no_cycle ← refused_if (closes s r to) (Cycle route)
  room ← refused_if (nat_le 8 (other_sends s r to)) (Limit Sends)
  Ok (SendSet r (record { to = to; pre = pre; gain = gain }))
change_of s wrap (edit.Unsend route target) = do
  r ← sender_at s route
  to ← route_at s target
  there ← refused_if (not (has_send s r to)) (NoSend target)
  Ok (SendUnset r to)
change_of s wrap (edit.Add track id source start long place layer) = do
  t ← track_at s track
  new ← refused_if (has_region (track_regions s t) id) (RegionTwice id)
  from ← source_at s source
  fits ← refused_if (not (source_channels s from == channels_at s t)) (Channels track)
  near_source ← refused_if (ends_far start long) (Far start)
  near ← refused_if (ends_far place long) (Far place)
  room ← refused_if (nat_le 256 (length (track_regions s t))) (Limit Regions)
  Ok (RegionPut t (added id from start long place layer))
change_of s wrap (edit.Remove track id) = do
  t ← track_at s track
  r ← region_at s t id
  Ok (RegionTaken t id)
change_of s wrap (edit.Move track id place) = do
  t ← track_at s track
  r ← region_at s t id
  near ← refused_if (ends_far place r.long) (Far place)
  Ok (RegionPut t (record r { at = place }))
change_of s wrap (edit.Trim track id start long) = do
  t ← track_at s track
  r ← region_at s t id
  near_source ← refused_if (ends_far start long) (Far start)
  near ← refused_if (ends_far r.at long) (Far r.at)
  fades ← refused_if (nat_lt long (r.fade_in + r.fade_out)) (Fades id)
  Ok (RegionPut t (record r { start = start; long = long }))
change_of s wrap (edit.Layer track id layer) = do
  t ← track_at s track
  r ← region_at s t id
  Ok (RegionPut t (record r { layer = layer }))
change_of s wrap (edit.Opaque track id on) = do
  t ← track_at s track
  r ← region_at s t id
  Ok (RegionPut t (record r { opaque = on }))
change_of s wrap (edit.RegionGain track id gain) = do
  t ← track_at s track
  r ← region_at s t id
  quiet ← refused_if (is_loud gain) (Gain gain)
  Ok (RegionPut t (record r { gain = gain }))
change_of s wrap (edit.Fade track id fade_in fade_out) = do
  t ← track_at s track
  r ← region_at s t id
  fades ← refused_if (nat_lt r.long (fade_in + fade_out)) (Fades id)
  Ok (RegionPut t (record r { fade_in = fade_in; fade_out = fade_out }))
change_of s wrap (edit.Shape track id shape_in shape_out) = do
  t ← track_at s track
  r ← region_at s t id
  Ok (RegionPut t (record r { shape_in = shape_of shape_in; shape_out = shape_of shape_out }))
