-- What each part of a session's text says, key by key in one order (own).
use Rattle.std.specs.Prelude.{ℕ, ◌+◌, ◌-◌, ◌*◌, true, false, not, ◌||◌, nat_le, List, [], ◌∷◌, Option, Some, None, is_some, Ok, codes, bytes_eq}
use Rattle.toml.specs.Data.{Data}
use Rattle.session_model.specs.declared.key.Key.{Key}
use Rattle.session_model.specs.declared.key.Key.TheVariants as key
use Rattle.session_model.specs.declared.refusal.Part.TheVariants as part
use Rattle.session_model.specs.declared.refusal.SessionRefusal.TheVariants.{Range}
use Rattle.session_model.specs.declared.session.SourceDecl.{SourceDecl}
use Rattle.session_walk.specs.declared.said as text
use Rattle.session_walk.specs.declared.said.Version.{Version}
use Rattle.session_walk.specs.declared.said.Version.TheVariants.{One, Two}
use Rattle.session_walk.specs.Section.{Section, Read, ◌>>=◌, holds, only, value_at, item_of}
use Rattle.session_walk.specs.Values.{or_default, whole_of, whole, whole_or, gain_or, bits, version, flag_or, name, name_or, file, mode_or, shape_or}
use Rattle.session_walk.specs.Arrays.{tables, entries}
use Rattle.session_walk.specs.Lane.{lane}

-- ---- the session's own part, and sources

abbrev pub head_keys : List Key
head_keys = key.Version ∷ key.Rate ∷ key.Bits ∷ key.Channels ∷ key.Block ∷ key.Depth ∷ key.Takes ∷ []

unfoldable pub head_of : Section → Read text.Head.Head
head_of s = do
  known ← only s head_keys
  version ← version s key.Version
  rate ← whole s key.Rate 8000 192000
  bits ← bits s key.Bits
  channels ← whole s key.Channels 1 2
  block ← whole s key.Block 1 4096
  depth ← whole s key.Depth 2 256
  fits ← holds (nat_le (depth * block) 65536) (Range s.place key.Depth)
  takes ← name_or s key.Takes (codes "take")
  Ok (record { version = version; rate = rate; bits = bits; channels = channels; block = block; depth = depth; takes = takes })

abbrev pub source_keys : List Key
source_keys = key.Name ∷ key.File ∷ key.Channels ∷ []

unfoldable pub source_of : Section → Read SourceDecl
source_of s = do
  known ← only s source_keys
  name ← name s key.Name
  file ← file s key.File
  channels ← whole s key.Channels 1 2
  Ok (record { name = name; file = file; channels = channels })

-- ---- regions

unfoldable pub span_of : Section → Read text.Span.Span
span_of s = do
  start ← whole_or s key.Start 0 0 1099511627775
  long ← whole s key.Length 1 1099511627776
  within ← holds (nat_le (start + long) 1099511627776) (Range s.place key.Length)
  at ← whole s key.At 0 1099511627776
  near ← holds (nat_le (at + long) 1099511627776) (Range s.place key.At)
  Ok (record { start = start; length = long; at = at })

-- fades that don't overlap in a region of so many frames, and their shapes
unfoldable pub fades_of : Section → ℕ → Read text.Fades.Fades
fades_of s long = do
  fade_in ← whole_or s key.FadeIn 0 0 long
  fade_out ← whole_or s key.FadeOut 0 0 (long - fade_in)
  shape_in ← shape_or s key.ShapeIn
  shape_out ← shape_or s key.ShapeOut
  Ok (record { fade_in = fade_in; fade_out = fade_out; shape_in = shape_in; shape_out = shape_out })

-- shapes are keys of version 2 alone
abbrev pub shape_keys : Version → List Key
shape_keys One = []
shape_keys Two = key.ShapeIn ∷ key.ShapeOut ∷ []

abbrev pub region_keys : Version → List Key
region_keys version = key.Id ∷ key.Source ∷ key.Start ∷ key.Length ∷ key.At ∷ key.Layer ∷ key.Gain ∷ key.Opaque ∷ key.FadeIn ∷ key.FadeOut ∷ shape_keys version

unfoldable pub region_of : Version → Section → Read text.RegionText.RegionText
region_of version s = do
  known ← only s (region_keys version)
  id ← whole s key.Id 1 999999
  source ← name s key.Source
  span ← span_of s
  layer ← whole_or s key.Layer 0 0 65535
  gain ← gain_or s key.Gain
  opaque ← flag_or s key.Opaque true
  fades ← fades_of s span.length
  Ok (record { id = id; source = source; span = span; layer = layer; gain = gain; opaque = opaque; fades = fades })

-- ---- routes

abbrev pub send_keys : List Key
send_keys = key.To ∷ key.Pre ∷ key.Gain ∷ []

unfoldable pub send_of : Section → Read text.SendText.SendText
send_of s = do
  known ← only s send_keys
  to ← name s key.To
  pre ← flag_or s key.Pre false
  gain ← gain_or s key.Gain
  Ok (record { to = to; pre = pre; gain = gain })

unfoldable pub level_of : Section → Read text.Level.Level
level_of s = do
  gain ← gain_or s key.Gain
  muted ← flag_or s key.Mute false
  Ok (record { gain = gain; muted = muted })

unfoldable pub automation_of : Section → Read text.Automation.Automation
automation_of s = do
  mode ← mode_or s key.Mode
  points ← lane s
  Ok (record { mode = mode; lane = points })

unfoldable pub strip_of : Section → Read text.ChannelStrip.ChannelStrip
strip_of s = do
  out ← name_or s key.Out (codes "master")
  level ← level_of s
  left ← gain_or s key.Left
  right ← gain_or s key.Right
  automation ← automation_of s
  Ok (record { out = out; level = level; left = left; right = right; automation = automation })

-- a name other than the master's
unfoldable pub named_of : Section → Read text.Named.Named
named_of s = do
  name ← name s key.Name
  other ← holds (not (bytes_eq name (codes "master"))) (Range s.place key.Name)
  channels ← whole s key.Channels 1 2
  Ok (record { name = name; channels = channels })

abbrev pub bus_keys : List Key
bus_keys = key.Name ∷ key.Channels ∷ key.Out ∷ key.Gain ∷ key.Mute ∷ key.Left ∷ key.Right ∷ key.Mode ∷ key.Lane ∷ key.Send ∷ []

unfoldable pub bus_of : Section → Read text.RouteText.RouteText
bus_of s = do
  known ← only s bus_keys
  named ← named_of s
  strip ← strip_of s
  rows ← tables s key.Send 8
  sends ← entries send_of (item_of part.BusSend s.place.row) 8 rows
  Ok (record { named = named; strip = strip; sends = sends })

-- ---- tracks

-- so many channels are among the input's 8
abbrev pub input_of : Section → ℕ → Data → Read (Option ℕ)
input_of s channels value = whole_of s key.Input 0 (8 - channels) value >>= λ first. Ok (Some first)

abbrev pub input : Section → ℕ → Read (Option ℕ)
input s channels = or_default None (input_of s channels) (value_at s key.Input)

-- armed only with an input
unfoldable pub settings_of : Section → ℕ → Read text.InputSettings.InputSettings
settings_of s channels = do
  input ← input s channels
  solo ← flag_or s key.Solo false
  armed ← flag_or s key.Arm false
  able ← holds (not armed || is_some input) (Range s.place key.Arm)
  Ok (record { input = input; solo = solo; armed = armed })

abbrev pub track_keys : List Key
track_keys = key.Name ∷ key.Channels ∷ key.Input ∷ key.Solo ∷ key.Arm ∷ key.Out ∷ key.Gain ∷ key.Mute ∷ key.Left ∷ key.Right ∷ key.Mode ∷ key.Lane ∷ key.Send ∷ key.Region ∷ []

unfoldable pub track_of : Version → Section → Read text.TrackText.TrackText
track_of version s = do
  known ← only s track_keys
  named ← named_of s
  settings ← settings_of s named.channels
  strip ← strip_of s
  send_rows ← tables s key.Send 8
  region_rows ← tables s key.Region 256
  regions ← entries (region_of version) (item_of part.Region s.place.row) 256 region_rows
  sends ← entries send_of (item_of part.TrackSend s.place.row) 8 send_rows
  Ok (record { route = record { named = named; strip = strip; sends = sends }; own = record { named = named; settings = settings; regions = regions } })

-- ---- the master

abbrev pub master_keys : List Key
master_keys = key.Gain ∷ key.Mute ∷ key.Mode ∷ key.Lane ∷ []

unfoldable pub master_of : Section → Read text.MasterText.MasterText
master_of s = do
  known ← only s master_keys
  level ← level_of s
  automation ← automation_of s
  Ok (record { level = level; automation = automation })
