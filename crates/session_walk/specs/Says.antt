-- What a text says, in the words of its keys: the value that stands at a key, or the default where the key is absent.
use Rattle.std.specs.Prelude.{◌≡◌, ◌⊎◌, ℕ, pos, Bool, true, false, List, [], ◌∷◌, Option, Some, None, ⊤, codes}
use Rattle.std.specs.Option.{option_map, option_and_then}
use Rattle.toml.specs.Data.{Data, Members, no_members, get_member, as_integer, as_str, as_bool, as_array, as_table}
use Rattle.sound_model.specs.Numbers.{unity}
use Rattle.sound_model.specs.Lanes as sound
use Rattle.ses_units.specs.Bits.{bits_of}
use Rattle.ses_units.specs.Point.{points_of}
use Rattle.ses_units.specs.declared.mode.Mode.{Mode}
use Rattle.ses_units.specs.declared.mode.Mode.TheVariants.{Manual, Play}
use Rattle.ses_units.specs.declared.point.Point.{Point}
use Rattle.ses_units.specs.declared.shape.Shape.{Shape}
use Rattle.ses_units.specs.declared.shape.Shape.TheVariants.{Linear, Slow}
use Rattle.session_model.specs.declared.key.Key.{Key}
use Rattle.session_model.specs.declared.key.Key.TheVariants as key
use Rattle.session_model.specs.declared.session.SourceDecl.{SourceDecl}
use Rattle.session_walk.specs.declared.said as text
use Rattle.session_walk.specs.declared.said.Version.{Version}
use Rattle.session_walk.specs.declared.said.Version.TheVariants.{One, Two}
use Rattle.session_walk.specs.declared.said.Written.{Written}
use Rattle.session_walk.specs.Words.{word}
use Rattle.session_walk.specs.Arrays.{listed_items, each}
use Rattle.session_walk.specs.Lane.{point_of}

-- ---- what stands at a key of a table

abbrev pub at_key : Members → Key → Option Data
at_key m k = get_member (word k) m

abbrev pub IsAbsent : Members → Key → Type 0
IsAbsent m k = at_key m k ≡ None

abbrev pub SaysWhole : Members → Key → ℕ → Type 0
SaysWhole m k n = option_and_then as_integer (at_key m k) ≡ Some (pos n)

abbrev pub SaysText : Members → Key → List ℕ → Type 0
SaysText m k text = option_and_then as_str (at_key m k) ≡ Some text

abbrev pub SaysFlag : Members → Key → Bool → Type 0
SaysFlag m k b = option_and_then as_bool (at_key m k) ≡ Some b

abbrev pub SaysTable : Members → Key → Members → Type 0
SaysTable m k table = option_and_then as_table (at_key m k) ≡ Some table

abbrev pub SaysItems : Members → Key → List Data → Type 0
SaysItems m k items = option_map listed_items (option_and_then as_array (at_key m k)) ≡ Some items

-- the key says it, or is absent, and it is the default
abbrev pub OrDefault : {A : Type 0} → (Members → Key → A → Type 0) → Members → Key → A → A → Type 0
OrDefault Says m k default x = Says m k x ⊎ (IsAbsent m k × (x ≡ default))

abbrev pub mode_word : Mode → List ℕ
mode_word Manual = codes "manual"
mode_word Play = codes "play"

abbrev pub SaysMode : Members → Key → Mode → Type 0
SaysMode m k mode = SaysText m k (mode_word mode)

abbrev pub shape_word : Shape → List ℕ
shape_word Linear = codes "linear"
shape_word Slow = codes "slow"

abbrev pub SaysShape : Members → Key → Shape → Type 0
SaysShape m k shape = SaysText m k (shape_word shape)

-- the version as the number that a text has for it
abbrev pub version_number : Version → ℕ
version_number One = 1
version_number Two = 2

-- the first of the input's channels, or none
abbrev pub SaysInput : Members → Option ℕ → Type 0
SaysInput m None = IsAbsent m key.Input
SaysInput m (Some first) = SaysWhole m key.Input first

-- the points of a lane, pair by pair
abbrev pub SaysLane : Members → List sound.Point → Type 0
SaysLane m lane = (items : List Data) × (points : List Point) × OrDefault SaysItems m key.Lane [] items × (each point_of items ≡ Some points) × (lane ≡ points_of points)

-- ---- arrays of tables

-- each table says its item
abbrev pub AllSay : {A : Type 0} → (Members → A → Type 0) → List Members → List A → Type 0
AllSay Says [] [] = ⊤
AllSay Says (m ∷ ms) (x ∷ xs) = Says m x × AllSay Says ms xs
AllSay Says _ _ = ⊥

-- the tables of the array at a key say the items; an absent array is empty
abbrev pub SaysEach : {A : Type 0} → (Members → A → Type 0) → Members → Key → List A → Type 0
SaysEach Says m k xs = (items : List Data) × (rows : List Members) × OrDefault SaysItems m k [] items × (each as_table items ≡ Some rows) × AllSay Says rows xs

-- ---- parts

pub record SaysHead (m : Members) (h : text.Head.Head) : Type 0 where
  pub version : SaysWhole m key.Version (version_number h.version)
  pub rate : SaysWhole m key.Rate h.rate
  pub bits : SaysWhole m key.Bits (bits_of h.bits)
  pub channels : SaysWhole m key.Channels h.channels
  pub block : SaysWhole m key.Block h.block
  pub depth : SaysWhole m key.Depth h.depth
  pub takes : OrDefault SaysText m key.Takes (codes "take") h.takes

pub record SaysSource (m : Members) (d : SourceDecl) : Type 0 where
  pub name : SaysText m key.Name d.name
  pub file : SaysText m key.File d.file
  pub channels : SaysWhole m key.Channels d.channels

pub record SaysSpan (m : Members) (p : text.Span.Span) : Type 0 where
  pub start : OrDefault SaysWhole m key.Start 0 p.start
  pub length : SaysWhole m key.Length p.length
  pub at : SaysWhole m key.At p.at

pub record SaysFades (m : Members) (f : text.Fades.Fades) : Type 0 where
  pub fade_in : OrDefault SaysWhole m key.FadeIn 0 f.fade_in
  pub fade_out : OrDefault SaysWhole m key.FadeOut 0 f.fade_out
  pub shape_in : OrDefault SaysShape m key.ShapeIn Linear f.shape_in
  pub shape_out : OrDefault SaysShape m key.ShapeOut Linear f.shape_out

pub record SaysRegion (m : Members) (r : text.RegionText.RegionText) : Type 0 where
  pub id : SaysWhole m key.Id r.id
  pub source : SaysText m key.Source r.source
  pub span : SaysSpan m r.span
  pub layer : OrDefault SaysWhole m key.Layer 0 r.layer
  pub gain : OrDefault SaysWhole m key.Gain unity r.gain
  pub opaque : OrDefault SaysFlag m key.Opaque true r.opaque
  pub fades : SaysFades m r.fades

pub record SaysSend (m : Members) (l : text.SendText.SendText) : Type 0 where
  pub to : SaysText m key.To l.to
  pub pre : OrDefault SaysFlag m key.Pre false l.pre
  pub gain : OrDefault SaysWhole m key.Gain unity l.gain

pub record SaysNamed (m : Members) (n : text.Named.Named) : Type 0 where
  pub name : SaysText m key.Name n.name
  pub channels : SaysWhole m key.Channels n.channels

pub record SaysLevel (m : Members) (l : text.Level.Level) : Type 0 where
  pub gain : OrDefault SaysWhole m key.Gain unity l.gain
  pub muted : OrDefault SaysFlag m key.Mute false l.muted

pub record SaysAutomation (m : Members) (r : text.Automation.Automation) : Type 0 where
  pub mode : OrDefault SaysMode m key.Mode Manual r.mode
  pub lane : SaysLane m r.lane

pub record SaysChannelStrip (m : Members) (s : text.ChannelStrip.ChannelStrip) : Type 0 where
  pub out : OrDefault SaysText m key.Out (codes "master") s.out
  pub level : SaysLevel m s.level
  pub left : OrDefault SaysWhole m key.Left unity s.left
  pub right : OrDefault SaysWhole m key.Right unity s.right
  pub automation : SaysAutomation m s.automation

pub record SaysRoute (m : Members) (q : text.RouteText.RouteText) : Type 0 where
  pub named : SaysNamed m q.named
  pub strip : SaysChannelStrip m q.strip
  pub sends : SaysEach SaysSend m key.Send q.sends.items

pub record SaysInputSettings (m : Members) (t : text.InputSettings.InputSettings) : Type 0 where
  pub input : SaysInput m t.input
  pub solo : OrDefault SaysFlag m key.Solo false t.solo
  pub armed : OrDefault SaysFlag m key.Arm false t.armed

pub record SaysTrack (m : Members) (k : text.TrackText.TrackText) : Type 0 where
  pub route : SaysRoute m k.route
  -- the track's own name is its route's
  pub named : k.own.named ≡ k.route.named
  pub settings : SaysInputSettings m k.own.settings
  pub regions : SaysEach SaysRegion m key.Region k.own.regions.items

pub record SaysMaster (m : Members) (t : text.MasterText.MasterText) : Type 0 where
  pub level : SaysLevel m t.level
  pub automation : SaysAutomation m t.automation

-- the document says it all: an absent master has its defaults
pub record SaysAll (m : Members) (w : Written) : Type 0 where
  pub session : (table : Members) × SaysTable m key.Session table × SaysHead table w.head
  pub sources : SaysEach SaysSource m key.Source w.sources.items
  pub tracks : SaysEach SaysTrack m key.Track w.tracks.items
  pub busses : SaysEach SaysRoute m key.Bus w.busses.items
  pub master : (table : Members) × OrDefault SaysTable m key.Master no_members table × SaysMaster table w.master
