-- The table of a bus and of a track is read as that bus and that track.
use Rattle.std.proofs.Common.{◌≡◌, ℕ, ◌+◌, ◌-◌, ◌≤◌, Bool, true, false, not, ◌||◌, refl, ap, sym, subst, arith, List, length, All, Option, Some, None, is_some, IsSome, IfSome}
use Rattle.std.specs.Prelude.{Ok}
use Rattle.toml.specs.Data.{string, boolean}
use Rattle.std.specs.Option.{option_map}
use Rattle.ses_io.specs.FixedList.{Listed}
use Rattle.ses_units.specs.Lane.{IsLane}
use Rattle.ses_units.specs.Name.{is_name}
use Rattle.session_model.specs.declared.key.Key.TheVariants as key
use Rattle.session_model.specs.declared.refusal.Place.{Place}
use Rattle.session_walk.specs.declared.said as text
use Rattle.session_walk.specs.declared.said.Version.TheVariants.{Two}
use Rattle.session_walk.specs.InRange.{IsRoute, IsTrack}
use Rattle.session_walk.specs.Section.{Section, only, value_at}
use Rattle.session_walk.specs.Says.{mode_word}
use Rattle.session_walk.specs.Words.{word}
use Rattle.session_walk.specs.Parts.{bus_keys, track_keys, named_of, level_of, automation_of, strip_of, send_of, bus_of, region_of, input, settings_of, track_of}
use Rattle.session_text.specs.Tables.{number, tables, pairs}
use Rattle.session_text.specs.Parts.{send_table, region_table, bus_table, track_table}
use Rattle.session_text.proofs.KeyLaws.{ranged, mode-read}
use Rattle.session_text.proofs.LaneLaws.{lane-read}
use Rattle.session_text.proofs.ArrayLaws.{tables-read, entries-read, Reads}
use Rattle.session_text.proofs.PartLaws.{IsSend, send-read, region-read}

-- what a route keeps by its types, and the room of its sends
pub record IsHeard (q : text.RouteText.RouteText) : Type 0 where
  pub name : is_name q.named.name ≡ true
  pub out : is_name q.strip.out ≡ true
  pub gain : q.strip.level.gain ≤ 262144
  pub left : q.strip.left ≤ 262144
  pub right : q.strip.right ≤ 262144
  pub lane : IsLane q.strip.automation.lane
  pub sends : All IsSend q.sends.items
  pub room : q.sends.room ≡ 8

-- the keys of a route stand in a part
record Stands (s : Section) (q : text.RouteText.RouteText) : Type 0 where
  name : value_at s key.Name ≡ Some (string q.named.name)
  channels : value_at s key.Channels ≡ Some (number q.named.channels)
  out : value_at s key.Out ≡ Some (string q.strip.out)
  gain : value_at s key.Gain ≡ Some (number q.strip.level.gain)
  muted : value_at s key.Mute ≡ Some (boolean q.strip.level.muted)
  left : value_at s key.Left ≡ Some (number q.strip.left)
  right : value_at s key.Right ≡ Some (number q.strip.right)
  mode : value_at s key.Mode ≡ Some (string (mode_word q.strip.automation.mode))
  lane : value_at s key.Lane ≡ Some (pairs q.strip.automation.lane)
  sends : value_at s key.Send ≡ Some (tables send_table q.sends.items)

named-read : (s : Section) (q : text.RouteText.RouteText) → Stands s q → IsHeard q → IsRoute q → named_of s ≡ Ok q.named
unfolding named_of
named-read s q at is range = rw (at.name, is.name, range.other, at.channels, ranged 1 2 q.named.channels range.channels_least range.channels_most) refl

strip-read : (s : Section) (q : text.RouteText.RouteText) → Stands s q → IsHeard q → strip_of s ≡ Ok q.strip
unfolding strip_of level_of automation_of
strip-read s q at is = rw (
  at.out,
  is.out,
  at.gain,
  ranged 0 262144 q.strip.level.gain (omega arith) is.gain,
  at.muted,
  at.left,
  ranged 0 262144 q.strip.left (omega arith) is.left,
  at.right,
  ranged 0 262144 q.strip.right (omega arith) is.right,
  at.mode,
  mode-read q.strip.automation.mode,
  lane-read s q.strip.automation.lane at.lane is.lane,
) refl

sends-read : (q : text.RouteText.RouteText) → IsHeard q → All (Reads send_of send_table) q.sends.items
sends-read q is i d h = send-read _ (is.sends i d h)

in-bus : (p : Place) (q : text.RouteText.RouteText) → Stands (record { place = p; members = bus_table q }) q
unfolding bus_table word
in-bus p q = record { name = refl; channels = refl; out = refl; gain = refl; muted = refl; left = refl; right = refl; mode = refl; lane = refl; sends = refl }

bus-known : (p : Place) (q : text.RouteText.RouteText) → only (record { place = p; members = bus_table q }) bus_keys ≡ Ok tt
unfolding bus_table word
bus-known p q = refl

pub bus-read : (q : text.RouteText.RouteText) → IsRoute q → IsHeard q → Reads bus_of bus_table q
unfolding bus_of
bus-read q range is p =
    let s : Section = record { place = p; members = bus_table q } in
    let at = in-bus p q in
    rw (
      bus-known p q,
      named-read s q at is range,
      strip-read s q at is,
      tables-read s key.Send 8 send_table q.sends.items at.sends range.few,
      entries-read send_of send_table _ 8 q.sends is.room (sends-read q is),
    ) refl

-- ---- tracks

-- a text says one track, whose own name is its route's
abbrev made : text.RouteText.RouteText → Option ℕ → Bool → Bool → Listed text.RegionText.RegionText → text.TrackText.TrackText
made q first solo armed regions = record {
  route = q;
  own = record { named = q.named; settings = record { input = first; solo = solo; armed = armed }; regions = regions };
}

-- the keys of a track stand in a part beside its route's
record StandsOwn (s : Section) (first : Option ℕ) (solo armed : Bool) (regions : List text.RegionText.RegionText) : Type 0 where
  known_keys : only s track_keys ≡ Ok tt
  at_input : value_at s key.Input ≡ option_map number first
  at_solo : value_at s key.Solo ≡ Some (boolean solo)
  at_arm : value_at s key.Arm ≡ Some (boolean armed)
  at_region : value_at s key.Region ≡ Some (tables region_table regions)

in-track : (p : Place) (q : text.RouteText.RouteText) (first : Option ℕ) (solo armed : Bool) (regions : Listed text.RegionText.RegionText) →
    Stands (record { place = p; members = track_table (made q first solo armed regions) }) q
unfolding track_table bus_table word
in-track p q None solo armed regions = record { name = refl; channels = refl; out = refl; gain = refl; muted = refl; left = refl; right = refl; mode = refl; lane = refl; sends = refl }
in-track p q (Some first) solo armed regions = record { name = refl; channels = refl; out = refl; gain = refl; muted = refl; left = refl; right = refl; mode = refl; lane = refl; sends = refl }

own-in-track : (p : Place) (q : text.RouteText.RouteText) (first : Option ℕ) (solo armed : Bool) (regions : Listed text.RegionText.RegionText) →
    StandsOwn (record { place = p; members = track_table (made q first solo armed regions) }) first solo armed regions.items
unfolding track_table bus_table word
own-in-track p q None solo armed regions = record { known_keys = refl; at_input = refl; at_solo = refl; at_arm = refl; at_region = refl }
own-in-track p q (Some first) solo armed regions = record { known_keys = refl; at_input = refl; at_solo = refl; at_arm = refl; at_region = refl }

-- the input's channels are there, and only a track with an input is armed
record IsFed (channels : ℕ) (first : Option ℕ) (armed : Bool) : Type 0 where
  input : IfSome first (λ n. n + channels ≤ 8)
  able : armed ≡ true → IsSome first

able-read : (first : Option ℕ) (armed : Bool) → (armed ≡ true → IsSome first) → (not armed || is_some first) ≡ true
able-read first false h = refl
able-read first true h = h refl

input-read : (s : Section) (channels : ℕ) (first : Option ℕ) → value_at s key.Input ≡ option_map number first → IfSome first (λ n. n + channels ≤ 8) → input s channels ≡ Ok first
input-read s channels None at h = rw at refl
input-read s channels (Some n) at h = rw (at, ranged 0 (8 - channels) n (omega arith) (omega (arith, h))) refl

settings-read : (s : Section) (channels : ℕ) (first : Option ℕ) (solo armed : Bool) (regions : List text.RegionText.RegionText) → StandsOwn s first solo armed regions → IsFed channels first armed →
    settings_of s channels ≡ Ok (record { input = first; solo = solo; armed = armed })
unfolding settings_of
settings-read s channels first solo armed regions at is = rw (input-read s channels first at.at_input is.input, at.at_solo, at.at_arm, able-read first armed is.able) refl

made-read : (q : text.RouteText.RouteText) (first : Option ℕ) (solo armed : Bool) (regions : Listed text.RegionText.RegionText) → IsRoute q → IsHeard q → IsFed q.named.channels first armed →
    length regions.items ≤ 256 → regions.room ≡ 256 → All (Reads (region_of Two) region_table) regions.items → Reads (track_of Two) track_table (made q first solo armed regions)
unfolding track_of
made-read q first solo armed regions range is fed few room all p =
    let s : Section = record { place = p; members = track_table (made q first solo armed regions) } in
    let at = in-track p q first solo armed regions in
    let own = own-in-track p q first solo armed regions in
    rw (
      own.known_keys,
      named-read s q at is range,
      settings-read s q.named.channels first solo armed regions.items own fed,
      strip-read s q at is,
      tables-read s key.Send 8 send_table q.sends.items at.sends range.few,
      tables-read s key.Region 256 region_table regions.items own.at_region few,
      entries-read (region_of Two) region_table _ 256 regions room all,
      entries-read send_of send_table _ 8 q.sends is.room (sends-read q is),
    ) refl

-- what a track keeps by its types, and the room of its regions
pub record IsOwn (k : text.TrackText.TrackText) : Type 0 where
  pub route : IsHeard k.route
  pub sources : All (λ r. is_name r.source ≡ true) k.own.regions.items
  pub room : k.own.regions.room ≡ 256

pub track-read : (k : text.TrackText.TrackText) → IsTrack k → IsOwn k → Reads (track_of Two) track_table k
track-read k range is =
    let settings = k.own.settings in
    subst (Reads (track_of Two) track_table) (same range.named)
    (made-read k.route settings.input settings.solo settings.armed k.own.regions range.route is.route (record { input = range.input; able = range.armed }) range.few is.room
    (λ i d h. region-read _ (range.regions i d h) (is.sources i d h)))
  where
    same : k.own.named ≡ k.route.named → made k.route k.own.settings.input k.own.settings.solo k.own.settings.armed k.own.regions ≡ k
    same e = ap (λ (n : text.Named.Named). let own : text.TrackOwn.TrackOwn = record { named = n; settings = k.own.settings; regions = k.own.regions } in let k' : text.TrackText.TrackText = record { route = k.route; own = own } in k') (sym e)
