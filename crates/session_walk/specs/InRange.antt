-- What the walk over a text has seen of what it reads: each key is in range (own).
use Rattle.std.specs.Prelude.{◌≡◌, ◌+◌, ◌*◌, ◌^◌, ◌<◌, ◌≤◌, true, false, length, All, IfSome, IsSome, codes, bytes_eq}
use Rattle.session_model.specs.declared.session.SourceDecl.{SourceDecl}
use Rattle.session_walk.specs.declared.said as text

pub record IsHead (h : text.Head.Head) : Type 0 where
  -- frames a second
  pub slowest : 8000 ≤ h.rate
  pub fastest : h.rate ≤ 192000
  -- the channels of the master
  pub channels_least : 1 ≤ h.channels
  pub channels_most : h.channels ≤ 2
  -- the frames of a block
  pub block_least : 1 ≤ h.block
  pub block_most : h.block ≤ 4096
  -- the items of a ring, and its frames
  pub depth_least : 2 ≤ h.depth
  pub depth_most : h.depth ≤ 256
  pub ring : h.depth * h.block ≤ 65536

pub record IsSource (d : SourceDecl) : Type 0 where
  -- one channel or two
  pub channels_least : 1 ≤ d.channels
  pub channels_most : d.channels ≤ 2

-- a region within its limits
pub record IsRegionText (r : text.RegionText.RegionText) : Type 0 where
  -- an id is 1..999,999
  pub id_least : 1 ≤ r.id
  pub id_most : r.id ≤ 999999
  -- it begins before frame 2^40 of its source
  pub start : r.span.start < 2 ^ 40
  -- it has 1..2^40 frames
  pub some : 1 ≤ r.span.length
  pub long : r.span.length ≤ 2 ^ 40
  -- it ends at frame 2^40 of its source, or before
  pub source_end : r.span.start + r.span.length ≤ 2 ^ 40
  -- it ends at position 2^40, or before
  pub end : r.span.at + r.span.length ≤ 2 ^ 40
  pub layer : r.layer ≤ 65535
  pub gain : r.gain ≤ 262144
  -- its fades don't overlap
  pub fades : r.fades.fade_in + r.fades.fade_out ≤ r.span.length

pub record IsRoute (q : text.RouteText.RouteText) : Type 0 where
  -- not named like the master
  pub other : bytes_eq q.named.name (codes "master") ≡ false
  -- one channel or two
  pub channels_least : 1 ≤ q.named.channels
  pub channels_most : q.named.channels ≤ 2
  -- at most 8 sends
  pub few : length q.sends.items ≤ 8

pub record IsTrack (k : text.TrackText.TrackText) : Type 0 where
  pub route : IsRoute k.route
  pub named : k.own.named ≡ k.route.named
  -- its channels are among the input's 8
  pub input : IfSome k.own.settings.input (λ first. first + k.route.named.channels ≤ 8)
  -- armed only with an input
  pub armed : k.own.settings.armed ≡ true → IsSome k.own.settings.input
  -- at most 256 regions
  pub few : length k.own.regions.items ≤ 256
  pub regions : All IsRegionText k.own.regions.items

pub record IsInRange (w : text.Written.Written) : Type 0 where
  pub head : IsHead w.head
  -- at most 64 sources, 32 tracks, and 63 routes beside the master
  pub few_sources : length w.sources.items ≤ 64
  pub few_tracks : length w.tracks.items ≤ 32
  pub few_routes : length w.tracks.items + length w.busses.items ≤ 63
  -- the list of sources has its room
  pub room : w.sources.room ≡ 64
  pub sources : All IsSource w.sources.items
  pub tracks : All IsTrack w.tracks.items
  pub busses : All IsRoute w.busses.items
