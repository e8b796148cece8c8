-- When a session is formed: every range, and every relation between its parts, but for cycles of routes (own).
-- A name, a file name, a lane and a playlist keep their own rules by their types.
use Rattle.std.specs.Prelude.{◌≡◌, ℕ, suc, ◌+◌, ◌*◌, ◌<◌, ◌≤◌, ◌==◌, nat_lt, if◌then◌else◌, IsTrue, [], length, map, All, slice_get, None, IsSome, IsSomeAnd, IfSome, codes}
use Rattle.std.specs.Option.{option_map_or}
use Rattle.sound_model.specs.Numbers.{unity}
use Rattle.sound_model.specs.Regions.{Region}
use Rattle.session_model.specs.declared.route.RouteKind.{RouteKind}
use Rattle.session_model.specs.declared.route.RouteKind.TheVariants.{Track as OfTrack, Bus, Master}
use Rattle.session_model.specs.declared.route.Route.{Route}
use Rattle.session_model.specs.declared.track.Track.{Track}
use Rattle.session_model.specs.declared.session.SourceDecl.{SourceDecl}
use Rattle.session_model.specs.declared.session.Session.{Session}
use Rattle.session_model.specs.Lists.{EachAt, AreApart}

pub record IsBetween (low n high : ℕ) : Type 0 where
  pub least : low ≤ n
  pub most : n ≤ high

-- ---- the numbers of a session

pub record HasLimits (s : Session) : Type 0 where
  -- frames a second
  pub rate : IsBetween 8000 s.rate 192000
  -- the frames of a block
  pub block : IsBetween 1 s.block 4096
  -- the items of a ring
  pub depth : IsBetween 2 s.depth 256
  -- the frames of a ring
  pub ring : s.depth * s.block ≤ 65536
  pub sources : length s.sources.items ≤ 64
  pub tracks : length s.tracks.items ≤ 32
  pub routes : length s.routes.items ≤ 64
  -- a route for each track, and the master
  pub master : length s.tracks.items < length s.routes.items

pub record HasNames (s : Session) : Type 0 where
  -- no two sources have one name
  pub sources : AreApart (map (λ d. d.name) s.sources.items)
  -- no two routes have one name; a source may have a route's
  pub routes : AreApart (map (λ q. q.name) s.routes.items)

pub record IsFormedSource (d : SourceDecl) : Type 0 where
  -- one channel or two
  pub channels : IsBetween 1 d.channels 2

-- ---- routes

-- what stands at a place of so many routes with so many tracks: the tracks, then the busses, then the master
abbrev pub kind_at : ℕ → ℕ → ℕ → RouteKind
kind_at tracks routes place = if nat_lt place tracks then OfTrack place else (if suc place == routes then Master else Bus)

-- A route may feed the one at place `to`.
pub record MayFeed (s : Session) (q : Route) (to : ℕ) : Type 0 where
  -- it is no track
  pub no_track : length s.tracks.items ≤ to
  -- it is there, and hasn't fewer channels
  pub wide : IsSomeAnd (slice_get s.routes.items to) (λ next. q.channels ≤ next.channels)

-- The master leads nowhere.
pub record IsMaster (q : Route) : Type 0 where
  pub name : q.name ≡ codes "master"
  pub left : q.left ≡ unity
  pub right : q.right ≡ unity
  pub target : q.target ≡ None
  pub sends : q.sends.items ≡ []

-- where the output of a route leads: every route but the master has one
abbrev pub LeadsOn : Session → Route → RouteKind → Type 0
LeadsOn s q (OfTrack t) = IsSomeAnd q.target (MayFeed s q)
LeadsOn s q Bus = IsSomeAnd q.target (MayFeed s q)
LeadsOn s q Master = IsMaster q

pub record IsFormedRoute (s : Session) (place : ℕ) (q : Route) : Type 0 where
  -- tracks in their order, then busses, then the master
  pub kind : q.kind ≡ kind_at (length s.tracks.items) (length s.routes.items) place
  -- one channel or two
  pub channels : IsBetween 1 q.channels 2
  pub output : LeadsOn s q q.kind
  -- at most 8 sends, and room for all of them
  pub few : length q.sends.items ≤ 8
  pub room : 8 ≤ q.sends.room
  pub sends : All (λ l. MayFeed s q l.to) q.sends.items
  -- to different routes
  pub apart : AreApart (map (λ l. l.to) q.sends.items)

-- ---- tracks

-- the channels of the route at a place, 0 where there is none
abbrev pub channels_at : Session → ℕ → ℕ
channels_at s place = option_map_or (λ q. q.channels) (slice_get s.routes.items place) 0

-- the region's source is there, and has so many channels
abbrev pub HasSource : Session → ℕ → Region → Type 0
HasSource s channels r = IsSomeAnd (slice_get s.sources.items r.source) (λ d. d.channels ≡ channels)

pub record IsFormedTrack (s : Session) (place : ℕ) (k : Track) : Type 0 where
  -- track t has route t
  pub route : k.route ≡ place
  -- its channels are among the input's 8
  pub input : IfSome k.input (λ first. first + channels_at s place ≤ 8)
  -- armed only with an input
  pub armed : IsTrue k.armed → IsSome k.input
  -- its regions show sources of its channels
  pub regions : All (HasSource s (channels_at s place)) k.list

-- ---- the session

pub record IsFormed (s : Session) : Type 0 where
  pub limits : HasLimits s
  pub names : HasNames s
  pub sources : All IsFormedSource s.sources.items
  pub routes : EachAt (IsFormedRoute s) s.routes.items
  pub tracks : EachAt (IsFormedTrack s) s.tracks.items
