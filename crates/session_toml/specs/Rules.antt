-- The rules between the parts of a session's text, in their one order (own). The routes are the tracks', then the busses.
use Rattle.std.specs.Prelude.{ℕ, Bool, not, ◌&&◌, ◌||◌, ◌==◌, if◌then◌else◌, List, [], ◌∷◌, ◌++◌, find, Option, Some, None, is_some, Ok, Err, codes, bytes_eq}
use Rattle.std.specs.Option.{option_map, option_and_then, option_map_or}
use Rattle.std.specs.List.{list_any}
use Rattle.session_model.specs.declared.session.SourceDecl.{SourceDecl}
use Rattle.session_model.specs.declared.refusal.SessionRefusal.{SessionRefusal}
use Rattle.session_model.specs.declared.refusal.SessionRefusal.TheVariants.{Twice, SendTwice, RegionTwice, NoSource, NoRoute, NotBus, Channels}
use Rattle.session_walk.specs.declared.said.RouteText.{RouteText}
use Rattle.session_walk.specs.declared.said.SendText.{SendText}
use Rattle.session_walk.specs.declared.said.RegionText.{RegionText}
use Rattle.session_walk.specs.declared.said.TrackOwn.{TrackOwn}
use Rattle.session_walk.specs.Section.{Read, ◌>>=◌}

-- ---- words on lists

-- the first item that is the same as one before it, where those of `before` stand in front
abbrev pub twice_after : {A : Type 0} → (A → A → Bool) → List A → List A → Option A
twice_after same before [] = None
twice_after same before (x ∷ xs) = if list_any (λ y. same y x) before then Some x else twice_after same (before ++ x ∷ []) xs

abbrev pub first_twice : {A : Type 0} → (A → A → Bool) → List A → Option A
first_twice same xs = twice_after same [] xs

-- what is given of the first item of which something is given
abbrev pub first_of : {A B : Type 0} → (A → Option B) → List A → Option B
first_of gives xs = option_and_then gives (find (λ x. is_some (gives x)) xs)

-- ---- what is the same

abbrev pub same_source : SourceDecl → SourceDecl → Bool
same_source d e = bytes_eq d.name e.name

abbrev pub same_route : RouteText → RouteText → Bool
same_route q p = bytes_eq q.named.name p.named.name

-- to one name
abbrev pub same_send : SendText → SendText → Bool
same_send l m = bytes_eq l.to m.to

-- of one id
abbrev pub same_region : RegionText → RegionText → Bool
same_region r t = r.id == t.id

-- ---- what is there

abbrev pub has_source : List SourceDecl → List ℕ → Bool
has_source sources name = list_any (λ d. bytes_eq d.name name) sources

-- the master is always there
abbrev pub has_route : List RouteText → List ℕ → Bool
has_route routes name = bytes_eq name (codes "master") || list_any (λ q. bytes_eq q.named.name name) routes

abbrev pub is_track : List TrackOwn → List ℕ → Bool
is_track tracks name = list_any (λ k. bytes_eq k.named.name name) tracks

-- the channels of a source, 0 where it isn't there
abbrev pub source_channels : List SourceDecl → List ℕ → ℕ
source_channels sources name = option_map_or (λ d. d.channels) (find (λ d. bytes_eq d.name name) sources) 0

-- the channels of a route, the master's where no other has the name
abbrev pub route_channels : List RouteText → ℕ → List ℕ → ℕ
route_channels routes master name = option_map_or (λ q. q.named.channels) (find (λ q. bytes_eq q.named.name name) routes) master

-- ---- what a rule finds

-- the first region whose id stood before on its track
abbrev pub region_twice : TrackOwn → Option SessionRefusal
region_twice k = option_map (λ r. RegionTwice k.named.name r.id) (first_twice same_region k.regions.items)

-- the first source of a track's regions that isn't there
abbrev pub lost_source : List SourceDecl → TrackOwn → Option (List ℕ)
lost_source sources k = option_map (λ r. r.source) (find (λ r. not (has_source sources r.source)) k.regions.items)

-- the first name that passes of those that a route leads to: its output, then its sends
abbrev pub first_target : (List ℕ → Bool) → RouteText → Option (List ℕ)
first_target passes q = if passes q.strip.out then Some q.strip.out else option_map (λ l. l.to) (find (λ l. passes l.to) q.sends.items)

-- a region of the track shows a source of other channels
abbrev pub shows_other : List SourceDecl → TrackOwn → Bool
shows_other sources k = list_any (λ r. not (source_channels sources r.source == k.named.channels)) k.regions.items

-- a route of two channels feeds one of one
abbrev pub narrows : List RouteText → ℕ → RouteText → Bool
narrows routes master q = q.named.channels == 2 && is_some (first_target (λ name. route_channels routes master name == 1) q)

-- ---- the rules

abbrev pub none_of : Option SessionRefusal → Read (Unit {0})
none_of None = Ok tt
none_of (Some refusal) = Err refusal

-- no two routes have one name
abbrev pub routes_once : List RouteText → Read (Unit {0})
routes_once routes = none_of (option_map (λ q. Twice q.named.name) (first_twice same_route routes))

-- nor two sources
abbrev pub sources_once : List SourceDecl → Read (Unit {0})
sources_once sources = none_of (option_map (λ d. Twice d.name) (first_twice same_source sources))

-- no two sends of a route lead to one name
abbrev pub sends_once : List RouteText → Read (Unit {0})
sends_once routes = none_of (option_map (λ q. SendTwice q.named.name) (find (λ q. is_some (first_twice same_send q.sends.items)) routes))

-- no two regions of a track have one id
abbrev pub regions_once : List TrackOwn → Read (Unit {0})
regions_once tracks = none_of (first_of region_twice tracks)

-- each source that is shown is there
abbrev pub sources_there : List SourceDecl → List TrackOwn → Read (Unit {0})
sources_there sources tracks = none_of (option_map NoSource (first_of (lost_source sources) tracks))

-- each route that is led to is there
abbrev pub routes_there : List RouteText → Read (Unit {0})
routes_there routes = none_of (option_map NoRoute (first_of (first_target (λ name. not (has_route routes name))) routes))

-- and is no track
abbrev pub busses_fed : List RouteText → List TrackOwn → Read (Unit {0})
busses_fed routes tracks = none_of (option_map NotBus (first_of (first_target (is_track tracks)) routes))

-- a region shows a source of its track's channels
abbrev pub sources_fit : List SourceDecl → List TrackOwn → Read (Unit {0})
sources_fit sources tracks = none_of (option_map (λ k. Channels k.named.name) (find (shows_other sources) tracks))

-- a route of two channels feeds none of one
abbrev pub targets_fit : List RouteText → ℕ → Read (Unit {0})
targets_fit routes master = none_of (option_map (λ q. Channels q.named.name) (find (narrows routes master) routes))

-- all of them; the master has so many channels
unfoldable pub rules : List RouteText → List TrackOwn → List SourceDecl → ℕ → Read (Unit {0})
rules routes tracks sources master = do
  routes_apart ← routes_once routes
  sources_apart ← sources_once sources
  sends_apart ← sends_once routes
  regions_apart ← regions_once tracks
  shown ← sources_there sources tracks
  there ← routes_there routes
  busses ← busses_fed routes tracks
  alike ← sources_fit sources tracks
  targets_fit routes master
