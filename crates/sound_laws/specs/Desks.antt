-- What is said of tracks, busses and the master.
use Rattle.std.specs.Prelude.{◌≡◌, ◌↔◌, ℕ, suc, ◌+◌, ◌<◌, ◌≤◌, ℤ, pos, ◌+ℤ◌, Bool, true, false, ◌&&◌, ◌==◌, if◌then◌else◌, List, [], ◌∷◌, length, Some, None, IsTrue, slice_get}
use Rattle.std.specs.List.{AllByRecursion}
use Rattle.sound_model.specs.Numbers.{unity, clip}
use Rattle.sound_model.specs.Lanes.{gain_at}
use Rattle.sound_model.specs.Routes.{Route, leads_to, feeds, any_solo, links, NoCycle, has_cycle, fed, route_input, route_post, input_within}

-- A route that gives nothing at x: its output is silent, and so is all that it feeds others, before and after its fader.
pub record IsSilent (routes : List Route) (samples : ℕ → ℕ → ℤ) (x : ℕ) (place : ℕ) (q : Route) : Type 0 where
  pub output : (c : ℕ) → route_post routes samples x place c ≡ pos 0
  pub links : (to channels c : ℕ) → fed (any_solo routes) x to channels c q (route_input routes samples x place) ≡ pos 0

abbrev pub MutedIsSilent : Type 0
MutedIsSilent = (routes : List Route) (samples : ℕ → ℕ → ℤ) (x place : ℕ) (q : Route) → slice_get routes place ≡ Some q →
    q.muted ≡ true → IsSilent routes samples x place q

abbrev pub SoloSilencesOtherTracks : Type 0
SoloSilencesOtherTracks = (routes : List Route) (samples : ℕ → ℕ → ℤ) (x place t : ℕ) (q : Route) → slice_get routes place ≡ Some q →
    q.track ≡ Some t → q.soloed ≡ false → any_solo routes ≡ true → IsSilent routes samples x place q

abbrev pub OnlyLinksFeed : Type 0
OnlyLinksFeed = (solo : Bool) (x to channels c : ℕ) (q : Route) (input : ℕ → ℤ) → feeds q to ≡ false → fed solo x to channels c q input ≡ pos 0

-- the test of a cycle finds one exactly where a route leads back to itself
abbrev pub CyclesAreFound : Type 0
CyclesAreFound = (routes : List Route) → (has_cycle routes ≡ false) ↔ NoCycle routes

-- where each link is one of others that make no cycle, there is none
abbrev pub FewerLinksNoCycle : Type 0
FewerLinksNoCycle = (fewer routes : List Route) → ((from to : ℕ) → IsTrue (links fewer from to) → IsTrue (links routes from to)) → NoCycle routes → NoCycle fewer

abbrev pub DeeperIsTheSame : Type 0
DeeperIsTheSame = (routes : List Route) (samples : ℕ → ℕ → ℤ) (x further place c : ℕ) → NoCycle routes →
    input_within (further + length routes) routes samples x place c ≡ route_input routes samples x place c

-- a route at unity at x that is neither soloed nor muted, and sends nothing
pub record IsPlain (x : ℕ) (q : Route) : Type 0 where
  pub gain : gain_at q.mode q.fader q.lane x ≡ unity
  pub left : q.left ≡ unity
  pub right : q.right ≡ unity
  pub muted : q.muted ≡ false
  pub soloed : q.soloed ≡ false
  pub sends : q.sends ≡ []

-- the clips of the inputs of all routes whose output leads to one of so many channels, together, for channel c of it;
-- the routes stand from place f on, and one channel feeds both of two
abbrev pub sum_of_clips : (ℕ → ℕ → ℤ) → ℕ → ℕ → ℕ → ℕ → List Route → ℤ
sum_of_clips inputs to channels c f [] = pos 0
sum_of_clips inputs to channels c f (q ∷ qs) =
    (if leads_to to q.target then clip (inputs f (if q.channels == 1 && channels == 2 then 0 else c)) else pos 0)
    +ℤ sum_of_clips inputs to channels c (suc f) qs

-- On a plain desk each bus, and the master, gives the clip of the sum of the clips of what leads to it.
abbrev pub PlainDeskSums : Type 0
PlainDeskSums = (routes : List Route) (samples : ℕ → ℕ → ℤ) (x place c : ℕ) (r : Route) → NoCycle routes → AllByRecursion (IsPlain x) routes →
    slice_get routes place ≡ Some r → r.track ≡ None →
    route_post routes samples x place c ≡ clip (sum_of_clips (route_input routes samples x) place r.channels c 0 routes)

-- ---- channels

-- Each route has one channel or two, and each link leads to a route with no fewer.
pub record LeadsWide (routes : List Route) : Type 0 where
  pub some : (f : ℕ) (q : Route) → slice_get routes f ≡ Some q → (1 ≤ q.channels) × (q.channels ≤ 2)
  pub wide : (f to : ℕ) (q r : Route) → slice_get routes f ≡ Some q → slice_get routes to ≡ Some r → feeds q to ≡ true → q.channels ≤ r.channels

-- two give the same samples of each track on the channels that its route has
abbrev pub AgreeOnOwn : List Route → (ℕ → ℕ → ℤ) → (ℕ → ℕ → ℤ) → Type 0
AgreeOnOwn routes samples others = (f t c : ℕ) (q : Route) → slice_get routes f ≡ Some q → q.track ≡ Some t → c < q.channels → samples t c ≡ others t c

-- What a route gives on its channels depends on the tracks' own channels alone.
abbrev pub OnlyOwnChannels : Type 0
OnlyOwnChannels = (routes : List Route) (samples others : ℕ → ℕ → ℤ) (x place c : ℕ) (r : Route) → LeadsWide routes → AgreeOnOwn routes samples others →
    slice_get routes place ≡ Some r → c < r.channels → route_post routes samples x place c ≡ route_post routes others x place c
