-- Tracks, busses and the master, and how their sound comes together (Ardour's manual, busses and sends; what is open
-- and how one channel feeds two are own). Routes go by their place in a list: tracks, then busses, then the master.
use Rattle.std.specs.Prelude.{ℕ, zero, suc, ◌-◌, ℤ, pos, ◌+ℤ◌, Bool, true, false, not, ◌&&◌, ◌||◌, ◌==◌, if◌then◌else◌, List, [], ◌∷◌, length, Option, Some, None, is_some, slice_get, IsTrue}
use Rattle.std.specs.List.{list_any, range_with_len}
use Rattle.sound_model.specs.Numbers.{scale, clip}
use Rattle.sound_model.specs.Lanes.{Point, Mode, gain_at}

-- a send: to which route, whether before the fader, and with which gain
pub record Send : Type 0 where
  pub to : ℕ
  pub pre : Bool
  pub gain : ℕ

pub record Route : Type 0 where
  -- the number of a track, or none of a bus and the master
  pub track : Option ℕ
  pub channels : ℕ
  pub fader : ℕ
  pub mode : Mode
  pub lane : List Point
  pub muted : Bool
  -- only a track is soloed
  pub soloed : Bool
  pub left : ℕ
  pub right : ℕ
  -- where the output leads; the master has none
  pub target : Option ℕ
  pub sends : List Send

-- ---- links

abbrev pub leads_to : ℕ → Option ℕ → Bool
leads_to to None = false
leads_to to (Some r) = r == to

-- the output of a route, or one of its sends, leads to another
abbrev pub feeds : Route → ℕ → Bool
feeds q to = leads_to to q.target || list_any (λ s. s.to == to) q.sends

-- there is a link from one route to another, by their places in the list
abbrev pub links : List Route → ℕ → ℕ → Bool
links [] from to = false
links (q ∷ qs) zero to = feeds q to
links (q ∷ qs) (suc from) to = links qs from to

-- one route leads to another by one or more links
pub data Reaches (routes : List Route) : ℕ → ℕ → Type 0 where
  by_link : {from to : ℕ} → IsTrue (links routes from to) → Reaches routes from to
  then_on : {from next to : ℕ} → IsTrue (links routes from next) → Reaches routes next to → Reaches routes from to

-- no route leads back to itself
abbrev pub NoCycle : List Route → Type 0
NoCycle routes = (r : ℕ) → ¬ (Reaches routes r r)

-- a chain of so many links, one after another, of which the last leads to a route
abbrev pub has_chain : List Route → ℕ → ℕ → Bool
has_chain routes zero to = true
has_chain routes (suc long) to = list_any (λ f. links routes f to && has_chain routes long f) (range_with_len 0 (length routes))

-- Some route leads back to itself: only a chain that meets a route twice has as many links as there are routes.
abbrev pub has_cycle : List Route → Bool
has_cycle routes = list_any (has_chain routes (length routes)) (range_with_len 0 (length routes))

-- ---- what is open

abbrev pub any_solo : List Route → Bool
any_solo routes = list_any (λ q. is_some q.track && q.soloed) routes

-- a route is open where it isn't muted and either is no track, or no track is soloed, or is itself soloed
abbrev pub is_open : Bool → Route → Bool
is_open solo q = not q.muted && (not (is_some q.track) || not solo || q.soloed)

-- ---- one route, given its input v on a channel at place x

abbrev pub pre : Bool → Route → ℤ → ℤ
pre solo q v = if is_open solo q then v else pos 0

abbrev pub post : Bool → Route → ℕ → ℤ → ℤ
post solo q x v = if is_open solo q then clip (scale v (gain_at q.mode q.fader q.lane x)) else pos 0

-- what a route gives to channel c of one with so many channels, of the values of its own channels:
-- one channel feeds two through the gains left and right, and equal numbers go channel by channel
abbrev pub given : Route → ℕ → ℕ → (ℕ → ℤ) → ℤ
given q channels c value = if q.channels == 1 && channels == 2 then scale (value 0) (if c == 0 then q.left else q.right) else value c

-- ---- what a route takes in

-- what the sends of a route to another give, before and after the fader
abbrev pub sent : ℕ → Route → ℕ → ℕ → (ℕ → ℤ) → (ℕ → ℤ) → List Send → ℤ
sent to q channels c before behind [] = pos 0
sent to q channels c before behind (s ∷ ss) =
    (if s.to == to then given q channels c (λ k. scale (if s.pre then before k else behind k) s.gain) else pos 0)
    +ℤ sent to q channels c before behind ss

-- what the output and the sends of a route to another give
abbrev pub fed : Bool → ℕ → ℕ → ℕ → ℕ → Route → (ℕ → ℤ) → ℤ
fed solo x to channels c q input = let before = λ (k : ℕ). pre solo q (input k) in let behind = λ (k : ℕ). post solo q x (input k) in
    (if leads_to to q.target then given q channels c behind else pos 0) +ℤ sent to q channels c before behind q.sends

-- what the routes of a list, which stand from place f on, give together; `inputs` has the input of each, by place and channel
abbrev pub fed_by : Bool → ℕ → ℕ → ℕ → ℕ → (ℕ → ℕ → ℤ) → ℕ → List Route → ℤ
fed_by solo x to channels c inputs f [] = pos 0
fed_by solo x to channels c inputs f (q ∷ qs) = fed solo x to channels c q (inputs f) +ℤ fed_by solo x to channels c inputs (suc f) qs

-- the input of a route with these channels: a track's own sample, or the clip of the sum of all that leads there
abbrev pub taken_in : List Route → (ℕ → ℕ → ℤ) → ℕ → (ℕ → ℕ → ℤ) → ℕ → ℕ → Option ℕ → ℕ → ℤ
taken_in routes samples x inputs to channels (Some t) c = samples t c
taken_in routes samples x inputs to channels None c = clip (fed_by (any_solo routes) x to channels c inputs 0 routes)

-- the same, where there is such a route
abbrev pub input_here : List Route → (ℕ → ℕ → ℤ) → ℕ → (ℕ → ℕ → ℤ) → ℕ → Option Route → ℕ → ℤ
input_here routes samples x inputs to None c = pos 0
input_here routes samples x inputs to (Some r) c = taken_in routes samples x inputs to r.channels r.track c

-- the input of a route, by its place and channel, over at most so many links; `samples` has each track's sample by channel
unfoldable pub input_within : ℕ → List Route → (ℕ → ℕ → ℤ) → ℕ → ℕ → ℕ → ℤ
input_within zero routes samples x to c = pos 0
input_within (suc links) routes samples x to c =
    input_here routes samples x (input_within links routes samples x) to (slice_get routes to) c

-- ---- the values of a route at place x

abbrev pub route_input : List Route → (ℕ → ℕ → ℤ) → ℕ → ℕ → ℕ → ℤ
route_input routes samples x to c = input_within (length routes) routes samples x to c

abbrev pub post_of : Bool → ℕ → ℤ → Option Route → ℤ
post_of solo x v None = pos 0
post_of solo x v (Some q) = post solo q x v

-- what a route gives through its output, before left and right
abbrev pub route_post : List Route → (ℕ → ℕ → ℤ) → ℕ → ℕ → ℕ → ℤ
route_post routes samples x to c = post_of (any_solo routes) x (route_input routes samples x to c) (slice_get routes to)

-- the sound of the run: the master is the last route
abbrev pub master_sample : List Route → (ℕ → ℕ → ℤ) → ℕ → ℕ → ℤ
master_sample routes samples x c = route_post routes samples x (length routes - 1) c
