-- The tests that compute are the facts.
use Rattle.std.specs.Prelude.{◌≡◌, ◌↔◌, ℕ, ◌<◌, List, length, Some, None, IsTrue}
use Rattle.sound_model.specs.Routes.{Route, Reaches, NoCycle}
use Rattle.sound_model.specs.Reach.{reaches}
use Rattle.route_graph.specs.Cycles.{first_on_cycle, IsFirstOnCycle, Closes, with_link}

abbrev pub ReachingIsTested : Type 0
ReachingIsTested = (routes : List Route) (from to : ℕ) → IsTrue (reaches routes from to) ↔ Reaches routes from to

abbrev pub FirstOnCycleIsFound : Type 0
FirstOnCycleIsFound = (routes : List Route) (r : ℕ) → (first_on_cycle routes ≡ Some r) ↔ IsFirstOnCycle routes r

abbrev pub NoneIsFoundWithoutCycle : Type 0
NoneIsFoundWithoutCycle = (routes : List Route) → (first_on_cycle routes ≡ None) ↔ NoCycle routes

-- a link closes a cycle exactly where, with it, its first route leads back to itself, though no route did before
abbrev pub ClosingIsACycle : Type 0
ClosingIsACycle = (routes : List Route) (from to : ℕ) → from < length routes → NoCycle routes → Closes routes from to ↔ Reaches (with_link routes from to) from from

-- and where it closes none, no route leads back to itself with it either
abbrev pub OpenLinksMakeNoCycle : Type 0
OpenLinksMakeNoCycle = (routes : List Route) (from to : ℕ) → NoCycle routes → ¬ (Closes routes from to) → NoCycle (with_link routes from to)
