-- An order in which routes can be processed: each once, and no route before one that feeds it.
use Rattle.std.specs.Prelude.{◌≡◌, ℕ, ◌<◌, List, length, All, Contains, Option, Some, None, slice_get, IsTrue, Result, Ok, Err}
use Rattle.sound_model.specs.Routes.{Route, links}
use Rattle.session_model.specs.Lists.{AreApart}
use Rattle.route_graph.specs.declared.refusal.OrderRefusal.{OrderRefusal}
use Rattle.route_graph.specs.declared.refusal.OrderRefusal.TheVariants.{Cycle, NoMemory}

-- where a link leads from one route to another, the first stands before the second
abbrev pub FeedersFirst : List Route → List ℕ → Type 0
FeedersFirst routes order = (i j f t : ℕ) → slice_get order i ≡ Some f → slice_get order j ≡ Some t → IsTrue (links routes f t) → i < j

-- The places of routes, in an order in which they can be processed.
pub record IsOrder (routes : List Route) (order : List ℕ) : Type 0 where
  -- each is the place of a route
  pub places : All (λ r. r < length routes) order
  -- every route stands in it
  pub every : (r : ℕ) → r < length routes → Contains order r
  -- no route stands in it twice
  pub once : AreApart order
  -- so there are as many places as routes
  pub long : length order ≡ length routes
  pub feeders_first : FeedersFirst routes order

-- what is answered names the first route on a cycle exactly where there is one; want of memory alone is free
abbrev pub NamesCycle : {T : Type 0} → Option ℕ → Result T OrderRefusal → Type 0
NamesCycle found (Ok order) = found ≡ None
NamesCycle found (Err (Cycle r)) = found ≡ Some r
NamesCycle found (Err NoMemory) = Unit {0}
