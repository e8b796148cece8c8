-- What the walks over the links of a session find.
use Rattle.std.specs.Prelude.{◌≡◌, ℕ, suc, ◌+◌, ◌<◌, ◌==◌, true, false, if◌then◌else◌, List, [], ◌∷◌, length, take, count_by, slice_get, slice_index, Some, IfSome, All, IsTrue}
use Rattle.sound_model.specs.Routes as sound
use Rattle.session_model.specs.declared.route.Route.{Route}
use Rattle.session_model.specs.Views.{route_of}
use Rattle.route_graph.specs.Places.{stands, AreOnce}

-- a route by its links
abbrev pub plain : Route → sound.Route
plain q = route_of [] q

-- The links of a route lead to places below a number.
pub record LinksBelow (high : ℕ) (q : Route) : Type 0 where
  pub output : IfSome q.target (λ to. to < high)
  pub sends : All (λ l. l.to < high) q.sends.items

-- by how many links a route leads to another
abbrev pub ways : sound.Route → ℕ → ℕ
ways q t = (if sound.leads_to t q.target then 1 else 0) + count_by (λ s. s.to == t) q.sends

-- by how many links the routes that aren't done lead to one; the routes of the list stand from place f on
unfoldable pub waiting : ℕ → List sound.Route → List ℕ → ℕ → ℕ
waiting f [] done t = 0
waiting f (q ∷ qs) done t = (if stands done f then 0 else ways q t) + waiting (suc f) qs done t

-- Placed are the routes to which no counted link leads.
pub record IsSettled (counts places : List ℕ) : Type 0 where
  pub zero : (t : ℕ) → t < length counts → stands places t ≡ (slice_index counts t == 0)
  pub once : AreOnce places
  -- each is counted
  pub low : (t : ℕ) → stands places t ≡ true → t < length counts

-- Routes with feeders first, and all those that no cycle stands before.
pub record IsPeeled (routes : List sound.Route) (places : List ℕ) : Type 0 where
  -- each is the place of a route
  pub low : (t : ℕ) → stands places t ≡ true → t < length routes
  pub once : AreOnce places
  -- whatever feeds one stands before it
  pub fed : (k f t : ℕ) → slice_get places k ≡ Some t → IsTrue (sound.links routes f t) → stands (take k places) f ≡ true
  -- what isn't placed is fed by what isn't placed
  pub stuck : (t : ℕ) → t < length routes → stands places t ≡ false → (f : ℕ) × (stands places f ≡ false) × IsTrue (sound.links routes f t)
