-- The routes that lead back to themselves, and the links that would make such.
use Rattle.std.specs.Prelude.{◌≡◌, ℕ, zero, suc, ◌<◌, ◌⊎◌, true, List, [], ◌∷◌, length, Option, position}
use Rattle.std.specs.List.{range_with_len}
use Rattle.sound_model.specs.Routes.{Route, Reaches}
use Rattle.sound_model.specs.Reach.{reaches}

-- the first route, in their order, that leads back to itself
unfoldable pub first_on_cycle : List Route → Option ℕ
first_on_cycle routes = position (λ r. reaches routes r r) (range_with_len 0 (length routes))

-- The first route that leads back to itself.
pub record IsFirstOnCycle (routes : List Route) (r : ℕ) : Type 0 where
  pub on_cycle : Reaches routes r r
  -- no route before it does
  pub first : (q : ℕ) → q < r → ¬ (Reaches routes q q)

-- A link from one route to another would close a cycle: they are one, or the second leads to the first already.
abbrev pub Closes : List Route → ℕ → ℕ → Type 0
Closes routes from to = (from ≡ to) ⊎ Reaches routes to from

-- a route with a send more
abbrev pub with_send : Route → ℕ → Route
with_send q to = record q { sends = record { to = to; pre = true; gain = 0 } ∷ q.sends }

-- the routes with a link more, from one to another
abbrev pub with_link : List Route → ℕ → ℕ → List Route
with_link [] from to = []
with_link (q ∷ qs) zero to = with_send q to ∷ qs
with_link (q ∷ qs) (suc from) to = q ∷ with_link qs from to
