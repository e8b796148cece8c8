-- Which routes one route leads to, as a test that computes.
use Rattle.std.specs.Prelude.{ℕ, zero, suc, Bool, ◌&&◌, ◌||◌, List, length}
use Rattle.sound_model.specs.Routes.{Route, links}

-- one route leads to another by one or more links, and all routes between them stand at places below `high`
unfoldable pub reaches_below : List Route → ℕ → ℕ → ℕ → Bool
reaches_below routes zero from to = links routes from to
reaches_below routes (suc high) from to =
    reaches_below routes high from to || (reaches_below routes high from high && reaches_below routes high high to)

-- one route leads to another by one or more links
unfoldable pub reaches : List Route → ℕ → ℕ → Bool
reaches routes from to = reaches_below routes (length routes) from to
