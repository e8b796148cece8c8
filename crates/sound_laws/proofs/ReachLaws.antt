-- Fewer links reach no further.
use Rattle.std.proofs.Common.{ℕ, List}
use Rattle.std.specs.Prelude.{IsTrue}
use Rattle.sound_model.specs.Routes.{Route, Reaches, by_link, then_on, links}
use Rattle.sound_laws.specs.Desks.{FewerLinksNoCycle}

reaches_too : (fewer routes : List Route) → ((from to : ℕ) → IsTrue (links fewer from to) → IsTrue (links routes from to)) → (from to : ℕ) → Reaches fewer from to → Reaches routes from to
reaches_too fewer routes old from to (by_link l) = by_link (old from to l)
reaches_too fewer routes old from to (then_on {next = g} l rest) = then_on {next = g} (old from g l) (reaches_too fewer routes old g to rest)

pub fewer_links_no_cycle : FewerLinksNoCycle
fewer_links_no_cycle fewer routes old none r back = none r (reaches_too fewer routes old r r back)
