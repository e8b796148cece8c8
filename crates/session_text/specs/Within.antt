-- Places that the parts of a session name are places of its lists.
use Rattle.std.specs.Prelude.{ℕ, ◌<◌, All, IfSome}
use Rattle.session_model.specs.declared.route.Route.{Route}
use Rattle.session_model.specs.declared.track.Track.{Track}

-- of a route, among so many routes
pub record LeadsWithin (routes : ℕ) (q : Route) : Type 0 where
  pub out : IfSome q.target (λ to. to < routes)
  pub sends : All (λ l. l.to < routes) q.sends.items

-- of a track, among so many sources
abbrev pub ShowsWithin : ℕ → Track → Type 0
ShowsWithin sources k = All (λ r. r.source < sources) k.list
