-- A process that is new plays its session.
use Rattle.std.proofs.Common.{◌≡◌, ℕ, ◌<◌, length, refl, ap, slice_index_or}
use Rattle.std.specs.Option.{option_map_or}
use Rattle.std.proofs.lemmas.Option.{slice_get_read}
use Rattle.session_model.specs.declared.route.Route.{Route}
use Rattle.session_model.specs.declared.session.Session.{Session}
use Rattle.session_model.specs.Formed.{channels_at}

-- the channels of a track are those of its route
pub channels_here : (s : Session) (t : ℕ) (q : Route) → t < length s.routes.items → q ≡ slice_index_or s.routes.items t q → channels_at s t ≡ q.channels
channels_here s t q within is = ap (λ o. option_map_or (λ r. r.channels) o 0) (slice_get_read s.routes.items (length s.routes.items) t q refl within is)
