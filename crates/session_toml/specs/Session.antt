-- The session that bytes are, or the first rule that they break (own; TOML 1.0 by the reading of `toml`).
use Rattle.std.specs.Prelude.{ℕ, List, ◌++◌, map, Option, Some, None, slice_get, Ok, Err}
use Rattle.std.specs.Option.{option_and_then}
use Rattle.route_graph.specs.Cycles.{first_on_cycle}
use Rattle.session_model.specs.Views as views
use Rattle.session_model.specs.declared.route.Route.{Route}
use Rattle.session_model.specs.declared.refusal.SessionRefusal.TheVariants.{Cycle}
use Rattle.session_model.specs.declared.session.Session.{Session}
use Rattle.session_walk.specs.declared.said.Written.{Written}
use Rattle.session_walk.specs.declared.said.RouteText.{RouteText}
use Rattle.session_walk.specs.declared.said.TrackOwn.{TrackOwn}
use Rattle.session_walk.specs.Section.{Read, ◌>>=◌}
use Rattle.session_walk.specs.Text.{written}
use Rattle.session_toml.specs.Rules.{rules}
use Rattle.session_toml.specs.Built.{session_in}

-- the routes of a text: the tracks', then the busses
abbrev pub routes_of : Written → List RouteText
routes_of w = map (λ k. k.route) w.tracks.items ++ w.busses.items

abbrev pub tracks_of : Written → List TrackOwn
tracks_of w = map (λ k. k.own) w.tracks.items

abbrev pub rules_of : Written → Read (Unit {0})
rules_of w = rules (routes_of w) (tracks_of w) w.sources.items w.head.channels

abbrev pub built : Written → Session
built w = session_in w.head w.sources.items (routes_of w) (tracks_of w) w.master

-- the session, but for the rule on cycles
unfoldable pub laid_out : List ℕ → Read Session
laid_out bytes = do
  w ← written bytes
  kept ← rules_of w
  Ok (built w)

-- the first route that leads back to itself by outputs and sends
abbrev pub on_cycle : Session → Option Route
on_cycle s = option_and_then (slice_get s.routes.items) (first_on_cycle (views.routes_of s))

abbrev pub refuse_cycle : Session → Option Route → Read Session
refuse_cycle s None = Ok s
refuse_cycle s (Some q) = Err (Cycle q.name)

abbrev pub without_cycle : Session → Read Session
without_cycle s = refuse_cycle s (on_cycle s)

-- the session that bytes are, or the first rule that they break
unfoldable pub session : List ℕ → Read Session
session bytes = laid_out bytes >>= without_cycle
