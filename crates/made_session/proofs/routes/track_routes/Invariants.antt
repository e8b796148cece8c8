-- The routes so far.
use Rattle.std.proofs.Common.{◌≡◌}
use Rattle.made_session.specs.Each.{each_below, listed}
use Rattle.made_session.specs.Made.{track_route}
use Rattle.made_session.proofs.routes.track_routes.Given as goal

abbrev pub invariant-loop-t : goal.invariant-loop-t
invariant-loop-t l = l.list ≡ listed 64 (each_below (track_route l.n) l.t)
