-- The tracks so far.
use Rattle.std.proofs.Common.{◌≡◌}
use Rattle.made_session.specs.Each.{each_below, listed}
use Rattle.made_session.specs.Made.{track}
use Rattle.made_session.proofs.tracks.track_list.Given as goal

abbrev pub invariant-loop-t : goal.invariant-loop-t
invariant-loop-t l = l.list ≡ listed 32 (each_below (track l.n) l.t)
