-- The regions so far.
use Rattle.std.proofs.Common.{◌≡◌}
use Rattle.made_session.specs.Each.{each_below}
use Rattle.made_session.specs.Made.{region}
use Rattle.made_session.proofs.regions.playlist.Given as goal

abbrev pub invariant-loop-j : goal.invariant-loop-j
invariant-loop-j l = l.list ≡ each_below region l.j
