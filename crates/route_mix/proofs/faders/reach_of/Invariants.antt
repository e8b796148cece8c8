use Rattle.std.proofs.Common.{take}
use Rattle.route_mix.specs.Faders.{AreWithin}
use Rattle.route_mix.proofs.faders.reach_of.Given as goal

-- the places so far are within
abbrev pub invariant-loop-place : goal.invariant-loop-place
invariant-loop-place l = AreWithin (take l.place-index l.places) l.reach.first l.reach.last
