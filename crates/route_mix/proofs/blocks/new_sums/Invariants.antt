use Rattle.std.proofs.Common.{◌≡◌, ◌*◌, map, take}
use Rattle.route_mix.specs.Blocks.{silence}
use Rattle.route_mix.proofs.blocks.new_sums.Given as goal

-- there are silent sums for each route so far
abbrev pub invariant-loop-route : goal.invariant-loop-route
invariant-loop-route l = l.sums.items ≡ map silence (map (λ q. l.s.block * q.channels) (take l.route-index l.routes))
