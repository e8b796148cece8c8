use Rattle.std.proofs.Common.{◌≡◌, ◌*◌, map, take}
use Rattle.route_mix.specs.Blocks.{silence}
use Rattle.route_mix.proofs.blocks.new_sounds.Given as goal

-- there is a silent block for each route so far
abbrev pub invariant-loop-route : goal.invariant-loop-route
invariant-loop-route l = l.blocks.items ≡ map silence (map (λ q. l.s.block * q.channels) (take l.route-index l.routes))
