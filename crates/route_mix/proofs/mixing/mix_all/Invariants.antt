use Rattle.std.proofs.Common.{◌≡◌, length}
use Rattle.route_mix.proofs.MixLemmas.{IsMixedTo}
use Rattle.route_mix.proofs.mixing.mix_all.Given as goal

-- the routes of the order so far had their turn
abbrev pub invariant-loop-r : goal.invariant-loop-r
invariant-loop-r l = record {
  mixed : IsMixedTo l.s l.places l.fn.inputs l.order l.r-index l.inputs l.posts l.sums;
  gains : length l.gains ≡ length l.fn.gains;
}
