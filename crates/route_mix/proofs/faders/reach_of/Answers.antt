use Rattle.std.proofs.Common.{arith}
use Rattle.route_mix.proofs.FaderLemmas.{reach_more, reach_all}
use Rattle.route_mix.proofs.faders.reach_of.Goals as goal

pub loop-place-preserved : goal.loop-place-preserved
loop-place-preserved c = reach_more c.args.places.now c.loop-place.place-index c.loop-place.reach.first c.loop-place.reach.last _ _ (omega arith)
    (omega arith) (omega arith) (omega arith) (omega arith) c.loop-place.invariant

pub returns : goal.returns
returns c = reach_all c.args.places.now c.loop-place.place-index c.loop-place.reach.first c.loop-place.reach.last (omega arith) c.loop-place.invariant
