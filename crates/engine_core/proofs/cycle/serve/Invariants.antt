use Rattle.machine_model.specs.Rest.{BeforeTurn}
use Rattle.worker_pair.specs.Steps.{left_to_do}
use Rattle.worker_pair.specs.Tied.{rings_of}
use Rattle.engine_core.specs.UnderWay.{IsUnderWay}
use Rattle.engine_core.specs.Cycles.{GoesAsMachine, IsServed}
use Rattle.engine_core.specs.Fed.{FeedsSoFar}
use Rattle.engine_core.specs.Lost.{CapturesStand}
use Rattle.engine_core.proofs.cycle.serve.Given as goal

abbrev pub invariant-serving : goal.invariant-serving
invariant-serving g l = record {
  under_way : IsUnderWay g.M.Media.outside g.I.Source.outside g.W.Sink.outside g.on l.run;
  served : IsServed l.initial.run l.run;
  captures : CapturesStand l.initial.run l.run;
  feeds : FeedsSoFar g.on.begun.session l.initial.run l.run;
  as_machine : GoesAsMachine g.on.begun.session BeforeTurn BeforeTurn l.initial.run l.run;
}

abbrev pub decreases-serving : goal.decreases-serving
decreases-serving g l = left_to_do (rings_of l.run.pair)

abbrev pub ghost-turn : goal.ghost-turn
ghost-turn g a = g.on

abbrev pub ghost-gather : goal.ghost-gather
ghost-gather g a = g.on
