use Rattle.std.specs.Prelude.{take}
use Rattle.engine_core.specs.Events.{and_given, given}
use Rattle.engine_core.specs.Going.{IsGoing}
use Rattle.engine_core.proofs.engine.Engine.events.Given as goal

abbrev pub ghost-event : goal.ghost-event
ghost-event g a = g.on.opening

abbrev pub invariant-loop-at : goal.invariant-loop-at
invariant-loop-at g l = IsGoing g.M.Media.outside g.I.Source.outside g.C.Source.outside g.W.Sink.outside g.O.Sink.outside (given (and_given (take l.at l.events) g.on)) l.self
