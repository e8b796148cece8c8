use Rattle.std.proofs.Common.{◌++◌, take, subst}
use Rattle.std.specs.Prelude.{map}
use Rattle.run_letters.specs.declared.event.Event.TheVariants.{Control}
use Rattle.run_letters.specs.Events.{letter_of}
use Rattle.engine_core.specs.Events.{and_given, given}
use Rattle.engine_core.specs.Going.{IsGoing}
use Rattle.engine_core.proofs.EventLemmas.{one_more, taken_all}
use Rattle.engine_core.proofs.engine.Engine.events.Goals as goal

-- src/events.rt
pub loop-at-preserved : goal.loop-at-preserved
loop-at-preserved g c = let events = c.args.events.now in
    subst (λ l. IsGoing g.M.Media.outside g.I.Source.outside g.C.Source.outside g.W.Sink.outside g.O.Sink.outside (given (record g.on { letters = l })) c.event.new.self)
    (one_more g.on.letters events c.loop-at.at Control c.loop-at-test.true) (c.event.ensures.goes (g.on.letters ++ map letter_of (take c.loop-at.at events)) c.loop-at.invariant)

pub returns : goal.returns
returns g c = subst (λ l. IsGoing g.M.Media.outside g.I.Source.outside g.C.Source.outside g.W.Sink.outside g.O.Sink.outside (given (and_given l g.on)) c.loop-at.self)
    (taken_all c.args.events.now c.loop-at.at c.loop-at-test.false) c.loop-at.invariant
