use Rattle.machine_model.specs.Rest.{BeforeEntry, BeforeTurn, Between}
use Rattle.engine_core.proofs.GrowLemmas.{cycle_went}
use Rattle.engine_core.proofs.SerialCycleLemmas as cycle
use Rattle.engine_core.proofs.SerialMachineLemmas as machine
use Rattle.engine_core.proofs.LostLemmas as lost
use Rattle.engine_core.proofs.FedServeLemmas as fed
use Rattle.engine_core.proofs.SerialLemmas as serial
use Rattle.engine_core.proofs.ServeLemmas as serve
use Rattle.engine_core.proofs.cycle.serial_cycle.Goals as goal

-- src/cycle.rt
pub returns-clause-went_on : goal.returns-clause-went_on
returns-clause-went_on g c = cycle.cycle_goes_on g.M.Media.outside g.I.Source.outside g.W.Sink.outside g.on c.args.run.now c.serve.new.run c.cycle.new.self c.requires.1.1.1.1.can_run
    (serve.served_on c.args.run.now c.enter.new.self c.serve.new.run (serve.enter_serves c.args.run.now c.enter.new.self c.enter.ensures.enters) c.serve.ensures.served) c.serve.ensures.under_way c.cycle.ensures.cycles

pub returns-clause-makes : goal.returns-clause-makes
returns-clause-makes g c = let M = g.M.Media.outside in let I = g.I.Source.outside in let W = g.W.Sink.outside in let may = c.requires.1.1.1.1 in
    cycle.cycle_is_made M I W g.on c.args.run.now c.serve.new.run c.cycle.new.self may.can_run
    (serve.served_on c.args.run.now c.enter.new.self c.serve.new.run (serve.enter_serves c.args.run.now c.enter.new.self c.enter.ensures.enters) c.serve.ensures.served)
    (c.serve.ensures.served.stays_open (cycle.entered_opens M I W g.on c.args.run.now c.enter.new.self may c.enter.ensures.enters c.enter.ensures.under_way)) c.cycle.ensures.cycles

pub returns-clause-loses_none : goal.returns-clause-loses_none
returns-clause-loses_none g c = let M = g.M.Media.outside in let I = g.I.Source.outside in let W = g.W.Sink.outside in let entered = c.enter.new.self in let served = c.serve.new.run in
    lost.loses_none c.args.run.now served c.cycle.new.self (lost.captures_on c.args.run.now entered served (lost.captures_entered c.args.run.now entered c.enter.ensures.enters) c.serve.ensures.captures)
    (lost.cycle_loses_none M I W g.on served c.cycle.new.self c.serve.ensures.under_way
    (c.serve.ensures.served.stays_open (cycle.entered_opens M I W g.on c.args.run.now entered c.requires.1.1.1.1 c.enter.ensures.enters c.enter.ensures.under_way)) c.serve.ensures.flushed c.cycle.ensures.cycles)

pub returns-clause-newest : goal.returns-clause-newest
returns-clause-newest g c = let M = g.M.Media.outside in let I = g.I.Source.outside in let W = g.W.Sink.outside in let may = c.requires.1.1.1.1 in let entered = c.enter.new.self in
    serial.plays_newest M I W g.on c.args.run.now entered c.serve.new.run c.cycle.new.self may c.enter.ensures.enters c.serve.ensures.served c.serve.ensures.under_way
    (cycle.entered_opens M I W g.on c.args.run.now entered may c.enter.ensures.enters c.enter.ensures.under_way) c.cycle.ensures.cycles

pub returns-clause-plays_plain : goal.returns-clause-plays_plain
returns-clause-plays_plain g c = let M = g.M.Media.outside in let I = g.I.Source.outside in let W = g.W.Sink.outside in let req = c.requires.1.1.1 in let old = c.args.run.now in let entered = c.enter.new.self in
    let served = c.serve.new.run in
    fed.plays_plain M I W g.on old entered served c.cycle.new.self req.0 req.1 c.enter.ensures.enters (cycle.entered_opens M I W g.on old entered req.1 c.enter.ensures.enters c.enter.ensures.under_way)
    c.serve.ensures.under_way (serve.served_on old entered served (serve.enter_serves old entered c.enter.ensures.enters) c.serve.ensures.served) c.serve.ensures.feeds c.cycle.ensures.cycles

pub returns-clause-as_machine : goal.returns-clause-as_machine
returns-clause-as_machine g c = let s = g.on.begun.session in let entered = c.enter.new.self in let served = c.serve.new.run in let new = c.cycle.new.self in
    let fine = (cycle_went g.M.Media.outside g.I.Source.outside g.W.Sink.outside g.on served new c.serve.ensures.under_way c.cycle.ensures.cycles).fine in
    machine.cycle_plays s c.args.run.now entered new (serve.enter_serves c.args.run.now entered c.enter.ensures.enters).asked (λ ok. c.serve.ensures.served.fine (fine ok)) c.enter.ensures.letter
    (machine.leads_then s BeforeTurn BeforeEntry Between entered served new c.serve.ensures.served.asked fine c.serve.ensures.as_machine (machine.cycle_leads s served new c.cycle.ensures.letter))
