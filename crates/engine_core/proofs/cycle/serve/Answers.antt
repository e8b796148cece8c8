use Rattle.std.proofs.Common.{subst, sym, ◌∙◌}
use Rattle.std.specs.Prelude.{true, false}
use Rattle.machine_model.specs.Rest.{BeforeLook, BeforeTurn}
use Rattle.worker_pair.specs.Tied.{rings_of}
use Rattle.engine_core.specs.Letters.{TurnsOn, TurnIsB}
use Rattle.engine_core.specs.Now.{now_of}
use Rattle.engine_core.proofs.SerialMachineLemmas as machine
use Rattle.engine_core.proofs.ServeLemmas as serve
use Rattle.run_end.proofs.LastTurnLemmas.{received_last}
use Rattle.engine_core.proofs.LostLemmas as lost
use Rattle.engine_core.proofs.FedServeLemmas as fed
use Rattle.engine_core.proofs.cycle.serve.Goals as goal

-- src/cycle.rt
pub serving-init : goal.serving-init
serving-init g c = record { under_way = c.requires.1.1.1; served = serve.served_itself c.args.run.now; captures = lost.captures_itself c.args.run.now; feeds = fed.feeds_itself g.M.Media.outside g.I.Source.outside g.W.Sink.outside g.on c.args.run.now; as_machine = machine.leads_itself g.on.begun.session BeforeTurn c.args.run.now }

pub serving-smaller : goal.serving-smaller
serving-smaller g c = let turned = c.turn-idle.new.self in let M = g.M.Media.outside in
    serve.serves_less M g.I.Source.outside g.W.Sink.outside g.on c.serving.run turned c.gather.new.self
    (subst (λ b. TurnsOn M g.on c.serving.run b turned) c.if-idle.false c.turn-idle.ensures.turns) c.turn-idle.ensures.under_way c.gather.ensures.gathers

pub serving-preserved : goal.serving-preserved
serving-preserved g c = let s = g.on.begun.session in let run = c.serving.run in let turned = c.turn-idle.new.self in let next = c.gather.new.self in let inv = c.serving.invariant in
    let M = g.M.Media.outside in let I = g.I.Source.outside in let W = g.W.Sink.outside in
    let one = serve.served_on c.args.run.now run turned inv.served (serve.turn_serves g.M.Media.outside g.on run turned c.turn-idle.result c.turn-idle.ensures.turns) in
    let two = serve.gather_serves turned next c.gather.ensures.gathers in record {
      under_way = c.gather.ensures.under_way;
      served = serve.served_on c.args.run.now turned next one two;
      captures = lost.captures_on c.args.run.now turned next (lost.captures_on c.args.run.now run turned inv.captures
          (lost.captures_turned M I W g.on run turned c.turn-idle.result inv.under_way c.turn-idle.ensures.turns)) (lost.captures_gathered M I W g.on turned next c.turn-idle.ensures.under_way c.gather.ensures.gathers);
      feeds = fed.feeds_on M I W g.on c.args.run.now run turned c.turn-idle.result inv.feeds inv.under_way c.turn-idle.ensures.under_way c.turn-idle.ensures.turns next c.gather.ensures.gathers
          c.gather.ensures.under_way;
      as_machine = machine.leads_then s BeforeTurn BeforeLook BeforeTurn c.args.run.now turned next one.asked two.fine
          (machine.turns_then s c.args.run.now run turned false inv.served.asked (serve.turn_serves g.M.Media.outside g.on run turned c.turn-idle.result c.turn-idle.ensures.turns).fine inv.as_machine
          (subst (λ b. TurnIsB s run b turned) c.if-idle.false c.turn-idle.ensures.letter))
          (machine.gather_leads s turned next c.gather.ensures.letter);
    }

pub returns-then-idle-clause-served : goal.returns-then-idle-clause-served
returns-then-idle-clause-served g c = let run = c.serving.run in let turned = c.turn-idle.new.self in
    serve.served_on c.args.run.now run turned c.serving.invariant.served (serve.turn_serves g.M.Media.outside g.on run turned c.turn-idle.result c.turn-idle.ensures.turns)

pub returns-then-idle-clause-captures : goal.returns-then-idle-clause-captures
returns-then-idle-clause-captures g c = let run = c.serving.run in let turned = c.turn-idle.new.self in
    lost.captures_on c.args.run.now run turned c.serving.invariant.captures
    (lost.captures_turned g.M.Media.outside g.I.Source.outside g.W.Sink.outside g.on run turned c.turn-idle.result c.serving.invariant.under_way c.turn-idle.ensures.turns)

pub returns-then-idle-clause-feeds : goal.returns-then-idle-clause-feeds
returns-then-idle-clause-feeds g c = let inv = c.serving.invariant in fed.feeds_all g.M.Media.outside g.I.Source.outside g.W.Sink.outside g.on c.args.run.now c.serving.run c.turn-idle.new.self c.turn-idle.result
    inv.feeds inv.under_way c.turn-idle.ensures.under_way c.turn-idle.ensures.turns c.if-idle.true

pub returns-then-idle-clause-flushed : goal.returns-then-idle-clause-flushed
returns-then-idle-clause-flushed g c = let run = c.serving.run in let turned = c.turn-idle.new.self in let turns = c.turn-idle.ensures.turns in let under = c.turn-idle.ensures.under_way in
    received_last g.M.Media.outside (now_of g.on run) (rings_of run.pair) c.serving.invariant.under_way.rests.serves (rings_of turned.pair) turns.answer (sym turns.idle_is ∙ c.if-idle.true) turns.turns
    (now_of g.on turned) under.rests.serves

pub returns-then-idle-clause-ends_idle : goal.returns-then-idle-clause-ends_idle
returns-then-idle-clause-ends_idle g c = (c.serving.run, subst (λ b. TurnsOn g.M.Media.outside g.on c.serving.run b c.turn-idle.new.self) c.if-idle.true c.turn-idle.ensures.turns)

pub returns-then-idle-clause-as_machine : goal.returns-then-idle-clause-as_machine
returns-then-idle-clause-as_machine g c = let s = g.on.begun.session in let run = c.serving.run in let turned = c.turn-idle.new.self in let inv = c.serving.invariant in
    machine.turns_then s c.args.run.now run turned true inv.served.asked (serve.turn_serves g.M.Media.outside g.on run turned c.turn-idle.result c.turn-idle.ensures.turns).fine inv.as_machine
    (subst (λ b. TurnIsB s run b turned) c.if-idle.true c.turn-idle.ensures.letter)
