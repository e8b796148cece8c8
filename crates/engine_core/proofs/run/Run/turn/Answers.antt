use Rattle.engine_core.proofs.TurnLemmas as turns
use Rattle.engine_core.proofs.run.Run.turn.Goals as goal

-- src/letters.rt
pub returns-clause-under_way : goal.returns-clause-under_way
returns-clause-under_way g c = let did = c.turn-answer.ensures in let answer = c.turn-answer.result in
    turns.under_turned g.M.Media.outside g.I.Source.outside g.W.Sink.outside g.on c.args.self.now c.requires.1.1.1 (record { pair = c.turn-answer.new.self; failed = c.after_turn-self.result }) answer did.same did.turns
    c.after_turn-self.ensures did.rests did.runs did.mastered did.hears

pub returns-clause-turns : goal.returns-clause-turns
returns-clause-turns g c = let did = c.turn-answer.ensures in
    record { answer = c.turn-answer.result; only = did.same; turns = did.turns; failed = c.after_turn-self.ensures; idle_is = c.is_idle.ensures }

pub returns-clause-letter : goal.returns-clause-letter
returns-clause-letter g c = let did = c.turn-answer.ensures in
    turns.turn_is_b g.on.begun.session c.args.self.now (record { pair = c.turn-answer.new.self; failed = c.after_turn-self.result }) c.is_idle.result c.turn-answer.result c.after_turn-self.ensures c.is_idle.ensures did.as_machine
