use Rattle.engine_core.proofs.MasterHeadLemmas as master
use Rattle.engine_core.proofs.run.Run.begin.Goals as goal

-- src/mastering.rt
pub returns-clause-under_way : goal.returns-clause-under_way
returns-clause-under_way g c = let did = c.begin-answer.ensures in let none = c.default.ensures in master.run_begun g.M.Media.outside g.I.Source.outside g.W.Sink.outside g.on c.args.pair c.begin-answer.new.self
    c.requires.1.1.1 did.rests did.same c.begin-answer.result c.default.result c.after_cycle.result none.0 none.1.0 none.1.1.0 none.1.1.1 c.after_cycle.ensures did.runs did.writes did.fault
