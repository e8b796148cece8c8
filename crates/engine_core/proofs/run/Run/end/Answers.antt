use Rattle.engine_core.proofs.MasterEndLemmas as master
use Rattle.engine_core.proofs.run.Run.end.Goals as goal

-- src/mastering.rt
pub returns-then-self : goal.returns-then-self
returns-then-self g c = record { written = master.left_cut g.M.Media.outside g.I.Source.outside g.W.Sink.outside g.on c.args.self.now c.requires.1.1.1 c.if-self.true }

pub returns : goal.returns
returns g c = let did = c.silence-answer.ensures in record {
  written = master.run_ended g.M.Media.outside g.I.Source.outside g.W.Sink.outside g.on c.args.self.now c.requires.1.1.1 c.silence-answer.new.self
      c.if-self.false did.rests did.same c.silence-answer.result c.after_cycle-self.result c.after_cycle-self.ensures did.writes did.fault;
}
