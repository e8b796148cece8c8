use Rattle.worker_pair.proofs.BeginLemmas as begin
use Rattle.worker_pair.proofs.NowLemmas.{runs_rest}
use Rattle.worker_pair.proofs.pair.Pair.begin.Goals as goal

-- src/playing.rt
pub returns-clause-runs : goal.returns-clause-runs
returns-clause-runs g c = let did = c.begin.ensures in begin.ok_headed g.at c.args.self.now c.begin.new.self did.same g.M.Media.outside g.I.Source.outside g.W.Sink.outside c.requires.1.1.1.0 did.playing c.begin.result did.master

pub returns-clause-rests : goal.returns-clause-rests
returns-clause-rests g c = let self = c.args.self.now in
    begin.rests_on g.at self c.begin.new.self c.begin.ensures.same g.M.Media.outside (runs_rest g.M.Media.outside g.I.Source.outside g.W.Sink.outside g.at self c.requires.1.1.1.0)

pub returns-clause-same : goal.returns-clause-same
returns-clause-same g c = begin.only_the_master g.at c.args.self.now c.begin.new.self c.begin.ensures.same
