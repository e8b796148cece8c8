use Rattle.std.proofs.Common.{arith}
use Rattle.worker_pair.proofs.BeginLemmas as begin
use Rattle.worker_pair.proofs.pair.Pair.silence.Goals as goal

-- src/playing.rt
pub silence-requires : goal.silence-requires
silence-requires g c = let rests = c.requires.1.1.1 in λ κs w. (w.0, (w.1, (rests.master, omega (arith, rests.asked, rests.serves.serving.cycles))))

pub returns-clause-rests : goal.returns-clause-rests
returns-clause-rests g c = begin.rests_on g.at c.args.self.now c.silence.new.self c.silence.ensures.same g.M.Media.outside c.requires.1.1.1

pub returns-clause-same : goal.returns-clause-same
returns-clause-same g c = begin.only_the_master g.at c.args.self.now c.silence.new.self c.silence.ensures.same
