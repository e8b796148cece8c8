use Rattle.process_tests.proofs.BenchLemmas.{new_bench}
use Rattle.process_tests.proofs.bench.ProcessBench.new.Goals as goal

pub invariant_of-bench : goal.invariant_of-bench
invariant_of-bench g c = let asked = c.requires in new_bench g.I.Source.outside g.W.Sink.outside c.args.given.opened.session c.args.given.opened.edition _ _ _ _ _ _ _ asked.opened asked.has asked.empty c.in-Ok.ensures.begun
