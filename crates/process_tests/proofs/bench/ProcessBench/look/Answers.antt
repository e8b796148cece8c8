use Rattle.std.proofs.Common.{◌∙◌}
use Rattle.process_tests.proofs.BenchLemmas as bench
use Rattle.process_tests.proofs.bench.ProcessBench.look.Goals as goal

pub gather-look-requires : goal.gather-look-requires
gather-look-requires g c κs within = (within.0, (within.1, bench.may_look g.I.Source.outside g.W.Sink.outside _ _ _ _ _ _ c.self.invariant g.at (c.self.view_is ∙ c.requires.1.1) c.if-self-2.false))

pub invariant_of-self : goal.invariant_of-self
invariant_of-self g c = bench.has_looked g.I.Source.outside g.W.Sink.outside _ _ _ _ _ _ c.self.invariant g.at (c.self.view_is ∙ c.requires.1.1) c.if-self.false _ c.gather-look.ensures.playing c.gather-look.ensures.looked _ c.number-self-inside.ensures.number
