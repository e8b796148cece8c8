use Rattle.std.proofs.Common.{subst, ◌∙◌}
use Rattle.run_rings.specs.Rings.{AreNewRunEnds}
use Rattle.worker_pair.proofs.NewRingLemmas as rings
use Rattle.worker_pair.proofs.StartLemmas as begin
use Rattle.worker_pair.proofs.pair.Pair.new.Goals as goal

-- src/pair.rt
pub new_workers-requires : goal.new_workers-requires
new_workers-requires g c κs within = let may = c.requires.1.1.1.0 in let s = g.begun.session in let ends = c.in-Ok-new_run_ends.ends in
    let new : AreNewRunEnds s ends = subst (λ z. AreNewRunEnds z ends) (c.session.ensures.session ∙ begin.session_is s c.args.start may) c.in-Ok-new_run_ends.ensures in
    (within.0, (within.1.0, (within.1.1, (may, (rings.new_for_process s ends new, rings.new_for_butler s ends new)))))

pub returns-clause-begun : goal.returns-clause-begun
returns-clause-begun g c = let may = c.requires.1.1.1.0 in let s = g.begun.session in let ends = c.in-Ok-new_run_ends.ends in let w = c.in-Ok-new_workers.workers in
    let new : AreNewRunEnds s ends = subst (λ z. AreNewRunEnds z ends) (c.session.ensures.session ∙ begin.session_is s c.args.start may) c.in-Ok-new_run_ends.ensures in
    begin.have_begun_by g.M.Media.outside g.I.Source.outside g.W.Sink.outside g.begun c.args.start may c.requires.1.1.1.1 ends new w.0 w.1 w.2 c.in-Ok-new_workers.ensures.workers c.in-Ok.playing c.in-Ok.ensures
