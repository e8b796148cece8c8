use Rattle.std.proofs.Common.{sym, subst}
use Rattle.process_ends.specs.Ends.{AreNew}
use Rattle.worker_pair.proofs.StartLemmas as begin
use Rattle.worker_pair.proofs.beginning.new_workers.Goals as goal

-- src/beginning.rt
pub new-requires-clause-ends : goal.new-requires-clause-ends
new-requires-clause-ends g c = subst (λ s. AreNew s c.args.ours) (sym (begin.session_is g.s c.args.start c.requires.1.1.1.0)) c.requires.1.1.1.1.0

pub new-requires-2 : goal.new-requires-2
new-requires-2 g c = let may = c.requires.1.1.1.0 in λ κs m. (m, (begin.may_serve g.s c.args.start may c.args.theirs c.requires.1.1.1.1.1, may.held))

pub returns-in-Ok-new-clause-workers : goal.returns-in-Ok-new-clause-workers
returns-in-Ok-new-clause-workers g c = let b = c.in-Ok-new.ensures in begin.have_workers g.s c.args.start c.requires.1.1.1.0 g.M.Media.outside g.I.Source.outside g.W.Sink.outside c.args.ours c.args.theirs
    c.in-Ok.process c.in-Ok-new.butler c.in-Ok.ensures.begun b.serving b.given b.true_to b.no_take
