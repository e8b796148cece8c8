use Rattle.worker_pair.proofs.PublishLemmas as publish
use Rattle.worker_pair.proofs.pair.Pair.publish.Goals as goal

-- src/turning.rt
pub returns-clause-rests : goal.returns-clause-rests
returns-clause-rests g c = let runs = c.requires.1.1.1.0 in publish.rests_on g.M.Media.outside g.I.Source.outside g.W.Sink.outside g.at c.args.self.now runs c.apply.new.self c.args.edit.now
    (c.apply.ensures.stays g.at.begun.session runs.serves.edition_of) c.requires.1.1.1.1.0 c.requires.1.1.1.1.1.1 c.apply.result c.apply.ensures.step

pub returns-clause-runs : goal.returns-clause-runs
returns-clause-runs g c = let runs = c.requires.1.1.1.0 in publish.runs_on g.M.Media.outside g.I.Source.outside g.W.Sink.outside g.at c.args.self.now runs c.apply.new.self c.args.edit.now
    (c.apply.ensures.stays g.at.begun.session runs.serves.edition_of) c.requires.1.1.1.1.0 c.requires.1.1.1.1.1.1 c.apply.result c.apply.ensures.step

pub returns-clause-as_machine : goal.returns-clause-as_machine
returns-clause-as_machine g c = publish.published g.at.begun.session c.args.self.now c.apply.new.self c.args.edit.now c.apply.result c.apply.ensures.step
