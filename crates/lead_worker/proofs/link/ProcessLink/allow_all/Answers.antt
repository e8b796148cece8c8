use Rattle.lead_worker.proofs.LinkLemmas.{paced_whole}
use Rattle.lead_worker.proofs.link.ProcessLink.allow_all.Goals as goal

-- src/link.rt
pub returns-clause-paced : goal.returns-clause-paced
returns-clause-paced g c paces was = paced_whole c.args.self.now c.allow.new.self paces c.args.cycles c.args.edition c.allow.ensures.keeps was
