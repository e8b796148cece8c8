use Rattle.lead_worker.proofs.LinkLemmas.{paced_pause}
use Rattle.lead_worker.proofs.link.ProcessLink.pause.Goals as goal

-- src/link.rt
pub returns-clause-paced : goal.returns-clause-paced
returns-clause-paced g c paces was = paced_pause c.args.self.now c.rest_until.new.self paces c.args.cycles c.args.edition (λ asked kept. c.rest_until.ensures.keeps _ (c.allow.ensures.keeps asked kept)) was
