use Rattle.std.proofs.Common.{sym}
use Rattle.lead_worker.proofs.HearLemmas.{settled_by_best}
use Rattle.lead_worker.proofs.link.ProcessLink.has_settled.Goals as goal

-- src/link.rt
pub returns-in-Some : goal.returns-in-Some
returns-in-Some c = sym (settled_by_best c.args.edition c.args.self.now.hearing.received c.in-Some.best c.in-Some.ensures)
