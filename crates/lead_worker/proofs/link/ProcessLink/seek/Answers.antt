use Rattle.lead_worker.proofs.LinkLemmas.{goes_trans, keeps_still, paced_sought, paced_still}
use Rattle.std.proofs.Common.{refl}
use Rattle.disk_ring.proofs.GoesOn.{goes_on_in_refl}
use Rattle.lead_worker.proofs.link.ProcessLink.seek.Goals as goal

-- src/link.rt
pub loop-grant-preserved : goal.loop-grant-preserved
loop-grant-preserved g c = let was = c.loop-grant.self in let heard = record was { hearing = c.hear-closed.new.self } in let new = c.rest_until.new.self in let inv = c.loop-grant.invariant in let hears = c.hear-closed.ensures.hears.goes_on in record {
  goes = goes_trans c.args.self.now was new inv.goes (goes_trans was heard new (record { grants = goes_on_in_refl was.granting.to; acks = hears })
      (goes_trans heard c.allow.new.self new c.allow.ensures.goes c.rest_until.ensures.goes));
  paced = λ paces kept. paced_sought heard new paces c.args.edition (λ asked so. c.rest_until.ensures.keeps _ (c.allow.ensures.keeps asked so))
      (paced_still was heard _ (λ asked so. keeps_still asked was heard refl refl hears so) (inv.paced paces kept));
}
