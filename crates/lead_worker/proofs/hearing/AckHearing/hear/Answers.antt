use Rattle.std.proofs.Common.{◌∙◌, ap}
use Rattle.disk_ring.specs.Receiver.{Receiver}
use Rattle.disk_ring.proofs.GoesOn.{goes_on_out_trans}
use Rattle.piece_item.specs.declared.ack.Ack.{Ack}
use Rattle.lead_worker.proofs.hearing.AckHearing.hear.Goals as goal

-- src/hearing.rt
pub loop-closed-preserved : goal.loop-closed-preserved
loop-closed-preserved c = let one = c.hear_one.ensures.one c.in_default.is in let so = c.loop-closed.invariant in record {
  ring = goes_on_out_trans _ _ _ so.ring one.goes_on;
  tails = ap (λ (r : Receiver Ack). r.tails) one.same ∙ so.tails;
}
