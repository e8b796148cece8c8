use Rattle.std.proofs.Common.{◌∙◌, ◌++◌, ◌∷◌, [], refl, sym, ap, subst}
use Rattle.disk_ring.specs.Receiver.{Receiver}
use Rattle.piece_item.specs.declared.ack.Ack.{Ack}
use Rattle.lead_worker.specs.Heard.{HasBest}
use Rattle.lead_worker.proofs.hearing.AckHearing.hear_one.Goals as goal

-- src/hearing.rt
pub invariant_of-self : goal.invariant_of-self
invariant_of-self c = let before = c.self.inside.from.received in let took = c.in-Ok.ensures.answer in (
  refl,
  c.in-Ok.ensures.ring.room ∙ c.self.invariant.1,
  subst (λ l. HasBest l c.better-self-inside.result) (ap (λ (a : Ack). before ++ a ∷ []) c.deref.ensures ∙ sym (ap (λ (r : Receiver Ack). r.received) took.received))
      (c.better-self-inside.ensures before c.self.invariant.2),
)
