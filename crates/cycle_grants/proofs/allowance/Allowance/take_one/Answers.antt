use Rattle.std.proofs.Common.{◌∙◌, ap, refl, min, max, ◌+◌}
use Rattle.run_world.specs.declared.finished.Grant.{Grant}
use Rattle.cycle_grants.proofs.CountLemmas.{counted_more}
use Rattle.cycle_grants.proofs.allowance.Allowance.take_one.Goals as goal

pub invariant_of-self : goal.invariant_of-self
invariant_of-self c = (
  refl,
  counted_more c.self.inside.from c.take-2.new.self _ c.in-Ok.grant.value c.self.inside.allowed c.self.inside.floor c.min-self-inside.result c.max-self-inside.result
      c.self.invariant.1 c.in-Ok.ensures.answer.received refl
      (c.min-self-inside.ensures ∙ ap (λ n. min (c.self.inside.allowed + n) 200000) (c.min.ensures ∙ ap (λ (g : Grant). min g.cycles 200000) c.deref.ensures))
      (c.max-self-inside.ensures ∙ ap (λ (g : Grant). max c.self.inside.floor g.edition) c.deref-in-Ok.ensures),
)
