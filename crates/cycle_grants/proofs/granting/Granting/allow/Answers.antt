use Rattle.std.proofs.Common.{◌∙◌, sym, ap, subst}
use Rattle.disk_ring.specs.Sender.{Refuses}
use Rattle.cycle_grants.specs.Granting.{GrantingState, IsPut}
use Rattle.cycle_grants.proofs.FullLemmas.{refused_full}
use Rattle.cycle_grants.proofs.granting.Granting.allow.Goals as goal

pub returns-in-Ok : goal.returns-in-Ok
returns-in-Ok c = let seen = c.self.view_is in let puts = c.in-Ok.ensures.answer in (
  ap (λ (s : GrantingState). s.over) (sym seen) ∙ c.if-self.false,
  ap (λ over. record { to = c.put.new.self; over = over }) (ap (λ (s : GrantingState). s.over) seen),
  subst (λ (s : GrantingState). IsPut s.to c.args.grant c.put.new.self) seen (record { sent = puts.sent; head = puts.head; free = puts.free }),
)

pub returns-in-Err : goal.returns-in-Err
returns-in-Err c = let seen = c.self.view_is in let refused = c.in-Err.ensures.answer.1 in (
  ap (λ (s : GrantingState). s.over) (sym seen) ∙ c.if-self.false,
  ap (λ over. record { to = c.put.new.self; over = over }) (ap (λ (s : GrantingState). s.over) seen),
  subst (λ (s : GrantingState). Refuses s.to c.in-Err.field-0.head c.put.new.self) seen refused,
  refused_full _ _ _ refused,
)
