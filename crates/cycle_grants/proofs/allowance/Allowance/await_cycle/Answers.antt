use Rattle.std.proofs.Common.{◌∙◌, ◌≤◌, ◌<◌, sym, ap, subst, inl, inr, false}
use Rattle.engine_model.specs.Waited.{allowed}
use Rattle.cycle_grants.specs.Grants.{grants_in}
use Rattle.cycle_grants.specs.Allowance.{AllowanceState}
use Rattle.cycle_grants.proofs.TryLemmas.{tries_first, tries_on, it_may_go_on, it_gives_up}
use Rattle.cycle_grants.proofs.CountLemmas.{is_past, is_within}
use Rattle.cycle_grants.proofs.allowance.Allowance.await_cycle.Goals as goal

pub loop-self-init : goal.loop-self-init
loop-self-init c = record { tries = tries_first c.args.patience c.args.made c.args.self.now c.take_all.new.self c.take_all.ensures }

pub returns-then-not-try_again : goal.returns-then-not-try_again
returns-then-not-try_again c = let seen = c.self.view_is in
    it_gives_up c.args.patience c.args.made c.args.self.now c.loop-self.self c.try_again.new.self _ c.loop-self.invariant.tries
    (ap (λ (s : AllowanceState). s.waits) (sym seen) ∙ c.loop-self-test.true)
    (subst (λ (s : AllowanceState). allowed (grants_in s.from) ≤ c.args.made) seen (is_within _ _ _ c.args.made c.self.invariant.1 c.requires c.if-self-made.true))
    (c.try_again.ensures.none c.if-not-try_again.true)
    (ap (λ (s : AllowanceState). record s { waits = false }) c.self-in-loop-self.view_is)

pub loop-self-preserved : goal.loop-self-preserved
loop-self-preserved c = let seen = c.self.view_is in record {
  tries = tries_on c.args.patience c.args.made c.args.self.now c.loop-self.self c.try_again.new.self c.take_all-in-loop-self.new.self c.loop-self.invariant.tries
      (ap (λ (s : AllowanceState). s.waits) (sym seen) ∙ c.loop-self-test.true)
      (subst (λ (s : AllowanceState). allowed (grants_in s.from) ≤ c.args.made) seen (is_within _ _ _ c.args.made c.self.invariant.1 c.requires c.if-self-made.true))
      (c.try_again.ensures.one c.if-not-try_again.false) c.take_all-in-loop-self.ensures;
}

pub returns-else-self-made : goal.returns-else-self-made
returns-else-self-made c = it_may_go_on c.args.patience c.args.made c.args.self.now c.loop-self.self c.loop-self.invariant.tries
    (inr (subst (λ (s : AllowanceState). c.args.made < allowed (grants_in s.from)) c.self.view_is (is_past _ _ _ c.args.made c.self.invariant.1 c.if-self-made.false)))

pub returns-after-loop-self : goal.returns-after-loop-self
returns-after-loop-self c = it_may_go_on c.args.patience c.args.made c.args.self.now c.loop-self.self c.loop-self.invariant.tries
    (inl (ap (λ (s : AllowanceState). s.waits) (sym c.self.view_is) ∙ c.loop-self-test.false))
