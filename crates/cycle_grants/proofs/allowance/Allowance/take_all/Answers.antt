use Rattle.std.proofs.Common.{◌∙◌, ◌++◌, ◌∷◌, [], length, sym, ap}
use base.Growing.{prefix_trans}
use Rattle.disk_ring.proofs.GoesOn.{goes_on_out_trans}
use Rattle.cycle_grants.specs.Allowance.{AllowanceState}
use Rattle.cycle_grants.proofs.allowance.Allowance.take_all.Goals as goal

pub returns-then-not-take_one : goal.returns-then-not-take_one
returns-then-not-take_one c = let none = c.take_one.ensures.none c.if-not-take_one.true in let so = c.loop.invariant in record {
  ring = goes_on_out_trans _ _ _ so.ring none.ring;
  waits = ap (λ (s : AllowanceState). s.waits) none.same ∙ so.waits;
  tails = none.tails ∙ ap (λ l. l ++ length c.loop.self.from.received ∷ []) so.tails ∙ ap (λ l. c.args.self.now.from.tails ++ length l ∷ []) (sym none.received);
  told = prefix_trans _ _ _ so.ring.heard none.told;
}

pub loop-preserved : goal.loop-preserved
loop-preserved c = let one = c.take_one.ensures.one c.if-not-take_one.false in let so = c.loop.invariant in record {
  ring = goes_on_out_trans _ _ _ so.ring one.ring;
  waits = ap (λ (s : AllowanceState). s.waits) one.same ∙ so.waits;
  tails = ap (λ (s : AllowanceState). s.from.tails) one.same ∙ so.tails;
}
