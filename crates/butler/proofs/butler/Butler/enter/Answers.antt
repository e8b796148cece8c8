use Rattle.std.proofs.Common.{List, length, ◌∙◌, sym, ap, subst}
use Rattle.read_ahead.specs.declared.supply.TrackSupply.{TrackSupply}
use Rattle.butler.specs.Serving.{AreStocked}
use Rattle.butler.proofs.StockLemmas.{rewritten, entered_stocked}
use Rattle.butler.proofs.butler.Butler.enter.Goals as goal

pub invariant_of-self : goal.invariant_of-self
invariant_of-self g c = let holds = c.self.inside.holds in let ends = c.self.inside.ends in
    let written = rewritten (length holds.supplies.items) c.enter_all.new.supplies holds.supplies.items (c.enter_all.auto.supplies ∙ ap length c.as_mut_slice.ensures.items) in (
      subst (λ (qs : List TrackSupply). AreStocked qs holds.drain ends) (sym written)
          (entered_stocked c.args.e.now _ _ holds.drain ends (subst (λ (ps : List TrackSupply). AreStocked ps holds.drain ends) (sym c.as_mut_slice.ensures.items) c.self.invariant.0) c.enter_all.ensures.entered),
      c.self.invariant.1,
      c.self.invariant.2,
      c.self.invariant.3,
    )
