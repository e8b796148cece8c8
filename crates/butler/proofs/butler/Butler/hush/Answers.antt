use Rattle.std.proofs.Common.{List, sym, subst}
use Rattle.disk_ring.specs.Sender.{Sender}
use Rattle.piece_item.specs.declared.item.Item.{Item}
use Rattle.piece_item.specs.declared.butler_ends.ButlerEnds.{ButlerEnds}
use Rattle.read_ahead.specs.AllServes.{AreShut}
use Rattle.butler.specs.Serving.{AreStocked}
use Rattle.butler.proofs.HushLemmas.{stocked_shut, written_back}
use Rattle.butler.proofs.butler.Butler.hush.Goals as goal

-- src/hushing.rt
pub invariant_of-self : goal.invariant_of-self
invariant_of-self g c = let holds = c.self.inside.holds in let ends = c.self.inside.ends in let fs = c.close_all.new.sends in
    let shut : AreShut ends.sends.items fs = subst (λ (ds : List (Sender Item)). AreShut ds fs) c.as_mut_slice.ensures.items c.close_all.ensures in (
      subst (λ (e : ButlerEnds). AreStocked holds.supplies.items holds.drain e) (sym (written_back ends fs shut)) (stocked_shut holds.supplies.items holds.drain ends fs shut c.self.invariant.0),
      c.self.invariant.1,
      c.self.invariant.2,
      c.self.invariant.3,
    )
