-- Each send to the route is moved to the end and taken, until none is left.
use Rattle.std.proofs.Common.{ap, sym, ◌∙◌, ◌==◌, position}
use Rattle.session_model.specs.declared.route.SendLink.{SendLink}
use Rattle.engine_model.specs.Changes.{without_send}
use Rattle.session_change.proofs.SendLemmas.{taken, none_left, same_list}
use Rattle.session_change.proofs.sends.take_send.Goals as goal

pub loop-i-preserved : goal.loop-i-preserved
loop-i-preserved c = record {
  left = taken c.args.to c.loop-i.sends c.as_mut_slice.result.now c.put_at_end.new.links c.pop.new.self.items c.pop.result c.in-Some.i c.as_mut_slice.ensures.items
      (ap (position (λ (l : SendLink). l.to == c.args.to)) (sym c.as_slice.ensures.items) ∙ sym c.index_of.ensures.index ∙ c.in-Some.is)
      c.put_at_end.auto.links c.put_at_end.ensures c.pop.ensures.items
      ∙ c.loop-i.invariant.left;
  room = c.pop.ensures.room ∙ c.loop-i.invariant.room;
}

pub returns : goal.returns
returns c =
    let none = ap (position (λ (l : SendLink). l.to == c.args.to)) (sym c.as_slice.ensures.items) ∙ sym c.index_of.ensures.index ∙ c.in_default.is in
    same_list c.loop-i.sends c.args.sends.now (without_send c.args.to) (sym (none_left c.args.to c.loop-i.sends.items none) ∙ c.loop-i.invariant.left) c.loop-i.invariant.room
