use Rattle.std.proofs.Common.{rules, ◌≡◌, ◌*◌, ◌∙◌, List, get_or, sym, ap}
use Rattle.session_model.specs.declared.route.Route.{Route}
use Rattle.process_ends.specs.Ends.{block_of}
use Rattle.process_tests.proofs.RingLemmas as rings
use Rattle.process_tests.proofs.other_ends.OtherEnds.parted.Goals as goal

pub invariant_of-other : goal.invariant_of-other
invariant_of-other c = let s = c.args.s.now in let new = c.requires.new in let one = sym c.len.ensures.len ∙ c.if-len-ne1.false in let q = c.index-routes-0.result in
    let wide : block_of s 0 ≡ s.block * c.from.result = sym (rings.block_is s 0 c.from.result q (search rules) (c.from.ensures ∙ ap (λ (l : List Route). (get_or l 0 q).channels) c.as_slice-routes.ensures.items)) in
    let put = rings.new_in s _ _ new.items one _ c.pop.result c.pop.ensures.items in
    let flush = rings.new_out s _ _ new.takes one c.pop.result _ c.pop-2.result c.pop-2.ensures.items in (
      put.room ∙ wide,
      put.closed,
      flush.room ∙ wide,
      ap (λ r. r.room) new.to_butler.new.receiver ∙ new.to_butler.room,
      ap (λ r. r.room) new.to_control.new.receiver ∙ new.to_control.room,
    )
