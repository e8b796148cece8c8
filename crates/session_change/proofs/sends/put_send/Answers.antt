-- The send is written over the one to its route, or behind all others.
use Rattle.std.proofs.Common.{ap, sym, ◌∙◌, arith, ◌==◌, position, length}
use Rattle.std.proofs.lemmas.List.{length_push}
use Rattle.session_model.specs.declared.route.SendLink.{SendLink}
use Rattle.session_change.proofs.SendLemmas.{put_over, put_last}
use Rattle.session_change.proofs.sends.put_send.Goals as goal

pub returns-in-Some : goal.returns-in-Some
returns-in-Some c = put_over c.args.link c.args.sends.now c.as_mut_slice.result.now c.in-Some.i c.as_mut_slice.ensures.items
    (ap (position (λ (l : SendLink). l.to == c.args.link.to)) (sym c.as_slice.ensures.items) ∙ sym c.index_of.ensures.index ∙ c.in-Some.is)

pub push-requires : goal.push-requires
push-requires c =
    let none = ap (position (λ (l : SendLink). l.to == c.args.link.to)) (sym c.as_slice.ensures.items) ∙ sym c.index_of.ensures.index ∙ c.in-None.is in
    omega (arith, ap length (put_last c.args.link c.args.sends.now.items none), length_push c.args.sends.now.items c.args.link)

pub returns-in-None : goal.returns-in-None
returns-in-None c =
    let none = ap (position (λ (l : SendLink). l.to == c.args.link.to)) (sym c.as_slice.ensures.items) ∙ sym c.index_of.ensures.index ∙ c.in-None.is in
    c.push.ensures ∙ ap (λ ls. record c.args.sends.now { items = ls }) (sym (put_last c.args.link c.args.sends.now.items none))
