use Rattle.std.proofs.Common.{◌≡◌, ◌<◌, [], length, get_or, ap, sym, ◌∙◌, subst}
use Rattle.std.specs.Prelude.{pos}
use Rattle.std.proofs.lemmas.List.{length-replicate, get_or_default}
use Rattle.route_mix.specs.Desks.{IsDeskOf}
use Rattle.route_mix.proofs.DeskLemmas.{put_keeps, put_desk}
use Rattle.route_mix.proofs.desk.Desk.quiet.Goals as goal

long : (c : goal.After-self-1) → length c.hush.new.self ≡ length (get_or c.self.inside.inputs.items c.args.track [])
long c = ap length c.hush.ensures ∙ length-replicate (length c.index_mut.result.now) (pos 0) ∙ ap length (c.index_mut.ensures.value
    ∙ get_or_default c.self.inside.inputs.items c.args.track c.index_mut.result.now [] (subst (λ d. c.args.track < length d.inputs) (sym c.self.view_is) c.requires))

pub invariant_of-self : goal.invariant_of-self
invariant_of-self c = put_keeps c.self.inside.block (length c.self.inside.gains.items) c.self.inside.inputs.items c.self.inside.posts.items c.self.inside.sums.items c.self.inside.zeros.items c.args.track c.hush.new.self (long c) c.self.invariant

pub returns-clause-session : goal.returns-clause-session
returns-clause-session c s is = put_desk s c.self.inside.block c.self.inside.inputs.items c.self.inside.posts.items c.args.track c.hush.new.self (long c) (subst (IsDeskOf s) (sym c.self.view_is) is)
