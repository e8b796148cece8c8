use Rattle.std.proofs.Common.{◌≡◌, [], length, get_or, ap, sym, ◌∙◌, subst}
use Rattle.route_mix.specs.Desks.{IsDeskOf}
use Rattle.route_mix.proofs.DeskLemmas.{put_keeps, put_desk}
use Rattle.route_mix.proofs.desk.Desk.put.Goals as goal

long : (c : goal.After-self-1) → length c.put.new.self ≡ length (get_or c.self.inside.inputs.items c.args.track [])
long c = ap length c.put.ensures ∙ c.requires.block ∙ ap (λ d. length (get_or d.inputs c.args.track [])) (sym c.self.view_is)

pub invariant_of-self : goal.invariant_of-self
invariant_of-self c = put_keeps c.self.inside.block (length c.self.inside.gains.items) c.self.inside.inputs.items c.self.inside.posts.items c.self.inside.sums.items c.self.inside.zeros.items c.args.track c.put.new.self (long c) c.self.invariant

pub returns-clause-session : goal.returns-clause-session
returns-clause-session c s is = put_desk s c.self.inside.block c.self.inside.inputs.items c.self.inside.posts.items c.args.track c.put.new.self (long c) (subst (IsDeskOf s) (sym c.self.view_is) is)
