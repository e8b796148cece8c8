use Rattle.std.proofs.Common.{◌<◌, ◌≤◌, length, sym, subst}
use Rattle.route_mix.proofs.DeskLemmas.{lent_fits}
use Rattle.route_mix.proofs.desk.Desk.post.Goals as goal

pub shown-requires-clause-room : goal.shown-requires-clause-room
shown-requires-clause-room c =
    subst (λ zs. length c.index.result.now ≤ length zs) (sym c.as_slice.ensures.value) (subst (λ b. length b ≤ length c.self.inside.zeros.items) (sym c.index.ensures)
    (lent_fits c.self.inside.block (length c.self.inside.gains.items) c.self.inside.inputs.items c.self.inside.posts.items c.self.inside.sums.items c.self.inside.zeros.items c.args.route c.index.result.now
    (subst (λ d. c.args.route < length d.posts) (sym c.self.view_is) c.requires) c.self.invariant))
