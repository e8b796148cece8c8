use Rattle.std.proofs.Common.{◌≡◌, ◌-◌, ◌≤◌, length, ap, sym, ◌∙◌, subst, arith, rules}
use Rattle.std.proofs.lemmas.List.{length-map}
use Rattle.route_mix.proofs.DeskLemmas.{lent_fits}
use Rattle.route_mix.proofs.desk.Desk.master.Goals as goal

pub shown-requires-clause-room : goal.shown-requires-clause-room
shown-requires-clause-room c =
    let counted : c.len.result ≡ length c.self.inside.posts.items = search rules in
    let many : length c.self.inside.posts.items ≡ length c.self.inside.inputs.items = sym (length-map c.self.inside.posts.items length) ∙ ap length c.self.invariant.outs ∙ length-map c.self.inside.inputs.items length in
    subst (λ zs. length c.index.result.now ≤ length zs) (sym c.as_slice.ensures.value) (subst (λ b. length b ≤ length c.self.inside.zeros.items) (sym c.index.ensures)
    (lent_fits c.self.inside.block (length c.self.inside.gains.items) c.self.inside.inputs.items c.self.inside.posts.items c.self.inside.sums.items c.self.inside.zeros.items (c.len.result - 1) c.index.result.now
    (omega (arith, counted, many, c.self.invariant.some)) c.self.invariant))
