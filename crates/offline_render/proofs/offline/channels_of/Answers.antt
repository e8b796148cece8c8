use Rattle.std.proofs.Common.{◌≡◌, ◌≤◌, ◌⊎◌, length, ap, arith, subst}
use Rattle.route_graph.proofs.GraphLaws.{item_at}
use Rattle.offline_render.proofs.FrameLemmas.{one_or_two}
use Rattle.offline_render.proofs.offline.channels_of.Goals as goal

pub returns-clause-some : goal.returns-clause-some
returns-clause-some c = let q = c.index-as_slice-t.result in
    let there = item_at c.args.s.now c.as_slice.result.now c.args.t q c.as_slice.ensures.items (omega (arith, ap length c.as_slice.ensures.items, c.requires.formed.limits.master)) c.index-as_slice-t.is in
    let channels = (c.requires.formed.routes c.args.t q there).channels in
    subst (λ n. (n ≡ 1) ⊎ (n ≡ 2)) (ap (λ x. x.channels) c.index-as_slice-t.is) (one_or_two q.channels channels.least channels.most)

pub returns-clause-few : goal.returns-clause-few
returns-clause-few c = let q = c.index-as_slice-t.result in
    let there = item_at c.args.s.now c.as_slice.result.now c.args.t q c.as_slice.ensures.items (omega (arith, ap length c.as_slice.ensures.items, c.requires.formed.limits.master)) c.index-as_slice-t.is in
    subst (λ n. n ≤ 2) (ap (λ x. x.channels) c.index-as_slice-t.is) (c.requires.formed.routes c.args.t q there).channels.most
