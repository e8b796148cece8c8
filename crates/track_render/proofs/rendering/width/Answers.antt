use Rattle.std.proofs.Common.{◌≡◌, ◌⊎◌, length, ap, arith, subst}
use Rattle.track_render.proofs.TrackLemmas.{item_at, few_channels}
use Rattle.track_render.proofs.rendering.width.Goals as goal

pub returns-clause-some : goal.returns-clause-some
returns-clause-some c = let s = c.args.session.now in let q = c.index-as_slice-track.result in
    let there = item_at s.routes.items c.as_slice.result.now c.args.track q c.as_slice.ensures.items (omega (arith, ap length c.as_slice.ensures.items, c.requires.track, c.requires.valid.formed.limits.master)) c.index-as_slice-track.is in
    subst (λ n. (n ≡ 1) ⊎ (n ≡ 2)) (ap (λ x. x.channels) c.index-as_slice-track.is) (few_channels s c.args.track q c.requires.valid.formed there)
