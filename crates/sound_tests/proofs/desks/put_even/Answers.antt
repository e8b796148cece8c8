use Rattle.std.proofs.Common.{◌≡◌, ◌*◌, length, get_or, ◌<◌, ap, sym, ◌∙◌, rules, arith}
use Rattle.route_mix.proofs.DeskLemmas.{sizes_of, a_route}
use Rattle.route_mix.proofs.RouteLemmas.{channels_there}
use Rattle.sound_tests.proofs.desks.put_even.Goals as goal

pub put-requires-clause-block : goal.put-requires-clause-block
put-requires-clause-block c =
    let s = c.args.s.now in
    let inside : c.args.t < length s.routes.items = omega (arith, c.requires.there, c.requires.valid.formed.limits.master) in
    let route = ap (λ qs. get_or qs c.args.t c.index-as_slice-t.result) c.as_slice.ensures.items in
    let long : length c.as_slice-2.result.now ≡ s.block * c.index-as_slice-t.result.channels = search rules in
    long ∙ ap (λ n. s.block * n) (ap (λ q. q.channels) (c.index-as_slice-t.is ∙ route) ∙ sym (channels_there s c.args.t c.index-as_slice-t.result inside))
    ∙ sym ((sizes_of s (a_route s c.requires.valid.formed) c.args.desk.now.inputs c.requires.desk.inputs).each c.args.t inside)
