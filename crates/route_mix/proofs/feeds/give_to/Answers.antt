use Rattle.std.proofs.Common.{◌≡◌, ◌*◌, ◌≤◌, ◌<◌, [], List, length, get_or, set, ap, sym, ◌∙◌, subst}
use Rattle.std.proofs.lemmas.List.{get_or_default, get_or-set_same}
use Rattle.mix_kernel.specs.Bounds.{AllNear}
use Rattle.session_model.specs.Formed.{channels_at}
use Rattle.session_model.specs.declared.route.Route.{Route}
use Rattle.route_mix.specs.Blocks.{AreFew}
use Rattle.route_mix.specs.Feeds.{IsFed}
use Rattle.route_mix.proofs.RouteLemmas.{channels_there, few_there, to_within, wide_there, long_there}
use Rattle.route_mix.proofs.feeds.give_to.Goals as goal

pub give-requires-clause-into : goal.give-requires-clause-into
give-requires-clause-into c =
    subst (λ (qs : List Route). AreFew (get_or qs c.args.to c.index-as_slice-to.result).channels) (sym c.as_slice.ensures.items)
    (few_there c.args.s.now c.requires.formed c.args.to (to_within c.args.s.now c.args.route.now c.args.to c.requires.leads) c.index-as_slice-to.result)

pub give-requires-clause-wide : goal.give-requires-clause-wide
give-requires-clause-wide c =
    subst (λ (qs : List Route). c.args.route.now.channels ≤ (get_or qs c.args.to c.index-as_slice-to.result).channels) (sym c.as_slice.ensures.items)
    (wide_there c.args.s.now c.args.route.now c.args.to c.requires.leads c.index-as_slice-to.result)

pub give-requires-clause-long : goal.give-requires-clause-long
give-requires-clause-long c =
    let inside = to_within c.args.s.now c.args.route.now c.args.to c.requires.leads in
    subst (λ (qs : List Route). length c.args.samples.now * (get_or qs c.args.to c.index-as_slice-to.result).channels ≡ length (get_or c.args.sums.now c.args.to c.index-sums-to.result) * c.args.route.now.channels)
    (sym c.as_slice.ensures.items)
    (long_there c.args.s.now.block c.args.route.now.channels _ (length c.args.samples.now) (length (get_or c.args.sums.now c.args.to c.index-sums-to.result)) c.requires.samples
    (ap length (get_or_default c.args.sums.now c.args.to c.index-sums-to.result [] (subst (λ n. c.args.to < n) (sym c.requires.sizes.all) inside))
    ∙ c.requires.sizes.each c.args.to inside ∙ ap (λ n. c.args.s.now.block * n) (channels_there c.args.s.now c.args.to c.index-as_slice-to.result inside)))

pub give-requires-clause-near : goal.give-requires-clause-near
give-requires-clause-near c =
    let inside = to_within c.args.s.now c.args.route.now c.args.to c.requires.leads in
    subst (AllNear 281474976710656) (get_or_default c.args.sums.now c.args.to [] c.index-sums-to.result (subst (λ n. c.args.to < n) (sym c.requires.sizes.all) inside)) c.requires.near

pub returns-clause-fed : goal.returns-clause-fed
returns-clause-fed c =
    let inside = to_within c.args.s.now c.args.route.now c.args.to c.requires.leads in
    let there : c.args.to < length c.args.sums.now = subst (λ n. c.args.to < n) (sym c.requires.sizes.all) inside in
    let old : get_or c.args.sums.now c.args.to c.index-sums-to.result ≡ get_or c.args.sums.now c.args.to [] = get_or_default c.args.sums.now c.args.to c.index-sums-to.result [] there in
    let new : get_or (set c.args.sums.now c.args.to c.give.new.sums) c.args.to [] ≡ c.give.new.sums = get_or-set_same c.args.sums.now c.args.to c.give.new.sums [] there in
    let channels : (get_or c.as_slice.result.now c.args.to c.index-as_slice-to.result).channels ≡ channels_at c.args.s.now c.args.to = ap (λ qs. (get_or qs c.args.to c.index-as_slice-to.result).channels) c.as_slice.ensures.items
    ∙ sym (channels_there c.args.s.now c.args.to c.index-as_slice-to.result inside) in
    subst (λ n. IsFed c.args.route.now n c.args.gain c.args.samples.now (get_or c.args.sums.now c.args.to []) (get_or (set c.args.sums.now c.args.to c.give.new.sums) c.args.to [])) channels
    (subst (λ o. IsFed c.args.route.now (get_or c.as_slice.result.now c.args.to c.index-as_slice-to.result).channels c.args.gain c.args.samples.now o (get_or (set c.args.sums.now c.args.to c.give.new.sums) c.args.to [])) old
    (subst (λ n. IsFed c.args.route.now (get_or c.as_slice.result.now c.args.to c.index-as_slice-to.result).channels c.args.gain c.args.samples.now (get_or c.args.sums.now c.args.to c.index-sums-to.result) n) (sym new) c.give.ensures.fed))
