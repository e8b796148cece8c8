use Rattle.std.proofs.Common.{◌≡◌, ℕ, ◌≤◌, List, ◌++◌, length, get_or, drop, ap, ◌∙◌, rules}
use Rattle.std.proofs.lemmas.List.Elements.{All-same}
use Rattle.mix_kernel.specs.Blocks.{spread}
use Rattle.mix_kernel.proofs.Ranges.{front_put}
use Rattle.route_mix.proofs.FaderLemmas.{lane_spread, lane_quiet}
use Rattle.route_mix.proofs.faders.lane_gains.Goals as goal

pub returns-clause-gains : goal.returns-clause-gains
returns-clause-gains c =
    let front : List ℕ = c.lane_block.new.out in
    let gains : List ℕ = front ++ drop (length c.args.places.now) c.args.gains.now in
    let long : length front ≡ length c.args.places.now = search rules in
    let same : length gains ≡ length c.args.gains.now = search rules in
    c.spread.ensures ∙ ap (spread (λ i. get_or gains i 0) c.args.route.now.channels) same
    ∙ lane_spread c.args.route.now c.args.places.now c.requires.channels gains front (length c.args.gains.now) c.requires.long
    (front_put front (drop (length c.args.places.now) c.args.gains.now) (length c.args.places.now) long) c.lane_block.ensures.gains

pub returns-clause-quiet : goal.returns-clause-quiet
returns-clause-quiet c =
    let long : length c.lane_block.new.out ≡ length c.args.places.now = search rules in
    All-same (λ g. g ≤ 262144) _ _ (returns-clause-gains c)
    (lane_quiet c.args.route.now c.args.places.now c.requires.channels c.lane_block.new.out (length c.args.gains.now) 262144 c.requires.long long c.lane_block.ensures.gains c.lane_block.ensures.quiet)
