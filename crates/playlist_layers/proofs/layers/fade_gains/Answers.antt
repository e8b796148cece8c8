use Rattle.std.proofs.Common.{◌≡◌, ℕ, List, ◌+◌, ◌/◌, ◌≤◌, ◌∙◌, ◌++◌, length, get_or, drop, ap, rules}
use Rattle.std.specs.List.{range_with_len}
use Rattle.std.proofs.lemmas.List.Elements.{All-same, All-map}
use Rattle.sound_model.specs.Regions.{fade}
use Rattle.session_model.specs.Region.{region_of}
use Rattle.ramp_fixed.proofs.Parts.{ranged}
use Rattle.ramp_fixed.proofs.FadeValues.{fade_within}
use Rattle.mix_kernel.specs.Blocks.{spread}
use Rattle.mix_kernel.proofs.Ranges.{spread_along, front_put}
use Rattle.playlist_layers.proofs.layers.fade_gains.Goals as goal

pub returns-clause-gains : goal.returns-clause-gains
returns-clause-gains c =
    let f : ℕ → ℕ = fade (region_of c.args.region.now) in
    let front : List ℕ = c.fade_block.new.out in
    let gains : List ℕ = front ++ drop c.args.count c.args.gains.now in
    let long : length front ≡ c.args.count = search rules in
    let same : length gains ≡ length c.args.gains.now = search rules in
    c.spread.ensures
    ∙ ap (spread (λ i. get_or gains i 0) c.args.channels) same
    ∙ spread_along f c.args.first c.args.count c.args.channels (length c.args.gains.now) gains front c.requires.channels c.requires.whole
    (front_put front (drop c.args.count c.args.gains.now) c.args.count long)
    (ranged f c.args.first _ c.args.count front c.fade_block.ensures.are long)

pub returns-clause-quiet : goal.returns-clause-quiet
returns-clause-quiet c =
    All-same (λ g. g ≤ 65536) _ _ (returns-clause-gains c)
    (All-map (λ g. g ≤ 65536) (λ k. fade (region_of c.args.region.now) (c.args.first + k / c.args.channels)) (range_with_len 0 (length c.args.gains.now))
    (λ k d h. fade_within (region_of c.args.region.now) _))
