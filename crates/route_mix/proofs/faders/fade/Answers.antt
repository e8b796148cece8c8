use Rattle.std.proofs.Common.{◌≡◌, ◌*◌, length, take, ap, sym, ◌∙◌}
use Rattle.std.proofs.lemmas.List.{length-take-le}
use Rattle.mix_kernel.specs.Blocks.{spread}
use Rattle.route_mix.specs.Faders.{frame_gain}
use Rattle.route_mix.proofs.FaderLemmas.{faded_evenly, faded_along, faded_long}
use Rattle.route_mix.proofs.faders.fade.Goals as goal

pub returns-in-Some-clause-faded : goal.returns-in-Some-clause-faded
returns-in-Some-clause-faded c = faded_evenly c.args.route.now c.args.places.now c.requires.channels c.args.reach.first c.args.reach.last c.in-Some.gain c.args.samples.now c.scale.new.self c.requires.reach c.in-Some.ensures.gain c.scale.ensures

whole : (c : goal.After-slice_known-in-None-2-1) → length (take (length c.args.samples.now) c.args.gains.now) ≡ length c.args.places.now * c.args.route.now.channels
whole c = length-take-le (length c.args.samples.now) c.args.gains.now c.requires.gains ∙ c.requires.samples

pub returns-in-None-clause-faded : goal.returns-in-None-clause-faded
returns-in-None-clause-faded c = faded_along c.args.route.now c.args.places.now c.requires.channels c.args.samples.now c.scale_each.new.self c.lane_gains.new.gains
    (c.lane_gains.ensures.gains ∙ ap (spread (frame_gain c.args.route.now c.args.places.now) c.args.route.now.channels) (whole c)) c.scale_each.ensures

pub returns-in-None-clause-long : goal.returns-in-None-clause-long
returns-in-None-clause-long c =
    faded_long c.args.route.now c.args.places.now c.requires.channels c.args.samples.now c.scale_each.new.self c.requires.samples (returns-in-None-clause-faded c) ∙ sym c.requires.post
