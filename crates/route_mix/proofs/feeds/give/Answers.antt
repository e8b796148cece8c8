use Rattle.std.proofs.Common.{◌*◌, length, arith}
use Rattle.mix_kernel.proofs.NearLemmas.{goes_more}
use Rattle.route_mix.proofs.GivenLemmas.{fed_even, fed_sides, is_mono, even_long, sides_long, even_sum_long, sides_sum_long}
use Rattle.route_mix.proofs.feeds.give.Goals as goal

pub returns-then-route-channels-clause-fed : goal.returns-then-route-channels-clause-fed
returns-then-route-channels-clause-fed c = fed_even c.args.route.now c.args.channels c.args.gain c.args.samples.now c.args.sums.now c.add.new.self c.requires.own (omega arith) c.add.ensures.sums

pub returns-then-route-channels-clause-long : goal.returns-then-route-channels-clause-long
returns-then-route-channels-clause-long c = even_sum_long c.args.samples.now c.args.sums.now c.add.new.self c.args.gain c.add.ensures.sums
    (even_long c.args.route.now.channels c.args.channels (length c.args.samples.now) (length c.args.sums.now) c.requires.own (omega arith) c.requires.long)

pub returns-then-route-channels-clause-near : goal.returns-then-route-channels-clause-near
returns-then-route-channels-clause-near c = goes_more (c.args.gain * 32768) 34359738368 _ _ (omega (arith, c.add.ensures.gain)) c.add.ensures.near

pub returns-else-route-channels-clause-fed : goal.returns-else-route-channels-clause-fed
returns-else-route-channels-clause-fed c = let mono = is_mono c.args.route.now.channels c.args.channels c.requires.own c.requires.into (omega arith) (omega arith) in
    fed_sides c.args.route.now c.args.channels c.args.gain c.args.samples.now c.args.sums.now c.add_sides.new.self mono.0 mono.1 c.add_sides.ensures.sums

pub returns-else-route-channels-clause-long : goal.returns-else-route-channels-clause-long
returns-else-route-channels-clause-long c = let mono = is_mono c.args.route.now.channels c.args.channels c.requires.own c.requires.into (omega arith) (omega arith) in
    sides_sum_long c.args.samples.now c.args.sums.now c.add_sides.new.self c.args.gain c.args.route.now.left c.args.route.now.right c.add_sides.ensures.sums
    (sides_long c.args.route.now.channels c.args.channels (length c.args.samples.now) (length c.args.sums.now) mono.0 mono.1 c.requires.long)
