use Rattle.route_mix.proofs.RouteLemmas.{to_within, may_out}
use Rattle.route_mix.proofs.GivingLemmas.{fed_one, near_one, output_out, at_gain}
use Rattle.route_mix.proofs.feeds.put_out.Goals as goal

pub returns-in-Some-clause-given : goal.returns-in-Some-clause-given
returns-in-Some-clause-given c before behind below from post under =
    let leads = may_out c.args.s.now c.requires.route.0 c.args.route.now c.in-Some.to c.requires.route.1 c.in-Some.is in
    output_out c.args.s.now c.requires.formed c.args.route.now c.in-Some.to below before behind c.give_to.new.sums c.in-Some.is
    (at_gain c.args.s.now c.requires.formed c.args.route.now c.in-Some.to c.unity.result _ below behind c.give_to.new.sums c.unity.ensures
    (fed_one c.args.s.now c.requires.formed c.args.route.now c.in-Some.to c.unity.result (to_within c.args.s.now c.args.route.now c.in-Some.to leads) c.args.post.now c.args.sums.now c.give_to.new.sums
    c.give_to.ensures.fed c.give_to.ensures.others c.give_to.ensures.sizes behind below post under))

pub returns-in-Some-clause-near : goal.returns-in-Some-clause-near
returns-in-Some-clause-near c =
    let leads = may_out c.args.s.now c.requires.route.0 c.args.route.now c.in-Some.to c.requires.route.1 c.in-Some.is in
    near_one c.args.s.now c.requires.formed c.args.route.now c.in-Some.to c.unity.result (to_within c.args.s.now c.args.route.now c.in-Some.to leads) c.args.post.now c.args.sums.now c.give_to.new.sums
    c.give_to.ensures.fed c.give_to.ensures.others c.give_to.ensures.sizes c.give_to.ensures.near
