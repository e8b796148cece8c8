use Rattle.route_mix.proofs.RouteLemmas.{to_within}
use Rattle.route_mix.proofs.GivingLemmas.{fed_one, near_one, send_pre, send_post}
use Rattle.route_mix.proofs.feeds.send_out.Goals as goal

pub returns-then-send-clause-given : goal.returns-then-send-clause-given
returns-then-send-clause-given c before behind below from post under =
    send_pre c.args.s.now c.requires.formed c.args.route.now c.args.send.now below before behind c.give_to.new.sums c.if-send.true
    (fed_one c.args.s.now c.requires.formed c.args.route.now c.args.send.now.to c.args.send.now.gain (to_within c.args.s.now c.args.route.now c.args.send.now.to c.requires.leads) c.args.input.now c.args.sums.now c.give_to.new.sums
    c.give_to.ensures.fed c.give_to.ensures.others c.give_to.ensures.sizes before below from under)

pub returns-then-send-clause-near : goal.returns-then-send-clause-near
returns-then-send-clause-near c =
    near_one c.args.s.now c.requires.formed c.args.route.now c.args.send.now.to c.args.send.now.gain (to_within c.args.s.now c.args.route.now c.args.send.now.to c.requires.leads) c.args.input.now c.args.sums.now c.give_to.new.sums
    c.give_to.ensures.fed c.give_to.ensures.others c.give_to.ensures.sizes c.give_to.ensures.near

pub returns-else-send-clause-given : goal.returns-else-send-clause-given
returns-else-send-clause-given c before behind below from post under =
    send_post c.args.s.now c.requires.formed c.args.route.now c.args.send.now below before behind c.give_to-else-send.new.sums c.if-send.false
    (fed_one c.args.s.now c.requires.formed c.args.route.now c.args.send.now.to c.args.send.now.gain (to_within c.args.s.now c.args.route.now c.args.send.now.to c.requires.leads) c.args.post.now c.args.sums.now c.give_to-else-send.new.sums
    c.give_to-else-send.ensures.fed c.give_to-else-send.ensures.others c.give_to-else-send.ensures.sizes behind below post under)

pub returns-else-send-clause-near : goal.returns-else-send-clause-near
returns-else-send-clause-near c =
    near_one c.args.s.now c.requires.formed c.args.route.now c.args.send.now.to c.args.send.now.gain (to_within c.args.s.now c.args.route.now c.args.send.now.to c.requires.leads) c.args.post.now c.args.sums.now c.give_to-else-send.new.sums
    c.give_to-else-send.ensures.fed c.give_to-else-send.ensures.others c.give_to-else-send.ensures.sizes c.give_to-else-send.ensures.near
