use Rattle.std.proofs.Common.{◌+◌, ◌*◌, ◌≤◌, ◌<◌, List, [], ◌∷◌, length, get_or, ap, ◌∙◌, subst, arith}
use Rattle.session_model.specs.declared.route.SendLink.{SendLink}
use Rattle.route_mix.specs.Feeds.{put_out, sent_out, all_out}
use Rattle.mix_kernel.proofs.NearLemmas.{near_more}
use Rattle.route_mix.proofs.GivingLemmas.{first_out, given_then, given_same_as, more_sent, all_sent, none_sent}
use Rattle.route_mix.proofs.feeds.pass_on.Goals as goal

pub loop-send-init : goal.loop-send-init
loop-send-init c = record {
  given = given_same_as c.args.s.now c.requires.formed c.args.route.now c.args.input.now c.args.post.now (put_out c.args.s.now c.args.route.now) (first_out c.args.s.now c.args.route.now 0) c.args.sums.now c.put_out.new.sums
      (none_sent c.args.s.now c.args.route.now) c.put_out.ensures.given;
  sizes = c.put_out.ensures.sizes;
  near = c.put_out.ensures.near;
}

pub send_out-requires-clause-sizes : goal.send_out-requires-clause-sizes
send_out-requires-clause-sizes c = c.loop-send.invariant.sizes

pub send_out-requires-clause-near : goal.send_out-requires-clause-near
send_out-requires-clause-near c r =
    let few : c.loop-send.send-index < 8 = omega (arith, c.loop-send-test.true, ap length c.as_slice-sends.ensures.items, c.requires.route.1.few) in
    near_more (140737488355328 + (c.loop-send.send-index + 1) * 34359738368) 281474976710656 (get_or c.loop-send.sums r []) (omega arith) (c.loop-send.invariant.near 140737488355328 c.requires.near r)

pub loop-send-preserved : goal.loop-send-preserved
loop-send-preserved c = record {
  given = given_then c.args.s.now c.requires.formed c.args.route.now c.args.input.now c.args.post.now (first_out c.args.s.now c.args.route.now c.loop-send.send-index) (sent_out c.args.s.now c.args.route.now (c.send-item.result ∷ []))
      (first_out c.args.s.now c.args.route.now (c.loop-send.send-index + 1)) c.args.sums.now c.loop-send.sums c.send_out.new.sums
      (more_sent c.args.s.now c.args.route.now c.loop-send.send-index c.send-item.result (subst (λ (ls : List SendLink). c.loop-send.send-index < length ls) c.as_slice-sends.ensures.items c.loop-send-test.true)
      (c.send-item.is ∙ ap (λ ls. get_or ls c.loop-send.send-index c.send-item.result) c.as_slice-sends.ensures.items))
      c.loop-send.invariant.given c.send_out.ensures.given;
  sizes = c.send_out.ensures.sizes;
  near = λ b near r. near_more (b + (c.loop-send.send-index + 1) * 34359738368 + 34359738368) (b + (c.loop-send.send-index + 1 + 1) * 34359738368) (get_or c.send_out.new.sums r []) (omega arith)
      (c.send_out.ensures.near (b + (c.loop-send.send-index + 1) * 34359738368) (c.loop-send.invariant.near b near) r);
}

pub returns-clause-given : goal.returns-clause-given
returns-clause-given c = given_same_as c.args.s.now c.requires.formed c.args.route.now c.args.input.now c.args.post.now (first_out c.args.s.now c.args.route.now c.loop-send.send-index) (all_out c.args.s.now c.args.route.now) c.args.sums.now c.loop-send.sums
    (all_sent c.args.s.now c.args.route.now c.loop-send.send-index (subst (λ (ls : List SendLink). length ls ≤ c.loop-send.send-index) c.as_slice-sends.ensures.items (omega arith)))
    c.loop-send.invariant.given

pub returns-clause-sizes : goal.returns-clause-sizes
returns-clause-sizes c = c.loop-send.invariant.sizes

pub returns-clause-near : goal.returns-clause-near
returns-clause-near c b near r =
    let few : c.loop-send.send-index ≤ 8 = omega (arith, c.loop-send.auto.send-index-end, ap length c.as_slice-sends.ensures.items, c.requires.route.1.few) in
    near_more (b + (c.loop-send.send-index + 1) * 34359738368) (b + 309237645312) (get_or c.loop-send.sums r []) (omega arith) (c.loop-send.invariant.near b near r)
