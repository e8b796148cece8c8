use Rattle.std.proofs.Common.{arith, refl}
use Rattle.route_graph.specs.Walks.{plain}
use Rattle.offline_render.specs.Links.{put_at, sent_at, gives_at}
use Rattle.offline_render.proofs.SumLemmas.{all_wider, goes_then}
use Rattle.offline_render.proofs.LinkLemmas.{given_then}
use Rattle.offline_render.proofs.links.feed.Goals as goal

pub send-requires-clause-near : goal.send-requires-clause-near
send-requires-clause-near c = all_wider 281509336449024 562949953421312 c.put_out.new.sums (omega arith) (c.put_out.ensures.near 281474976710656 c.requires.near)

pub returns-clause-sums : goal.returns-clause-sums
returns-clause-sums c =
    let s = c.args.s.now in let q = plain c.args.q.now in
    given_then s (λ r. put_at s c.args.c q r c.args.taps) (λ r. sent_at s c.args.c q r c.args.taps q.sends) (λ r. gives_at s c.args.c q r c.args.taps) c.args.sums.now c.put_out.new.sums c.send.new.sums
    c.put_out.ensures.sums c.send.ensures.sums (λ r. refl)

pub returns-clause-near : goal.returns-clause-near
returns-clause-near c = goes_then 34359738368 274877906944 c.args.sums.now c.put_out.new.sums c.send.new.sums c.put_out.ensures.near c.send.ensures.near
