use Rattle.std.proofs.Common.{◌≡◌, ◌+◌, ◌*◌, ◌<◌, length, get_or, set, ap, arith, rules, FitsSigned, w64}
use Rattle.std.specs.Prelude.{pos, ◌+ℤ◌}
use Rattle.std.proofs.lemmas.Int.{to_z-of_z}
use Rattle.route_graph.specs.Walks.{plain}
use Rattle.offline_render.specs.Links.{given_at}
use Rattle.offline_render.proofs.SumLemmas.{all_wider, goes_then, goes_wider}
use Rattle.offline_render.proofs.LinkLemmas.{send_there, one_given, send_given}
use Rattle.offline_render.proofs.links.send.Goals as goal

pub add-requires-clause-near : goal.add-requires-clause-near
add-requires-clause-near c = all_wider (562949953421312 + c.loop-link.link-index * 34359738368) 1125899906842624 c.loop-link.sums (omega (arith, ap length c.as_slice-sends.ensures.items))
    (c.loop-link.invariant.near 562949953421312 c.requires.near)

pub loop-link-preserved : goal.loop-link-preserved
loop-link-preserved c =
    let l = c.link-item.result in
    let whole : FitsSigned w64 c.taken.result = search rules in
    let sums : c.add.new.sums ≡ set c.loop-link.sums l.to (get_or c.loop-link.sums l.to (pos 0) +ℤ given_at c.args.s.now c.args.c (plain c.args.q.now) l.to c.taken.result) = simp to_z-of_z at c.add.ensures.sums in
    let there : l.to < length c.args.s.now.routes.items =
    send_there (length c.args.s.now.routes.items) c.loop-link.link-index l c.as_slice-sends.result.now c.args.q.now.sends.items c.as_slice-sends.ensures.items (omega arith) c.link-item.is c.requires.low.sends in
    record {
      sums = send_given c.args.s.now c.args.c (plain c.args.q.now) c.args.taps c.as_slice-sends.result.now c.loop-link.link-index l c.taken.result c.args.sums.now c.loop-link.sums c.add.new.sums
          (omega arith) c.link-item.is c.taken.ensures.value c.loop-link.invariant.sums
          (one_given c.args.s.now c.args.c (plain c.args.q.now) l.to c.taken.result c.loop-link.sums c.add.new.sums (omega arith) sums);
      near = goes_wider (c.loop-link.link-index * 34359738368 + 34359738368) ((c.loop-link.link-index + 1) * 34359738368) c.args.sums.now c.add.new.sums (omega arith)
          (goes_then (c.loop-link.link-index * 34359738368) 34359738368 c.args.sums.now c.loop-link.sums c.add.new.sums c.loop-link.invariant.near c.add.ensures.near);
    }

pub returns-clause-near : goal.returns-clause-near
returns-clause-near c = goes_wider (c.loop-link.link-index * 34359738368) 274877906944 c.args.sums.now c.loop-link.sums (omega (arith, ap length c.as_slice-sends.ensures.items)) c.loop-link.invariant.near
