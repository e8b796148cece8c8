use Rattle.std.proofs.Common.{◌≤◌, ◌<◌, ap, arith, length, slice_index}
use Rattle.route_graph.proofs.FeedLaws as laws
use Rattle.route_graph.proofs.feeders.count_links.Goals as goal
use Rattle.route_graph.proofs.feeders.count_links.Goals.{in-Some, in_default}

pub overflow_add-counts-in-loop-send : goal.overflow_add-counts-in-loop-send
overflow_add-counts-in-loop-send c = let to = c.send-item.result.to in
    let here : to < length c.args.counts.now =
    laws.send_low (length c.args.counts.now) c.args.route.now c.as_slice-sends.result.now c.loop-send.send-index c.send-item.result
    c.requires.low c.as_slice-sends.ensures.items c.loop-send-test.true c.send-item.is in
    let few = laws.count_few c.as_slice-sends.result.now c.args.route.now.sends.items c.loop-send.send-index to c.as_slice-sends.ensures.items c.requires.few in
    let begun : slice_index c.match-route.counts to ≤ 1001 = elim c.match-route.branch [
      | in-Some w ↦ omega (
        arith,
        ap (λ xs. slice_index xs to) w.counts-is,
        laws.one_more_small c.args.counts.now w.in-Some.to to c.requires.small
            (laws.target_below (length c.args.counts.now) w.in-Some.to c.args.route.now c.requires.low w.in-Some.is) here,
      )
      | in_default w ↦ omega (arith, ap (λ xs. slice_index xs to) w.counts-is, c.requires.small to here)
    ] in
    omega (arith, c.loop-send.invariant to (omega (arith, c.loop-send.auto.counts, c.match-route.auto.counts)))
