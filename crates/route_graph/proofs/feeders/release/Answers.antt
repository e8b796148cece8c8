use Rattle.std.proofs.Common.{◌∙◌, ◌<◌, arith, length}
use Rattle.route_graph.proofs.FeedLaws as laws
use Rattle.route_graph.proofs.PlaceLaws.{starts_then}
use Rattle.route_graph.proofs.feeders.release.Goals as goal
use Rattle.route_graph.proofs.feeders.release.Goals.{in-Some, in_default}

pub unlink-requires-in-loop-send-clause-linked : goal.unlink-requires-in-loop-send-clause-linked
unlink-requires-in-loop-send-clause-linked c = let l = c.send-item.result in let q = c.args.route.now in let old = c.args.counts.now in
    let here : l.to < length old = laws.send_low (length old) q c.as_slice-sends.result.now c.loop-send.send-index l c.requires.low c.as_slice-sends.ensures.items
    c.loop-send-test.true c.send-item.is in
    laws.still_linked q old c.match-route.counts c.loop-send.counts c.as_slice-sends.result.now c.loop-send.send-index l
    c.loop-send-test.true c.send-item.is c.as_slice-sends.ensures.items
    (elim c.match-route.branch [
      | in-Some w ↦ let low = laws.target_below (length old) w.in-Some.to q c.requires.low w.in-Some.is in
          laws.output_some old c.match-route.counts w.in-Some.to l.to q.target w.in-Some.is low
          (laws.output_linked q old w.in-Some.to w.in-Some.is (c.requires.linked w.in-Some.to low)) (w.counts-is ∙ w.unlink.ensures.counts)
      | in_default w ↦ laws.output_none old c.match-route.counts l.to q.target w.in_default.is w.counts-is
    ])
    (c.requires.linked l.to here) (c.loop-send.invariant.counts l.to (omega (arith, c.loop-send.auto.counts, c.match-route.auto.counts)))

pub loop-send-preserved : goal.loop-send-preserved
loop-send-preserved c = let l = c.send-item.result in let q = c.args.route.now in let old = c.args.counts.now in
    let here : l.to < length old = laws.send_low (length old) q c.as_slice-sends.result.now c.loop-send.send-index l c.requires.low c.as_slice-sends.ensures.items
    c.loop-send-test.true c.send-item.is in
    let low : l.to < length c.loop-send.counts = omega (arith, c.loop-send.auto.counts, c.match-route.auto.counts) in
    let linked = laws.still_linked q old c.match-route.counts c.loop-send.counts c.as_slice-sends.result.now c.loop-send.send-index l
    c.loop-send-test.true c.send-item.is c.as_slice-sends.ensures.items
    (elim c.match-route.branch [
      | in-Some w ↦ let target = laws.target_below (length old) w.in-Some.to q c.requires.low w.in-Some.is in
          laws.output_some old c.match-route.counts w.in-Some.to l.to q.target w.in-Some.is target
          (laws.output_linked q old w.in-Some.to w.in-Some.is (c.requires.linked w.in-Some.to target)) (w.counts-is ∙ w.unlink.ensures.counts)
      | in_default w ↦ laws.output_none old c.match-route.counts l.to q.target w.in_default.is w.counts-is
    ])
    (c.requires.linked l.to here) (c.loop-send.invariant.counts l.to low) in
    record {
      counts = λ t h. laws.sent_more c.match-route.counts c.loop-send.counts c.unlink-in-loop-send.new.counts c.as_slice-sends.result.now c.loop-send.send-index t l
          c.loop-send-test.true c.send-item.is low linked c.unlink-in-loop-send.ensures.counts (c.loop-send.invariant.counts t (omega (arith, c.unlink-in-loop-send.auto.counts)));
      settled = c.unlink-in-loop-send.ensures.settled;
      starts = starts_then c.unlink-in-loop-send.new.places c.loop-send.places c.args.places.now c.unlink-in-loop-send.ensures.starts c.loop-send.invariant.starts;
    }
