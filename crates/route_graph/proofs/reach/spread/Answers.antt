use Rattle.std.proofs.Common.{◌∙◌}
use Rattle.route_graph.proofs.SpreadLaws as laws
use Rattle.route_graph.proofs.reach.spread.Goals as goal
use Rattle.route_graph.proofs.reach.spread.Goals.{in-Some, in_default}

pub returns-clause-stand : goal.returns-clause-stand
returns-clause-stand c = λ t. elim c.match-route.branch [
  | in-Some w ↦ laws.found_some c.args.route.now c.args.found.now c.match-route.found c.loop-send.found c.as_slice-sends.result.now c.loop-send.send-index w.in-Some.to t
      (c.loop-send.invariant.stand t) c.loop-send-test.false c.as_slice-sends.ensures.items w.in-Some.is (w.found-is ∙ w.note.ensures.places)
  | in_default w ↦ laws.found_none c.args.route.now c.args.found.now c.match-route.found c.loop-send.found c.as_slice-sends.result.now c.loop-send.send-index t
      (c.loop-send.invariant.stand t) c.loop-send-test.false c.as_slice-sends.ensures.items w.in_default.is w.found-is
]
