use Rattle.run_end.proofs.LeaveLemmas as leaves
use Rattle.run_end.proofs.leaving.leave.Goals as goal

-- src/leaving.rt
pub drain-ending-requires : goal.drain-ending-requires
drain-ending-requires g c = λ κs m. (m.0, (m.1.0, (m.1.1, c.requires.1.1.1.0.last)))

pub part-requires : goal.part-requires
part-requires g c = λ κs m. (
  m.0,
  (
    m.1.0,
    (
      m.1.1,
      leaves.may_part g.M.Media.outside g.I.Source.outside g.on (record { ending = c.drain-ending.result.0; stopped = c.args.stopped; failed = c.drain-ending.result.1 })
          (leaves.at_rest g.M.Media.outside g.I.Source.outside g.on c.args.ending c.args.stopped c.args.failed c.requires.1.1.1.0 c.drain-ending.result.0 c.drain-ending.result.1 c.drain-ending.ensures.alone c.drain-ending.ensures.last c.drain-ending.ensures.entered c.drain-ending.ensures.received)
          c.args.lists c.args.records c.requires.1.1.1.1.0 c.requires.1.1.1.1.1,
    ),
  ),
)

pub returns-clause-over : goal.returns-clause-over
returns-clause-over g c = leaves.over g.M.Media.outside g.I.Source.outside g.on (record { ending = c.drain-ending.result.0; stopped = c.args.stopped; failed = c.drain-ending.result.1 })
    (leaves.at_rest g.M.Media.outside g.I.Source.outside g.on c.args.ending c.args.stopped c.args.failed c.requires.1.1.1.0 c.drain-ending.result.0 c.drain-ending.result.1 c.drain-ending.ensures.alone c.drain-ending.ensures.last c.drain-ending.ensures.entered c.drain-ending.ensures.received)
    _ c.args.records c.part.result c.part.ensures c.args.ending c.args.failed c.drain-ending.ensures.alone

pub returns-clause-counts : goal.returns-clause-counts
returns-clause-counts g c = leaves.counts g.M.Media.outside g.I.Source.outside g.on (record { ending = c.drain-ending.result.0; stopped = c.args.stopped; failed = c.drain-ending.result.1 })
    (leaves.at_rest g.M.Media.outside g.I.Source.outside g.on c.args.ending c.args.stopped c.args.failed c.requires.1.1.1.0 c.drain-ending.result.0 c.drain-ending.result.1 c.drain-ending.ensures.alone c.drain-ending.ensures.last c.drain-ending.ensures.entered c.drain-ending.ensures.received)
    _ c.args.records c.part.result c.part.ensures

pub returns-clause-takes : goal.returns-clause-takes
returns-clause-takes g c = leaves.takes g.M.Media.outside g.I.Source.outside g.on (record { ending = c.drain-ending.result.0; stopped = c.args.stopped; failed = c.drain-ending.result.1 })
    (leaves.at_rest g.M.Media.outside g.I.Source.outside g.on c.args.ending c.args.stopped c.args.failed c.requires.1.1.1.0 c.drain-ending.result.0 c.drain-ending.result.1 c.drain-ending.ensures.alone c.drain-ending.ensures.last c.drain-ending.ensures.entered c.drain-ending.ensures.received)
    c.args.records c.requires.1.1.1.1.1 c.part.result c.part.ensures

pub returns-clause-rings : goal.returns-clause-rings
returns-clause-rings g c = leaves.rings g.M.Media.outside g.I.Source.outside g.on (record { ending = c.drain-ending.result.0; stopped = c.args.stopped; failed = c.drain-ending.result.1 })
    (leaves.at_rest g.M.Media.outside g.I.Source.outside g.on c.args.ending c.args.stopped c.args.failed c.requires.1.1.1.0 c.drain-ending.result.0 c.drain-ending.result.1 c.drain-ending.ensures.alone c.drain-ending.ensures.last c.drain-ending.ensures.entered c.drain-ending.ensures.received)
    _ c.args.records c.part.result c.part.ensures

pub returns-clause-genuine : goal.returns-clause-genuine
returns-clause-genuine g c = λ tells. leaves.genuine g.M.Media.outside g.I.Source.outside g.on (record { ending = c.drain-ending.result.0; stopped = c.args.stopped; failed = c.drain-ending.result.1 })
    (leaves.at_rest g.M.Media.outside g.I.Source.outside g.on c.args.ending c.args.stopped c.args.failed c.requires.1.1.1.0 c.drain-ending.result.0 c.drain-ending.result.1 c.drain-ending.ensures.alone c.drain-ending.ensures.last c.drain-ending.ensures.entered c.drain-ending.ensures.received)
    _ c.args.records c.part.result c.part.ensures tells

pub returns-clause-turns : goal.returns-clause-turns
returns-clause-turns g c = leaves.by_turns g.M.Media.outside g.I.Source.outside g.on (record { ending = c.drain-ending.result.0; stopped = c.args.stopped; failed = c.drain-ending.result.1 })
    (leaves.at_rest g.M.Media.outside g.I.Source.outside g.on c.args.ending c.args.stopped c.args.failed c.requires.1.1.1.0 c.drain-ending.result.0 c.drain-ending.result.1 c.drain-ending.ensures.alone c.drain-ending.ensures.last c.drain-ending.ensures.entered c.drain-ending.ensures.received)
    _ c.args.records c.part.result c.part.ensures c.args.ending c.args.failed c.drain-ending.ensures.alone c.drain-ending.ensures.turns
