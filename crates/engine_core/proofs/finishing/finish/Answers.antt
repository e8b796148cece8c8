use Rattle.engine_core.proofs.EndLemmas as ends
use Rattle.engine_core.proofs.finishing.finish.Goals as goal

-- src/finishing.rt
pub close-ending-requires : goal.close-ending-requires
close-ending-requires g c = λ κs m. (m.0, (m.1.0, (m.1.1, c.end.ensures.written.rests)))

pub leave-requires : goal.leave-requires
leave-requires g c = λ κs m. (
  m.0,
  (
    m.1.0,
    (
      m.1.1,
      (
        ends.may_leave g.M.Media.outside g.I.Source.outside g.W.Sink.outside g.on c.args.run c.requires.1.1.1.0 c.end.new.self c.end.ensures.written
            c.close-ending.result.0 c.close-ending.result.1 c.close-ending.ensures.closes c.close-ending.ensures.serves,
        (c.requires.1.1.1.1.0, c.requires.1.1.1.1.1),
      ),
    ),
  ),
)

pub returns-clause-written : goal.returns-clause-written
returns-clause-written g c = ends.gives_back g.M.Media.outside g.I.Source.outside g.W.Sink.outside g.on c.args.run c.requires.1.1.1.0 c.end.new.self c.end.ensures.written
    c.close-ending.result.0 c.close-ending.result.1 c.close-ending.ensures.closes c.leave.result c.leave.ensures.over

pub returns-clause-counts : goal.returns-clause-counts
returns-clause-counts g c = ends.counts g.M.Media.outside g.I.Source.outside g.W.Sink.outside g.on c.args.run c.requires.1.1.1.0 c.end.new.self c.end.ensures.written
    c.close-ending.result.0 c.close-ending.result.1 c.close-ending.ensures.closes c.leave.result c.leave.ensures.over c.leave.ensures.counts

pub returns-clause-as_machine : goal.returns-clause-as_machine
returns-clause-as_machine g c = ends.as_machine g.M.Media.outside g.I.Source.outside g.W.Sink.outside g.on c.args.run c.requires.1.1.1.0 c.end.new.self c.end.ensures.written
    c.close-ending.result.0 c.close-ending.result.1 c.close-ending.ensures.closes c.leave.result c.leave.ensures.over c.leave.ensures.turns
    c.leave.ensures.rings.passed c.close-ending.ensures.as_machine
