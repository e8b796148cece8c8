use Rattle.report_reader.specs.Reading.{Begun, lines_of}
use Rattle.report_reader.proofs.ReadingLemmas.{no_more, head_goes}
use Rattle.report_reader.proofs.report.read_head.Goals as goal

pub returns-in-Some-clause-goes : goal.returns-in-Some-clause-goes
returns-in-Some-clause-goes c = λ first.
    head_goes first c.args.lines.now.number c.next.new.self.number c.in-Some.line.now (lines_of c.args.lines.now.rest.now) (lines_of c.next.new.self.rest.now) c.format.result c.ok_or.result
    c.format.ensures c.ok_or.ensures.value c.in-Some.ensures.line c.in-Some.ensures.number

pub returns-in-None-clause-goes : goal.returns-in-None-clause-goes
returns-in-None-clause-goes c = λ first. no_more c.args.lines.now.number (Begun first) (lines_of c.args.lines.now.rest.now) c.in-None.ensures.line
