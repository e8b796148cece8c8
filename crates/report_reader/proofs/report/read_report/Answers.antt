use Rattle.report_reader.proofs.AnswerLemmas.{answers}
use Rattle.report_reader.proofs.report.read_report.Goals as goal

pub returns-clause-reads : goal.returns-clause-reads
returns-clause-reads c = answers c.args.bytes.now c.read.result c.read.ensures.goes
