use Rattle.report_reader.proofs.LawLemmas as laws
use Rattle.report_reader.proofs.laws.read_or_refused.Goals as goal

pub returns-clause-not_both : goal.returns-clause-not_both
returns-clause-not_both c = laws.not_both

pub returns-clause-one : goal.returns-clause-one
returns-clause-one c = laws.one_line
