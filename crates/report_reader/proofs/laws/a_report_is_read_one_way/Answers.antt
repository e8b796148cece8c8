use Rattle.report_reader.proofs.LawLemmas.{read_one_way}
use Rattle.report_reader.proofs.laws.a_report_is_read_one_way.Goals as goal

pub returns : goal.returns
returns c = read_one_way
