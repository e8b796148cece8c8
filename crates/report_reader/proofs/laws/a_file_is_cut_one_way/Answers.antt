use Rattle.report_reader.proofs.CutLemmas.{cut_one_way}
use Rattle.report_reader.proofs.laws.a_file_is_cut_one_way.Goals as goal

pub returns : goal.returns
returns c = cut_one_way
