use Rattle.report_verdict.proofs.AgreeLemmas as agree
use Rattle.report_verdict.proofs.laws.all_stand_where_all_agree.Goals as goal

pub returns : goal.returns
returns c = agree.all_stand_where_all_agree c.the_master_is_its_blocks.ensures
