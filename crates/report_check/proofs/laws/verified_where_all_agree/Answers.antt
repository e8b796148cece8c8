use Rattle.report_check.proofs.AgreeLemmas as agree
use Rattle.report_check.proofs.laws.verified_where_all_agree.Goals as goal

pub returns : goal.returns
returns c = agree.verified_where_all_agree c.all_stand_where_all_agree.ensures
