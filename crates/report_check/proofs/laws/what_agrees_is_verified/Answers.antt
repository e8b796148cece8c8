use Rattle.report_check.proofs.AgreeLemmas as agree
use Rattle.report_check.proofs.laws.what_agrees_is_verified.Goals as goal

pub returns : goal.returns
returns c = agree.what_agrees_is_verified c.all_stand_where_all_agree.ensures c.a_file_is_cut_one_way.ensures c.a_report_is_read_one_way.ensures c.read_or_refused.ensures.not_both
