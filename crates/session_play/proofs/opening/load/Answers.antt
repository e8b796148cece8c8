use Rattle.std.proofs.Common.{sym, ap, subst, ◌∙◌}
use Rattle.std.specs.Prelude.{◌++◌, codes}
use Rattle.ses_io.specs.Files.{HasNameUnder}
use Rattle.session_play.proofs.OpeningLemmas.{records_by}
use Rattle.session_play.proofs.opening.load.Goals as goal

pub returns-in-Ok-true-clause-refused : goal.returns-in-Ok-true-clause-refused
returns-in-Ok-true-clause-refused g c = let o = c.in-Ok.loaded in let takes_is = ap (λ s. s.takes) c.session-session.ensures.session in record {
  session = o.edition.session;
  named = takes_is;
  of_file = λ t. c.in-Ok.ensures.told t;
  records_it = records_by c.args.asked.now.script (sym c.is_some.ensures ∙ c.if-is_some.false);
  there = λ t. subst (λ fs. HasNameUnder fs (o.edition.session.takes ++ codes "-")) c.in-Ok.ensures.only_reads.files
      (subst (λ n. HasNameUnder (g.M.Media.outside.files c.open.new.media) (n ++ codes "-")) takes_is ((c.in-Ok-true.ensures.told t).0 c.in-Ok-true.field-0-test));
}
