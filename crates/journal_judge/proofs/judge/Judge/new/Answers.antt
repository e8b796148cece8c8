-- Behind no entry nothing was heard or taken.
use Rattle.std.proofs.Common.{refl, subst}
use Rattle.edition_log.specs.EditionState.{IsEditionOf}
use Rattle.journal_judge.proofs.CountLemmas.{nothing_judged}
use Rattle.journal_judge.proofs.judge.Judge.new.Goals as goal

pub returns : goal.returns
returns c = λ edits. nothing_judged c.args.s.now edits _ c.first.result c.requires
    (subst (λ s. IsEditionOf s c.in_ok-opening.field-0) c.in_ok-try_clone.ensures c.in_ok-opening.ensures.state) c.in_ok-opening.ensures.first.1 c.in_ok-opening.ensures.first.2
    (subst (λ s. IsEditionOf s c.in_ok-opening-2.field-0) c.in_ok-try_clone-2.ensures c.in_ok-opening-2.ensures.state) c.in_ok-opening-2.ensures.first.1 c.in_ok-opening-2.ensures.first.2 refl c.first.ensures refl
