use Rattle.std.proofs.Common.{refl, ap}
use Rattle.edition_log.proofs.KeepLemmas.{is_first}
use Rattle.edition_log.proofs.edition.Edition.opening.Goals as goal

pub returns-clause-state : goal.returns-clause-state
returns-clause-state c = is_first c.args.s _ refl c.at_rest.ensures.value (ap (λ l. l.items) c.in_ok-new.ensures) refl
