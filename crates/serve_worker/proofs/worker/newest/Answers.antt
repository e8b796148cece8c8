use Rattle.std.proofs.Common.{sym, subst}
use mathlib.Core.List.{IsPrefix}
use base.Growing.{prefix_refl}
use Rattle.edition_log.specs.EditionState.{EditionState}
use Rattle.serve_worker.proofs.worker.newest.Goals as goal

-- src/worker.rt
pub returns-in-Err-clause-enters : goal.returns-in-Err-clause-enters
returns-in-Err-clause-enters g c = subst (λ (e : EditionState). IsPrefix c.args.w.reader.edition.edits e.edits) (sym c.in-Err.ensures.seen) (prefix_refl c.args.w.reader.edition.edits)
