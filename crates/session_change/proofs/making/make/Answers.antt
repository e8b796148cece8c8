-- A send is set by its own call.
use Rattle.std.proofs.Common.{sym, ap, ◌∙◌}
use Rattle.engine_model.specs.Changes.{made}
use Rattle.session_change.specs.Change.{change_seen}
use Rattle.session_change.proofs.making.make.Goals as goal

pub returns-in-SendSet : goal.returns-in-SendSet
returns-in-SendSet c = record { made = c.set_send.ensures ∙ ap (λ x. made c.args.s.now (change_seen x)) (sym c.in-SendSet.is) }
