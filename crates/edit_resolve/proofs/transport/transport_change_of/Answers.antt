-- Each edit of the transport is answered as its own function says, in every session.
use Rattle.std.proofs.Common.{sym, subst}
use Rattle.edit_resolve.specs.Resolves.{Resolves}
use Rattle.edit_resolve.proofs.transport.transport_change_of.Goals as goal

pub returns-in-Locate : goal.returns-in-Locate
returns-in-Locate c = λ s. subst (λ e. Resolves s c.args.wrap e c.locate.result) (sym c.in-Locate.is) (c.locate.ensures s)

pub returns-in-Loop : goal.returns-in-Loop
returns-in-Loop c = λ s. subst (λ e. Resolves s c.args.wrap e c.loop_round.result) (sym c.in-Loop.is) (c.loop_round.ensures s)

pub returns-in-LoopOff : goal.returns-in-LoopOff
returns-in-LoopOff c = λ s. subst (λ e. Resolves s c.args.wrap e c.loop_off.result) (sym c.in-LoopOff.is) (c.loop_off.ensures s)
