-- The edits of the transport are answered alike in every session.
use Rattle.edit_resolve.proofs.resolving.change_of.Goals as goal

pub returns-in-Roll : goal.returns-in-Roll
returns-in-Roll c = c.transport_change_of.ensures c.args.s.now
