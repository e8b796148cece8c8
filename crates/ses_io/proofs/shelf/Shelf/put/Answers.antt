use Rattle.std.proofs.Common.{sym}
use Rattle.ses_io.proofs.Stored.{stored-at, stored-absent}
use Rattle.ses_io.proofs.shelf.Shelf.put.Goals as goal

pub returns-in-Some-clause-ok : goal.returns-in-Some-clause-ok
returns-in-Some-clause-ok c = rw c.replace.ensures (stored-at _ _ c.args.name.now _ c.self.view_is c.in-Some.ensures c.index_mut.ensures.value)

pub returns-in_ok-push-in-None-clause-ok : goal.returns-in_ok-push-in-None-clause-ok
returns-in_ok-push-in-None-clause-ok c = rw (c.in_ok-push-in-None.ensures.items, c.in_ok-new-in-None.ensures, c.self.view_is) (sym (stored-absent _ c.args.name.now _ c.in-None.ensures))
