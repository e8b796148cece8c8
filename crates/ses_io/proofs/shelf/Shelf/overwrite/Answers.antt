use Rattle.ses_io.proofs.Stored.{stored-at, files_in-at, files_in-absent}
use Rattle.ses_io.proofs.shelf.Shelf.overwrite.Goals as goal

pub overwrite-requires : goal.overwrite-requires
overwrite-requires c = rw (files_in-at _ _ c.args.name.now c.self.view_is c.in-Some.ensures c.index_mut.ensures.value) at c.requires

pub returns-in-Some : goal.returns-in-Some
returns-in-Some c = rw (c.overwrite.ensures, files_in-at _ _ c.args.name.now c.self.view_is c.in-Some.ensures c.index_mut.ensures.value) (stored-at _ _ c.args.name.now _ c.self.view_is c.in-Some.ensures c.index_mut.ensures.value)

pub returns-in_default : goal.returns-in_default
returns-in_default c = absurd (rw (files_in-absent _ c.args.name.now c.in_default.ensures) at c.requires)
