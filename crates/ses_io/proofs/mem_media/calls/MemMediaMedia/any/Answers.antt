use Rattle.ses_io.proofs.Stored.{any_under-is}
use Rattle.ses_io.proofs.mem_media.calls.MemMediaMedia.any.Goals as goal

pub returns-clause-any : goal.returns-clause-any
returns-clause-any c = rw (c.any.ensures, ← c.self.view_is) (any_under-is _ _)
