use Rattle.std.proofs.lemmas.Result.{IfOk-equal}
use Rattle.ses_io.specs.Stored.{files_in}
use Rattle.ses_io.proofs.Results.{OnOk-ap}
use Rattle.ses_io.proofs.Stored.{files_in-stored}
use Rattle.ses_io.proofs.mem_media.MemMedia.put.Goals as goal

pub returns-clause-file : goal.returns-clause-file
returns-clause-file c = rw (← c.self.view_is) (IfOk-equal _ _ _ _ (OnOk-ap c.put.result files_in _ _ c.put.ensures.ok) (files_in-stored _ _ _))
