use Rattle.std.proofs.Common.{List, ℕ, subst}
use Rattle.std.specs.Prelude.{Ok}
use Rattle.report_reader.specs.Reads.{Reads}
use Rattle.report_check.proofs.ReportLemmas.{is_read}
use Rattle.report_check.proofs.checking.report_in.Goals as goal

pub returns-in-Ok-clause-any : goal.returns-in-Ok-clause-any
returns-in-Ok-clause-any g c = is_read c.in_ok-bytes.bytes.items c.in-Ok.report c.in_ok-bytes.ensures.most (subst (λ (bytes : List ℕ). Reads bytes (Ok c.in-Ok.report)) c.as_slice.ensures.value c.in-Ok.ensures.reads)
