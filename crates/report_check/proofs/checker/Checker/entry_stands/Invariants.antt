use Rattle.report_check.specs.Checking.{before}
use Rattle.report_check.proofs.checker.Checker.entry_stands.Given as goal

abbrev pub ghost-piece : goal.ghost-piece
ghost-piece g a = record { session = a.s.now; entries = before a.done.now }
