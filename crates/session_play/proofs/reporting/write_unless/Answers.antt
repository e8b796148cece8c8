use Rattle.std.proofs.Common.{sym, ◌∙◌}
use Rattle.std.proofs.lemmas.Bool.{true≢false}
use Rattle.session_play.proofs.reporting.write_unless.Goals as goal

pub returns-else-failed : goal.returns-else-failed
returns-else-failed g c = record {
  silent = λ e. absurd (true≢false (sym e ∙ c.if-failed.false));
  written = λ _. (c.write_report.result, c.is_err.ensures.value, c.write_report.ensures);
}
