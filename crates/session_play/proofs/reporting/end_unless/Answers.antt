use Rattle.session_play.proofs.reporting.end_unless.Goals as goal

pub returns-then-not-failed : goal.returns-then-not-failed
returns-then-not-failed g c = record {
  silent = λ e. absurd (let n = c.if-not-failed.true in cc);
  written = λ _. (c.write_fault.result, c.write_fault.ensures.writes);
  untouched = c.write_fault.ensures.untouched;
}
