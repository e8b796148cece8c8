use Rattle.engine_core.proofs.rest.is_line_due.Given as goal

abbrev pub ghost-progress : goal.ghost-progress
ghost-progress g a = g.on
