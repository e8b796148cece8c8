use Rattle.process_cycle.proofs.process.Process.silence.Given as goal

abbrev pub ghost-end : goal.ghost-end
ghost-end g a = g.s
