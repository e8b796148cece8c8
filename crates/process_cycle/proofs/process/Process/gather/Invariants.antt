use Rattle.process_cycle.proofs.process.Process.gather.Given as goal

abbrev pub ghost-look : goal.ghost-look
ghost-look g a = g.at
