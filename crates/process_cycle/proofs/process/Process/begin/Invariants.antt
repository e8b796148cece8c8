use Rattle.process_cycle.proofs.process.Process.begin.Given as goal

abbrev pub ghost-begin : goal.ghost-begin
ghost-begin g a = g.at.session
