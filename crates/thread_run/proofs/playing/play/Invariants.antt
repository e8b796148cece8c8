use Rattle.thread_run.proofs.playing.play.Given as goal

abbrev pub ghost-run : goal.ghost-run
ghost-run g a = record { opened = a.o; patience = a.patience }
