use Rattle.capture_flush.proofs.takes.TakeFiles.close_ended.Given as goal

abbrev pub ghost-close : goal.ghost-close
ghost-close g a = g.s
