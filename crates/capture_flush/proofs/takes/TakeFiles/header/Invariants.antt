use Rattle.capture_flush.proofs.takes.TakeFiles.header.Given as goal

abbrev pub ghost-channels : goal.ghost-channels
ghost-channels g a = g.s
