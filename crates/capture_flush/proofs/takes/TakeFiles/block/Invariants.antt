use Rattle.capture_flush.proofs.takes.TakeFiles.block.Given as goal

abbrev pub ghost-keeps : goal.ghost-keeps
ghost-keeps g a = g.tape.session

abbrev pub ghost-give : goal.ghost-give
ghost-give g a = g.tape.session
