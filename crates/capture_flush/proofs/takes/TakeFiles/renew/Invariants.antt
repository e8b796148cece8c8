use Rattle.capture_flush.proofs.takes.TakeFiles.renew.Given as goal

abbrev pub ghost-stated : goal.ghost-stated
ghost-stated g a = g.s

abbrev pub ghost-header : goal.ghost-header
ghost-header g a = g.s

abbrev pub ghost-file_name : goal.ghost-file_name
ghost-file_name g a = g.s
