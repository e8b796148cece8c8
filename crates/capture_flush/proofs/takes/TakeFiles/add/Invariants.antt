use Rattle.capture_flush.proofs.takes.TakeFiles.add.Given as goal

abbrev pub ghost-file_name : goal.ghost-file_name
ghost-file_name g a = g.s

abbrev pub ghost-last : goal.ghost-last
ghost-last g a = g.s

abbrev pub ghost-block_size : goal.ghost-block_size
ghost-block_size g a = g.s

abbrev pub ghost-header : goal.ghost-header
ghost-header g a = g.s
