use Rattle.capture_flush.proofs.takes.TakeFiles.give.Given as goal

abbrev pub ghost-last : goal.ghost-last
ghost-last g a = g.s

abbrev pub ghost-add : goal.ghost-add
ghost-add g a = g.s

abbrev pub ghost-renew : goal.ghost-renew
ghost-renew g a = g.s
