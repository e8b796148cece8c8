use Rattle.thread_run.proofs.ending.parted.Given as goal

abbrev pub ghost-leave : goal.ghost-leave
ghost-leave g a = g.on
