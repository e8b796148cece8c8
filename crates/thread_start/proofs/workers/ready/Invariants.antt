use Rattle.thread_start.proofs.workers.ready.Given as goal

abbrev pub ghost-new_workers : goal.ghost-new_workers
ghost-new_workers g a = a.start.edition.session
