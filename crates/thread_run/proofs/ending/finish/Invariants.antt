use Rattle.run_end.specs.Beginning.{started_of}
use Rattle.thread_run.proofs.ending.finish.Given as goal

abbrev pub ghost-parted : goal.ghost-parted
ghost-parted g a = started_of g.M.Media.outside g.I.Source.outside g.W.Sink.outside g.on.opened
