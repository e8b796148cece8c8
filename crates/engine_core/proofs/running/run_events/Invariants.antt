use Rattle.engine_core.specs.Beginning.{course_of}
use Rattle.engine_core.proofs.running.run_events.Given as goal

abbrev pub ghost-play : goal.ghost-play
ghost-play g a = course_of g.M.Media.outside g.I.Source.outside g.W.Sink.outside a.o a.events.now
