use Rattle.play_worker.specs.Leaves.{first_at}
use Rattle.play_worker.specs.Plays.{at_now}
use Rattle.play_worker.proofs.playing.play.Given as goal

abbrev pub ghost-made : goal.ghost-made
ghost-made g a = first_at g.I.Source.outside g.W.Sink.outside a.w

abbrev pub ghost-finished : goal.ghost-finished
ghost-finished g a = at_now g.I.Source.outside g.W.Sink.outside a.w
