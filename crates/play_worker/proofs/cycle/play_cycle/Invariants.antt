use Rattle.process_cycle.specs.ProcessState.{entered}
use Rattle.play_worker.proofs.cycle.play_cycle.Given as goal

abbrev pub ghost-look_up : goal.ghost-look_up
ghost-look_up g a = g.at

abbrev pub ghost-cycle : goal.ghost-cycle
ghost-cycle g a = entered a.e.now.edits g.at
