use Rattle.capture_drain.proofs.drain.CaptureDrain.drain.Given as goal

abbrev pub ghost-drain_all : goal.ghost-drain_all
ghost-drain_all g a = g.run
