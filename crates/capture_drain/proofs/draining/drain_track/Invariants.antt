use Rattle.capture_drain.proofs.draining.drain_track.Given as goal

abbrev pub ghost-drain_ring : goal.ghost-drain_ring
ghost-drain_ring g a = g.at
