use Rattle.capture_drain.specs.Files.{tape_of}
use Rattle.capture_drain.proofs.one_ring.drain_one.Given as goal

abbrev pub ghost-block : goal.ghost-block
ghost-block g a = tape_of g.at.run g.at.rings
