use Rattle.std.specs.Prelude.{map}
use Rattle.track_playback.specs.SpareBoxes.{received_items}
use Rattle.process_cycle.proofs.putting.write_block.Given as goal

abbrev pub ghost-put_blocks : goal.ghost-put_blocks
ghost-put_blocks g a = g.on

abbrev pub ghost-rest : goal.ghost-rest
ghost-rest g a = g.on.session

abbrev pub ghost-roll : goal.ghost-roll
ghost-roll g a = record { session = g.on.session; tracks = map received_items g.on.plays }
