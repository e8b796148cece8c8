use Rattle.std.proofs.Common.{◌≡◌, length}
use Rattle.disk_ring.specs.Rings.{AllOfRoom}
use Rattle.run_rings.proofs.husks.husks.Given as goal

abbrev pub invariant-loop-made : goal.invariant-loop-made
invariant-loop-made g l = record { count : length l.husks.items ≡ l.made; room : AllOfRoom g.T.Roomy.room_of (g.T.Husk.room_for l.samples) l.husks.items }
