use Rattle.std.proofs.Common.{◌<◌, All}
use Rattle.sound_tests.proofs.layers.playlist.Given as goal

-- the regions so far are of the three sources
abbrev pub invariant-loop-part : goal.invariant-loop-part
invariant-loop-part l = All (λ r. r.source < 3) l.list
