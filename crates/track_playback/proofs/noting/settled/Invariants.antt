use Rattle.std.proofs.Common.{◌≡◌, map}
use Rattle.engine_model.specs.Cycle.{settled_number}
use Rattle.track_playback.specs.SpareBoxes.{received_kinds}
use Rattle.track_playback.proofs.NotingLemmas.{left}
use Rattle.track_playback.proofs.noting.settled.Given as goal

-- the least so far, and the marks of the tracks that are left
abbrev pub invariant-loop-playback : goal.invariant-loop-playback
invariant-loop-playback g l = settled_number l.least l.at.generation l.at.next (left g.plays l.playback-index) ≡ settled_number l.fn.number l.at.generation l.at.next (map received_kinds g.plays)
