use Rattle.track_playback.proofs.PlaybacksLemmas.{LookedBelow}
use Rattle.track_playback.proofs.playbacks.look_at_all.Given as goal

abbrev pub invariant-loop-t : goal.invariant-loop-t
invariant-loop-t l = LookedBelow l.at l.fn.plays l.fn.playbacks l.plays l.playbacks l.t
