use Rattle.std.proofs.Common.{◌≤◌, length}
use Rattle.track_playback.proofs.PlaybacksLemmas.{ThereFrom}
use Rattle.track_playback.proofs.playbacks.all_there.Given as goal

-- those that were asked have it
abbrev pub invariant-loop-left : goal.invariant-loop-left
invariant-loop-left l = (l.left ≤ length l.plays) × ThereFrom l.at l.plays l.left

abbrev pub decreases-loop-left : goal.decreases-loop-left
decreases-loop-left l = l.left
