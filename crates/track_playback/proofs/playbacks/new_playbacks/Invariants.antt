use Rattle.std.proofs.Common.{◌≡◌, ℕ, ◌*◌, ◌<◌, length, slice_index_or}
use Rattle.track_playback.specs.declared.playback.TrackPlayback.{TrackPlayback}
use Rattle.session_model.specs.Formed.{channels_at}
use Rattle.track_playback.specs.Played.{IsNewPlayback}
use Rattle.track_playback.proofs.playbacks.new_playbacks.Given as goal

abbrev pub invariant-loop-t : goal.invariant-loop-t
invariant-loop-t l = record {
  count : length l.playbacks.items ≡ l.t;
  each : (t : ℕ) (d : TrackPlayback) → t < l.t → IsNewPlayback l.s.depth (l.s.block * channels_at l.s t) (slice_index_or l.playbacks.items t d);
}
