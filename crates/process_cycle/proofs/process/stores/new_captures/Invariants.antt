use Rattle.std.proofs.Common.{◌≡◌, ℕ, [], length}
use Rattle.std.specs.Prelude.{slice_get, Some}
use Rattle.track_capture.specs.declared.capture.TrackCapture.{TrackCapture}
use Rattle.track_capture.specs.Counted.{Counts, HasBox}
use Rattle.process_ends.specs.Ends.{block_of}
use Rattle.process_cycle.proofs.process.stores.new_captures.Given as goal

abbrev pub invariant-loop-t : goal.invariant-loop-t
invariant-loop-t l = record {
  count : length l.captures.items ≡ l.t;
  each : (t : ℕ) (k : TrackCapture) → slice_get l.captures.items t ≡ Some k → Counts [] t k × HasBox (block_of l.s t) k;
}
