-- What is picked so far, and where the next sample is.
use Rattle.std.proofs.Common.{◌≡◌, ℕ, ◌+◌, ◌*◌, ◌<◌, ◌/◌, ◌%◌, get_or}
use Rattle.std.specs.Prelude.{pos}
use Rattle.session_model.specs.Formed.{channels_at}
use Rattle.engine_model.specs.Takes.{first_channel}
use Rattle.track_capture.specs.Picked.{sample_of}
use Rattle.track_capture.proofs.picking.pick.Given as goal

abbrev pub invariant-loop-v : goal.invariant-loop-v
invariant-loop-v l = record {
  picked : (k : ℕ) → k < l.v-index → get_or l.out k (pos 0) ≡ sample_of l.channels l.input (0 + k / channels_at l.session l.track)
      (first_channel l.session l.track + k % channels_at l.session l.track);
  place : l.at.0 ≡ l.v-index / channels_at l.session l.track * l.channels + (first_channel l.session l.track + l.v-index % channels_at l.session l.track);
  channel : l.at.1 ≡ l.v-index % channels_at l.session l.track;
}
