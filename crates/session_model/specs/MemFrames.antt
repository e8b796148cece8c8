-- What contracts see of sources in memory.
use Rattle.std.specs.Prelude.{ℕ, ◌*◌, ◌/◌, ◌%◌, Bool, ◌&&◌, ◌==◌, nat_le, ℤ, pos, neg_ℤ, int_le, List, length, take, drop, map}
use Rattle.std.specs.List.{list_all, range_with_len}
use Rattle.ses_io.specs.Calls.{PlannedCalls}
use Rattle.session_model.specs.Frames.{Told}

-- how many channels, and the samples frame by frame
pub record Sound : Type 0 where
  pub channels : ℕ
  pub samples : List ℤ

-- the sources, the calls, and how many failed
pub record FramesState : Type 0 where
  pub sources : List Sound
  pub plan : PlannedCalls
  pub faults : ℕ

abbrev pub channels_in : List Sound → List ℕ
channels_in sources = map (λ s. s.channels) sources

-- the frames of a source
abbrev pub frames_of : Sound → Told
frames_of s = map (λ i. take s.channels (drop (i * s.channels) s.samples)) (range_with_len 0 (length s.samples / s.channels))

abbrev pub told_in : List Sound → List Told
told_in sources = map frames_of sources

-- 24 bits hold the sample
abbrev pub is_sample : ℤ → Bool
is_sample v = int_le (neg_ℤ (pos 8388608)) v && int_le v (pos 8388607)

-- one channel or two, whole frames, and samples of 24 bits
abbrev pub is_sound : ℕ → List ℤ → Bool
is_sound channels samples = nat_le 1 channels && nat_le channels 2 && length samples % channels == 0 && list_all is_sample samples
