-- What holds of the fields of an input.
use Rattle.std.specs.Prelude.{◌≡◌, ℕ, ◌*◌, ◌≤◌, ℤ, List, length, All}
use Rattle.wav_codec.specs.Info.{IsFound}
use Rattle.wav_codec.specs.declared.info.WavInfo.{WavInfo}
use Rattle.session_model.specs.Frames.{IsSample}

-- The form is one that is read, and the buffers have room for a block of it.
pub record IsKept (info : WavInfo) (block asked : ℕ) (bytes : List ℕ) (samples : List ℤ) : Type 0 where
  pub found : IsFound info
  pub few : block ≤ 4096
  pub done : asked ≤ info.frames
  pub long : length samples ≡ block * info.channels
  -- a sample has at most 3 bytes
  pub room : length bytes ≡ length samples * 3
  pub range : All IsSample samples
