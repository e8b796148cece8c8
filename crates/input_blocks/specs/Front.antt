-- What is made of bytes that were read: whole frames at their front.
use Rattle.std.specs.Prelude.{◌≡◌, ℕ, ◌+◌, ◌*◌, ◌%◌, ◌<◌, ◌≤◌, List, length, take, ◌⊎◌}
use Rattle.wav_codec.specs.Info.{IsFound}
use Rattle.wav_codec.specs.declared.info.WavInfo.{WavInfo}

-- the front of a buffer is whole frames of this size: as many as it has room for, or all that are left
pub record IsFront (size : ℕ) (left buf : List ℕ) (n : ℕ) : Type 0 where
  pub within : n ≤ length left
  pub front : take n buf ≡ take n left
  -- there is no room for another, or what is left ends within it
  pub all : (n ≡ length buf) ⊎ (length left < n + size)

-- So many bytes and samples have room for a block of whole frames from one on.
pub record HasRoom (info : WavInfo) (from bytes samples : ℕ) : Type 0 where
  pub found : IsFound info
  pub inside : from ≤ info.frames
  pub whole : samples % info.channels ≡ 0
  -- a sample has at most 3 bytes
  pub room : samples * 3 ≤ bytes
  -- up to 4,096 frames of 8 channels
  pub few : samples ≤ 32768
