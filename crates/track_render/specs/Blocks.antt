-- A block of a track at the places of a transport: samples frame by frame, in each frame channel by channel.
use Rattle.std.specs.Prelude.{◌≡◌, ℕ, ◌*◌, ◌%◌, ◌≤◌, ℤ, List}
use Rattle.sound_model.specs.Regions.{Region, Sounds}
use Rattle.sound_model.specs.Layers.{track_sample}
use Rattle.session_model.specs.Frames.{interleaved}
use Rattle.engine_model.specs.Transport.{Transport, place_of}

-- So many samples can be rendered with room for so many frames.
pub record IsBlock (channels frames n : ℕ) : Type 0 where
  -- they are whole frames
  pub whole : n % channels ≡ 0
  -- at most those that there is room for
  pub room : n ≤ frames * channels

-- so many samples of a track from a frame of the transport's generation on, each frame at its place
abbrev pub placed_block : Sounds → List Region → ℕ → Transport → ℕ → ℕ → List ℤ
placed_block sounds regions channels t first n = interleaved (λ i c. track_sample sounds regions c (place_of t i)) channels first n
