-- Frames of a file that lie side by side.
use Rattle.std.specs.Prelude.{◌≡◌, ℕ, ◌+◌, ◌*◌, ◌<◌, ◌≤◌, List, length, take, drop, ◌⊎◌}
use Rattle.sound_model.specs.Wav.{Head, align}

-- the place of a frame of a file
abbrev pub frame_place : Head → ℕ → ℕ
frame_place h i = h.data_at + i * align h.form

-- the front of a buffer is whole frames of the file from one on: as many as it has room for, or all that the file has
pub record IsPieceAt (h : Head) (b : List ℕ) (from : ℕ) (buf : List ℕ) (n : ℕ) : Type 0 where
  -- they lie in the file
  pub within : n ≤ length (drop (frame_place h from) b)
  pub front : take n buf ≡ take n (drop (frame_place h from) b)
  -- there is no room for another, or the file ends within it
  pub all : (n ≡ length buf) ⊎ (length (drop (frame_place h from) b) < n + align h.form)
