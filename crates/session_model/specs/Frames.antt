-- What an object that gives the frames of sources tells of them, and how a call gives them (own).
use Rattle.std.specs.Prelude.{ℕ, ◌+◌, ◌/◌, ◌%◌, ℤ, pos, neg_ℤ, ◌≤ℤ◌, List, [], map, slice_index_or}
use Rattle.std.specs.List.{range_with_len}
use Rattle.sound_model.specs.Regions.{Sounds}

-- a source as the list of its frames, a frame being one sample for each channel
abbrev pub Told : Type 0
Told = List (List ℤ)

-- the sample of a frame and a channel, 0 where there is none
abbrev pub sample_of : Told → ℕ → ℕ → ℤ
sample_of frames i c = slice_index_or (slice_index_or frames i []) c (pos 0)

-- the sources as the definitions of the sound have them, 0 outside
abbrev pub sounds_of : List Told → Sounds
sounds_of sources s i c = sample_of (slice_index_or sources s []) i c

-- so many samples of a source from a frame on, by frame and channel: frame by frame, in each frame channel by channel
abbrev pub interleaved : (ℕ → ℕ → ℤ) → ℕ → ℕ → ℕ → List ℤ
interleaved sound channels from n = map (λ k. sound (from + k / channels) (k % channels)) (range_with_len 0 n)

-- 24 bits hold the sample
pub record IsSample (v : ℤ) : Type 0 where
  pub low : neg_ℤ (pos 8388608) ≤ℤ v
  pub high : v ≤ℤ pos 8388607

-- what sources tell of themselves
pub record FramesOutside (S : Type 0) : Type 1 where
  -- whether the frames are known at this moment: ⊤ in memory, ⊥ for real files
  pub tells : S → Type 0
  -- the channels of each source, always told
  pub channels : S → List ℕ
  -- the frames of each source
  pub frames : S → List Told
  -- how many calls failed; it stands still at its type's end
  pub faults : S → ℕ
