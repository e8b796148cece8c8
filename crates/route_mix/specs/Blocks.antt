-- A block of a desk: samples frame by frame, in each frame channel by channel.
use Rattle.std.specs.Prelude.{◌≡◌, ℕ, ◌*◌, ◌/◌, ◌%◌, ◌⊎◌, ℤ, pos, List, map, replicate}
use Rattle.std.specs.List.{range_with_len}

-- so many frames of a sound, which has a sample at each frame and on each channel
abbrev pub block_of : (ℕ → ℕ → ℤ) → ℕ → ℕ → List ℤ
block_of sound channels frames = map (λ k. sound (k / channels) (k % channels)) (range_with_len 0 (frames * channels))

abbrev pub silence : ℕ → List ℤ
silence samples = replicate samples (pos 0)

-- there are one or two channels
abbrev pub AreFew : ℕ → Type 0
AreFew channels = (channels ≡ 1) ⊎ (channels ≡ 2)
