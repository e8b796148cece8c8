-- A block of a track, and of regions in layers: samples frame by frame, in each frame channel by channel.
use Rattle.std.specs.Prelude.{◌≡◌, ℕ, ℤ, List, length}
use Rattle.sound_model.specs.Numbers.{clip}
use Rattle.sound_model.specs.Regions.{Region, Sounds}
use Rattle.sound_model.specs.Layers.{lay, over, track_sample}
use Rattle.session_model.specs.Frames.{interleaved}

-- so many samples of a track from a position on
abbrev pub track_block : Sounds → List Region → ℕ → ℕ → ℕ → List ℤ
track_block sounds regions channels from n = interleaved (λ x c. track_sample sounds regions c x) channels from n

-- those of regions that stand highest first, before they are clipped
abbrev pub layer_block : Sounds → List Region → ℕ → ℕ → ℕ → List ℤ
layer_block sounds regions channels from n = interleaved (λ x c. lay sounds c x regions) channels from n

-- and after
abbrev pub heard_block : Sounds → List Region → ℕ → ℕ → ℕ → List ℤ
heard_block sounds regions channels from n = interleaved (λ x c. clip (lay sounds c x regions)) channels from n

-- from a position on, each sum is that of the region over the sum that was there
abbrev pub LaysOver : Sounds → Region → ℕ → ℕ → List ℤ → List ℤ → Type 0
LaysOver sounds r channels here old new = (below : ℕ → ℕ → ℤ) → old ≡ interleaved below channels here (length old) →
    new ≡ interleaved (λ x c. over sounds c x r (below x c)) channels here (length old)
