-- The plain formulas of the kernels: lists that go on item by item, as sums, samples and gains of one block do.
use Rattle.std.specs.Prelude.{ℕ, ◌-◌, ◌/◌, ℤ, ◌+ℤ◌, Bool, if◌then◌else◌, List, [], ◌∷◌, map}
use Rattle.std.specs.List.{range_with_len}
use Rattle.std.specs.Simd.Lanes.{zip2}
use Rattle.sound_model.specs.Numbers.{unity, scale, clip, file_sample}

-- each sample scaled by its own gain
abbrev pub scaled : List ℤ → List ℕ → List ℤ
scaled samples gains = zip2 scale samples gains

-- each sample scaled by one gain
abbrev pub scaled_evenly : List ℤ → ℕ → List ℤ
scaled_evenly samples gain = map (λ s. scale s gain) samples

abbrev pub summed : List ℤ → List ℤ → List ℤ
summed sums others = zip2 ◌+ℤ◌ sums others

-- the samples of one channel as two, frame by frame: each scaled by a gain, and then for its side
abbrev pub sided : ℕ → ℕ → ℕ → List ℤ → List ℤ
sided gain left right [] = []
sided gain left right (s ∷ ss) = scale (scale s gain) left ∷ scale (scale s gain) right ∷ sided gain left right ss

-- what a layer leaves of the sums below it
abbrev pub left_below : List ℤ → List ℕ → Bool → List ℤ
left_below below fades opaque = if opaque then zip2 (λ b f. scale b (unity - f)) below fades else below

-- a layer of faded samples over the sums below it
abbrev pub laid_over : List ℤ → List ℤ → List ℕ → Bool → List ℤ
laid_over below samples fades opaque = summed (scaled samples fades) (left_below below fades opaque)

abbrev pub clipped : List ℤ → List ℤ
clipped sums = map clip sums

-- samples as a file of so many bits holds them
abbrev pub filed : ℕ → List ℤ → List ℤ
filed bits samples = map (file_sample bits) samples

-- a gain for each frame, which stands at each of the frame's channels
abbrev pub spread : (ℕ → ℕ) → ℕ → ℕ → List ℕ
spread gain channels n = map (λ k. gain (k / channels)) (range_with_len 0 n)
