-- The samples that bytes stand for.
use Rattle.std.specs.Prelude.{ℕ, ◌*◌, ◌/◌, ℤ, pos, negsuc, ◌≤ℤ◌, List, drop, map}
use Rattle.std.specs.Int.{bytes_low_first}
use Rattle.std.specs.List.{range_with_len, flat_map}
use Rattle.sound_model.specs.Numbers.{sample_at, file_sample, twos_complement}

-- the first so many samples of these bytes, in a file of 8, 16 or 24 bits
abbrev pub samples_of : ℕ → ℕ → List ℕ → List ℤ
samples_of bits count bytes =
    map (λ i. sample_at bits (drop (i * (bits / 8)) bytes)) (range_with_len 0 count)

-- a sample at 24-bit scale that a file can hold
abbrev pub IsInside : ℤ → Type 0
IsInside v = (negsuc 8388607 ≤ℤ v) × (v ≤ℤ pos 8388607)

-- what a file of 24 bits holds of each sample, in four bytes
abbrev pub wide_bytes : List ℤ → List ℕ
wide_bytes samples = flat_map (λ v. bytes_low_first 0 4 (twos_complement 32 (file_sample 24 v))) samples
