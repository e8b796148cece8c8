-- The numbers of a sample: scaled by a gain, bounded, read from a file and written to one (own).
-- Inside, a sample is a whole number at 24-bit scale. A gain is 0..262,144, and 65,536 is unity.
use Rattle.std.specs.Prelude.{ℕ, suc, ◌-◌, ◌/◌, ◌^◌, ℤ, pos, negsuc, neg_ℤ, ◌-ℤ◌, ◌*ℤ◌, ◌==◌, nat_lt, if◌then◌else◌, List, slice_index}
use Rattle.std.specs.Int.{int_div_euclid, int_max, int_min, sum_through, byte_worth, bytes_low_first}

abbrev pub unity : ℕ
unity = 65536

-- floor(s * g / 65536)
abbrev pub scale : ℤ → ℕ → ℤ
scale s g = int_div_euclid (s *ℤ pos g) (pos 65536)

-- the number nearest to v from low to high
abbrev pub bounded : ℤ → ℤ → ℤ → ℤ
bounded low high v = int_max low (int_min v high)

abbrev pub clip : ℤ → ℤ
clip v = bounded (neg_ℤ (pos 2147483648)) (pos 2147483647) v

-- what a file of 16 or of 24 bits holds of a sample
abbrev pub file_sample : ℕ → ℤ → ℤ
file_sample bits v = if bits == 16 then bounded (neg_ℤ (pos 32768)) (pos 32767) (int_div_euclid v (pos 256))
    else bounded (neg_ℤ (pos 8388608)) (pos 8388607) v

-- the sample that a number in a file of 8, 16 or 24 bits stands for; 8 bits count from 128
abbrev pub inner : ℕ → ℤ → ℤ
inner bits x = if bits == 8 then (x -ℤ pos 128) *ℤ pos 65536 else (if bits == 16 then x *ℤ pos 256 else x)

-- the number that the first k bytes are, the low byte first
abbrev pub number : ℕ → List ℕ → ℕ
number k bytes = sum_through (λ i. byte_worth i (slice_index bytes i)) (k - 1)

-- two's complement of so many bits: what a number below 2 ^ bits stands for, and the way back
abbrev pub signed : ℕ → ℕ → ℤ
signed bits n = if nat_lt n (2 ^ (bits - 1)) then pos n else negsuc (2 ^ bits - suc n)

abbrev pub twos_complement : ℕ → ℤ → ℕ
twos_complement bits (pos n) = n
twos_complement bits (negsuc n) = 2 ^ bits - suc n

-- the sample that the first bytes are; 8 bits are unsigned
abbrev pub sample_at : ℕ → List ℕ → ℤ
sample_at bits bytes = inner bits (if bits == 8 then pos (number 1 bytes) else signed bits (number (bits / 8) bytes))

-- the bytes of a sample in a file of 16 or of 24 bits
abbrev pub sample_bytes : ℕ → ℤ → List ℕ
sample_bytes bits v = bytes_low_first 0 (bits / 8) (twos_complement bits (file_sample bits v))
