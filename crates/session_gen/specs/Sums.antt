-- The samples of a file of 16 bits, added up.
use Rattle.std.specs.Prelude.{◌≡◌, ℕ, ℤ, pos, ◌+ℤ◌, List, [], ◌∷◌, map}
use Rattle.sound_model.specs.Numbers.{file_sample, number, signed}
use Rattle.sound_model.specs.Wav.{Form, canon}

-- these numbers, added up
abbrev pub total : List ℤ → ℤ
total [] = pos 0
total (x ∷ xs) = x +ℤ total xs

-- what a file of 16 bits holds of these samples, which are at 24-bit scale, added up
abbrev pub file_total : List ℤ → ℤ
file_total samples = total (map (file_sample 16) samples)

-- the numbers that pairs of bytes stand for, the low byte first
abbrev pub pair_numbers : List (List ℕ) → List ℤ
pair_numbers pairs = map (λ pair. signed 16 (number 2 pair)) pairs

-- of a file of 16 bits this is the sum of what it holds
abbrev pub IsSumOf : List ℕ → ℤ → Type 0
IsSumOf bytes sum = (form : Form) (samples : List ℤ) → form.bits ≡ 16 → bytes ≡ canon form samples → sum ≡ file_total samples
