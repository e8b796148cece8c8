-- The letters that a run is given, by their text or by a seed (own).
use Rattle.std.specs.Prelude.{ℕ, zero, suc, ◌+◌, ◌*◌, ◌/◌, ◌%◌, ◌^◌, ◌==◌, nat_le, if◌then◌else◌, List, [], ◌∷◌, map}
use Rattle.machine_model.specs.Letters.{Letter, C, B, E, G, P}

-- ---- as they are written

-- `c`, `b`, `e` and `g`; every other byte is read as `p`
abbrev pub letter_written : ℕ → Letter
letter_written byte = if byte == 99 then C else (if byte == 98 then B else (if byte == 101 then E else (if byte == 103 then G else P)))

abbrev pub letters_in : List ℕ → List Letter
letters_in text = map letter_written text

-- ---- from a seed

-- the number that follows a number
abbrev pub next_number : ℕ → ℕ
next_number x = (x * 6364136223846793005 + 1442695040888963407) % 2 ^ 64

-- by the top three of 64 bits: one of eight is C, four are B, and one each is E, G and P
abbrev pub letter_of_bits : ℕ → Letter
letter_of_bits n = if n == 0 then C else (if nat_le n 4 then B else (if n == 5 then E else (if n == 6 then G else P)))

abbrev pub letter_of_number : ℕ → Letter
letter_of_number x = letter_of_bits (x / 2 ^ 61)

-- so many letters, by the numbers that follow a seed
abbrev pub seed_letters : ℕ → ℕ → List Letter
seed_letters zero x = []
seed_letters (suc n) x = letter_of_number (next_number x) ∷ seed_letters n (next_number x)
