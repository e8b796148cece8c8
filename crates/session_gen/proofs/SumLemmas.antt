-- Samples are added up pair by pair, and the bytes of a file of 16 bits are its samples.
use Rattle.std.proofs.Common.{◌≡◌, ℕ, suc, ◌+◌, ◌*◌, ◌<◌, ◌≤◌, ℤ, pos, negsuc, ◌+ℤ◌, ◌≤ℤ◌, refl, ap, sym, ◌∙◌, arith, List, [], ◌∷◌, length, length-append, drop, get_or, drop-cons, FitsSigned, ◌^◌, ◌/◌, ◌%◌, ◌++◌, map, replicate}
use lib.Signed.{mag}
use Rattle.std.specs.Prelude.{neg_ℤ}
use Rattle.std.specs.Int.{w128, bytes_low_first, int_div_euclid}
use Rattle.std.specs.Simd.{first_chunks}
use Rattle.std.proofs.lemmas.Bool.Decides.{nat_tests}
use Rattle.std.proofs.lemmas.Int.{ints}
use Rattle.sound_model.specs.Numbers.{number, signed, twos_complement, bounded, sample_bytes, file_sample}
use Rattle.sound_model.specs.Wav.{Form, canon, header, sound_bytes}
use Rattle.sound_laws.proofs.WrittenLaws.{length-sound_bytes}
use Rattle.session_gen.specs.Sums.{file_total, total, pair_numbers}

add_assoc : (a b c : ℤ) → (a +ℤ b) +ℤ c ≡ a +ℤ (b +ℤ c)
add_assoc a b c = omega (arith, ints)

one_more : (i : ℕ) → suc i ≡ i + 1
one_more i = omega arith

-- the number of a pair goes from what is left to what is added up
pub next_pair : (pairs : List (List ℕ)) (i : ℕ) (sum v : ℤ) → i < length pairs → v ≡ signed 16 (number 2 (get_or pairs i [])) →
    sum +ℤ total (pair_numbers (drop i pairs)) ≡ total (pair_numbers pairs) → (sum +ℤ v) +ℤ total (pair_numbers (drop (i + 1) pairs)) ≡ total (pair_numbers pairs)
next_pair pairs i sum v h is so_far =
    let parts : drop i pairs ≡ get_or pairs i [] ∷ drop (i + 1) pairs = drop-cons pairs i [] h ∙ ap (λ k. get_or pairs i [] ∷ drop k pairs) (one_more i) in
    add_assoc sum v (total (pair_numbers (drop (i + 1) pairs)))
    ∙ ap (λ x. sum +ℤ (x +ℤ total (pair_numbers (drop (i + 1) pairs)))) is
    ∙ ap (λ ps. sum +ℤ total (pair_numbers ps)) (sym parts) ∙ so_far

-- ---- how large the sum is

pub least_on : (s v : ℤ) (i : ℕ) → neg_ℤ (pos (32768 * i)) ≤ℤ s → mag v < 32768 → neg_ℤ (pos (32768 * (i + 1))) ≤ℤ (s +ℤ v)
least_on s (pos n) i low small = omega (arith, ints)
least_on s (negsuc n) i low small = omega (arith, ints)

pub most_on : (s v : ℤ) (i : ℕ) → s ≤ℤ pos (32768 * i) → mag v < 32768 → (s +ℤ v) ≤ℤ pos (32768 * (i + 1))
most_on s (pos n) i high small = omega (arith, ints)
most_on s (negsuc n) i high small = omega (arith, ints)

pub fits_by : (x : ℤ) (i : ℕ) → neg_ℤ (pos (32768 * i)) ≤ℤ x → x ≤ℤ pos (32768 * i) → i ≤ 2 ^ 64 → FitsSigned w128 x
fits_by (pos n) i low high few = record { sfits = omega (arith, ints) }
fits_by (negsuc n) i low high few = record { sfits = omega (arith, ints) }

-- ---- the bytes of a file

signed_twos : (y : ℤ) → neg_ℤ (pos 32768) ≤ℤ y → y ≤ℤ pos 32767 → signed 16 (twos_complement 16 y) ≡ y
signed_twos (pos n) low high = let small : n < 32768 = omega (arith, ints) in grind (arith, nat_tests)
signed_twos (negsuc n) low high = let small : n < 32768 = omega (arith, ints) in grind (arith, nat_tests)

two_bytes : (n : ℕ) → n < 2 ^ 16 → number 2 (bytes_low_first 0 2 n) ≡ n
two_bytes n h = omega arith

low_bound : (v : ℤ) → neg_ℤ (pos 32768) ≤ℤ bounded (neg_ℤ (pos 32768)) (pos 32767) v
low_bound v = grind (arith, ints)

high_bound : (v : ℤ) → bounded (neg_ℤ (pos 32768)) (pos 32767) v ≤ℤ pos 32767
high_bound v = grind (arith, ints)

twos_small : (y : ℤ) → y ≤ℤ pos 32767 → twos_complement 16 y < 2 ^ 16
twos_small (pos n) high = omega (arith, ints)
twos_small (negsuc n) high = omega arith

-- the bytes of a sample stand for what the file holds of it
sample_back : (v : ℤ) → signed 16 (number 2 (sample_bytes 16 v)) ≡ file_sample 16 v
sample_back v = let y : ℤ = file_sample 16 v in let high : y ≤ℤ pos 32767 = high_bound (int_div_euclid v (pos 256)) in
    ap (signed 16) (two_bytes (twos_complement 16 y) (twos_small y high)) ∙ signed_twos y (low_bound (int_div_euclid v (pos 256))) high

samples_back : (samples : List ℤ) (rest : List ℕ) → pair_numbers (first_chunks 2 (length samples) (sound_bytes 16 samples ++ rest)) ≡ map (file_sample 16) samples
samples_back [] rest = refl
samples_back (v ∷ samples) rest = ap (λ x. x ∷ pair_numbers (first_chunks 2 (length samples) (sound_bytes 16 samples ++ rest))) (sample_back v)
    ∙ ap (λ xs. file_sample 16 v ∷ xs) (samples_back samples rest)

-- behind the 44 bytes of its header stand the bytes of its samples, of which there are two each
sound_behind : (form : Form) (samples : List ℤ) → form.bits ≡ 16 → drop 44 (canon form samples) ≡ sound_bytes 16 samples ++ []
unfolding canon header
sound_behind form samples depth = ap (λ bits. sound_bytes bits samples ++ replicate (length (sound_bytes bits samples) % 2) 0) depth
    ∙ ap (λ n. sound_bytes 16 samples ++ replicate n 0) even
  where
    even : length (sound_bytes 16 samples) % 2 ≡ 0
    even = omega (arith, length-sound_bytes 16 samples)

-- so its pairs are its samples
pub file_back : (form : Form) (samples : List ℤ) → form.bits ≡ 16 →
    total (pair_numbers (first_chunks 2 (length (drop 44 (canon form samples)) / 2) (drop 44 (canon form samples)))) ≡ file_total samples
file_back form samples depth = ap (λ xs. total (pair_numbers (first_chunks 2 (length xs / 2) xs))) (sound_behind form samples depth)
    ∙ ap (λ n. total (pair_numbers (first_chunks 2 n (sound_bytes 16 samples ++ [])))) many ∙ ap total (samples_back samples [])
  where
    many : length (sound_bytes 16 samples ++ []) / 2 ≡ length samples
    many = omega (arith, length-append (sound_bytes 16 samples) [], length-sound_bytes 16 samples)
