-- Lemmas on samples that stand one after another as bytes.
use Rattle.std.proofs.Common.{◌≡◌, ℕ, zero, suc, ◌+◌, ◌*◌, ◌/◌, ◌<◌, ℤ, pos, All, List, [], ◌∷◌, length, take, drop, get_or, set, refl, ap, ◌∙◌, ⊎_elim, arith, FitsSigned, w32, to_z, of_z, zero-mul, length-append, drop-drop}
use Rattle.std.specs.Simd.{first_chunks}
use Rattle.std.specs.Int.{bytes_low_first}
use Rattle.std.proofs.lemmas.Int.{to_z-of_z, ints}
use Rattle.std.proofs.lemmas.Bool.{cases_lt, lt-ltb, le-ltb}
use Rattle.std.proofs.lemmas.List.{get_or-drop}
use Rattle.std.proofs.lemmas.List.Elements.{All-map}
use Rattle.std.specs.List.{range_with_len}
use Rattle.wav_codec.specs.Samples.{samples_of, IsInside}
use Rattle.std.proofs.lemmas.List.Edits.{fill_by_more}
use Rattle.sound_model.specs.Numbers.{number, signed, inner, twos_complement, file_sample, sample_at, sample_bytes}
use Rattle.sound_model.specs.Wav.{sound_bytes}

-- ---- pieces of a list

length-first_chunks : {X : Type 0} (n k : ℕ) (xs : List X) → length (first_chunks n k xs) ≡ k
length-first_chunks n zero xs = refl
length-first_chunks n (suc k) xs = ap (λ j. suc j) (length-first_chunks n k (drop n xs))

get_or-first_chunks : {X : Type 0} (n k : ℕ) (xs : List X) (i : ℕ) (d : List X) → i < k → get_or (first_chunks n k xs) i d ≡ take n (drop (i * n) xs)
get_or-first_chunks n zero xs i d h = absurd (omega arith)
get_or-first_chunks n (suc k) xs zero d h = rw zero-mul refl
get_or-first_chunks n (suc k) xs (suc i) d h =
    get_or-first_chunks n k (drop n xs) i d (omega arith)
    ∙ ap (take n) (drop-drop (i * n) n xs ∙ ap (λ j. drop j xs) (omega arith))

-- a piece of n elements, by its place among the pieces
pub piece_at : (n : ℕ) (bytes : List ℕ) (pieces : List (List ℕ)) (i : ℕ) → pieces ≡ first_chunks n (length bytes / n) bytes
    → i < length pieces → get_or pieces i [] ≡ take n (drop (i * n) bytes)
piece_at n bytes pieces i e h =
    let count : length pieces ≡ length bytes / n = ap length e ∙ length-first_chunks n (length bytes / n) bytes in
    ap (λ ps. get_or ps i []) e ∙ get_or-first_chunks n (length bytes / n) bytes i [] (omega arith)

-- ---- decoding

-- a sample is told by its own bytes
pub sample_of_two : (xs : List ℕ) → sample_at 16 (take 2 xs) ≡ sample_at 16 xs
sample_of_two [] = refl
sample_of_two (x ∷ []) = refl
sample_of_two (x ∷ y ∷ ys) = refl

pub sample_of_three : (xs : List ℕ) → sample_at 24 (take 3 xs) ≡ sample_at 24 xs
sample_of_three [] = refl
sample_of_three (x ∷ []) = refl
sample_of_three (x ∷ y ∷ []) = refl
sample_of_three (x ∷ y ∷ z ∷ zs) = refl

-- one more sample is written
pub written_more : (f : ℕ → ℤ) (out : List ℤ) (i : ℕ) (v : ℤ) → i < length out → FitsSigned w32 v → v ≡ f i
    → ((k : ℕ) → k < i → get_or out k (pos 0) ≡ f k)
    → (k : ℕ) → k < i + 1 → get_or (set out i (to_z w32 (of_z w32 v))) k (pos 0) ≡ f k
written_more f out i v h fits e so_far =
    rw (to_z-of_z w32 v fits ∙ e) (fill_by_more f out i (pos 0) h so_far)

-- ---- the range of a decoded sample

abbrev pub IsBytes : List ℕ → Type 0
IsBytes bytes = (i : ℕ) → get_or bytes i 0 < 256

pub dropped : (bytes : List ℕ) → IsBytes bytes → (n i : ℕ) → get_or (drop n bytes) i 0 < 256
dropped bytes fits n i = rw (get_or-drop n bytes i 0) (fits (n + i))

inside_8 : (n : ℕ) → n < 256 → IsInside (inner 8 (pos n))
inside_8 n h = (omega (arith, ints), omega (arith, ints))

inside_16 : (n : ℕ) → n < 65536 → IsInside (inner 16 (signed 16 n))
inside_16 n h = ⊎_elim (λ low. rw (lt-ltb n 32768 low) (omega (arith, ints), omega (arith, ints)))
    (λ high. rw (le-ltb n 32768 high) (omega (arith, ints), omega (arith, ints))) (cases_lt n 32768)

inside_24 : (n : ℕ) → n < 16777216 → IsInside (inner 24 (signed 24 n))
inside_24 n h = ⊎_elim (λ low. rw (lt-ltb n 8388608 low) (omega (arith, ints), omega (arith, ints)))
    (λ high. rw (le-ltb n 8388608 high) (omega (arith, ints), omega (arith, ints))) (cases_lt n 8388608)

-- each sample of bytes is inside, at the three widths
pub inside_of_8 : (count : ℕ) (bytes : List ℕ) → IsBytes bytes → All IsInside (samples_of 8 count bytes)
inside_of_8 count bytes fits = All-map IsInside (λ i. sample_at 8 (drop (i * 1) bytes)) (range_with_len 0 count)
    (λ k d h. let i = get_or (range_with_len 0 count) k d in inside_8 _ (dropped bytes fits (i * 1) 0))

pub inside_of_16 : (count : ℕ) (bytes : List ℕ) → IsBytes bytes → All IsInside (samples_of 16 count bytes)
inside_of_16 count bytes fits = All-map IsInside (λ i. sample_at 16 (drop (i * 2) bytes)) (range_with_len 0 count)
    (λ k d h. let at = get_or (range_with_len 0 count) k d * 2 in
    inside_16 (number 2 (drop at bytes)) (omega (arith, dropped bytes fits at 0, dropped bytes fits at 1)))

pub inside_of_24 : (count : ℕ) (bytes : List ℕ) → IsBytes bytes → All IsInside (samples_of 24 count bytes)
inside_of_24 count bytes fits = All-map IsInside (λ i. sample_at 24 (drop (i * 3) bytes)) (range_with_len 0 count)
    (λ k d h. let at = get_or (range_with_len 0 count) k d * 3 in
    inside_24 (number 3 (drop at bytes)) (omega (arith, dropped bytes fits at 0, dropped bytes fits at 1, dropped bytes fits at 2)))

-- ---- encoding

length-bytes_low_first : (i k n : ℕ) → length (bytes_low_first i k n) ≡ k
length-bytes_low_first i zero n = refl
length-bytes_low_first i (suc k) n = ap (λ j. suc j) (length-bytes_low_first (suc i) k n)

-- the bytes of so many samples
pub length-sound_bytes : (bits : ℕ) (samples : List ℤ) → length (sound_bytes bits samples) ≡ length samples * (bits / 8)
length-sound_bytes bits [] = rw zero-mul refl
length-sound_bytes bits (v ∷ vs) =
    length-append (sample_bytes bits v) (sound_bytes bits vs)
    ∙ omega (arith, length-sound_bytes bits vs, length-bytes_low_first 0 (bits / 8) (twos_complement bits (file_sample bits v)))
