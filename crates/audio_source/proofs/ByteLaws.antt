-- Samples and whole frames, in bytes.
use Rattle.std.proofs.Common.{◌≡◌, ℕ, zero, suc, ◌+◌, ◌-◌, ◌*◌, ◌/◌, ◌%◌, ◌≤◌, ◌<◌, ◌⊎◌, inl, inr, refl, ap, arith, ◌∙◌, sym, List, [], ◌∷◌, ◌++◌, length, take, drop, get_or, replicate}
use Rattle.std.specs.Prelude.{ℤ, pos}
use Rattle.std.proofs.Math.Nat.{mul-le-mul_right, le_of_mul-le-mul_right, div-lt_iff_lt-mul, le-div_iff_mul-le, mul-div_cancel, mul-mod_left, div-mul-le_self, div-le_of_le-mul, mul_comm}
use Rattle.std.proofs.lemmas.Nat.{div-add-mod', mul-le}
use Rattle.std.proofs.lemmas.List.{length-take-le, drop-drop, length-append}
use Rattle.sound_model.specs.Numbers.{sample_at}
use Rattle.wav_codec.proofs.Samples.{sample_of_two, sample_of_three}

-- ---- a sample is told by its own bytes

abbrev pub IsDepth : ℕ → Type 0
IsDepth bits = (bits ≡ 8) ⊎ ((bits ≡ 16) ⊎ (bits ≡ 24))

pub sample_of_one : (n : ℕ) (xs : List ℕ) → 1 ≤ n → sample_at 8 (take n xs) ≡ sample_at 8 xs
sample_of_one zero xs h = absurd (omega arith)
sample_of_one (suc n) [] h = refl
sample_of_one (suc n) (x ∷ xs) h = refl

pub take-take : (n k : ℕ) (xs : List ℕ) → k ≤ n → take k (take n xs) ≡ take k xs
take-take n zero xs h = refl
take-take zero (suc k) xs h = absurd (omega arith)
take-take (suc n) (suc k) [] h = refl
take-take (suc n) (suc k) (x ∷ xs) h = ap (λ ys. x ∷ ys) (take-take n k xs (omega arith))

pub sample_front : (bits n : ℕ) (xs : List ℕ) → IsDepth bits → bits / 8 ≤ n → sample_at bits (take n xs) ≡ sample_at bits xs
sample_front bits n xs (inl e) h = ap (λ d. sample_at d (take n xs)) e ∙ sample_of_one n xs (omega (arith, ap (λ d. d / 8) e)) ∙ ap (λ d. sample_at d xs) (sym e)
sample_front bits n xs (inr (inl e)) h = ap (λ d. sample_at d (take n xs)) e
    ∙ sym (sample_of_two (take n xs)) ∙ ap (sample_at 16) (take-take n 2 xs (omega (arith, ap (λ d. d / 8) e))) ∙ sample_of_two xs ∙ ap (λ d. sample_at d xs) (sym e)
sample_front bits n xs (inr (inr e)) h = ap (λ d. sample_at d (take n xs)) e
    ∙ sym (sample_of_three (take n xs)) ∙ ap (sample_at 24) (take-take n 3 xs (omega (arith, ap (λ d. d / 8) e))) ∙ sample_of_three xs ∙ ap (λ d. sample_at d xs) (sym e)

pub take-nothing : (j : ℕ) → take {A = ℕ} j [] ≡ []
take-nothing zero = refl
take-nothing (suc j) = refl

pub drop-of-take : (k n : ℕ) (xs : List ℕ) → drop k (take n xs) ≡ take (n - k) (drop k xs)
drop-of-take zero n xs = let same : n - 0 ≡ n = omega arith in ap (λ m. take m xs) (sym same)
drop-of-take (suc k) zero xs = let none : zero - suc k ≡ 0 = omega arith in ap (λ m. take m (drop (suc k) xs)) (sym none)
drop-of-take (suc k) (suc n) [] = sym (take-nothing (suc n - suc k))
drop-of-take (suc k) (suc n) (x ∷ xs) = let same : suc n - suc k ≡ n - k = omega arith in drop-of-take k n xs ∙ ap (λ m. take m (drop k xs)) (sym same)

-- the sample that begins k bytes behind a place, within the n bytes that were read there
pub sample_there : (bits at k n : ℕ) (b : List ℕ) → IsDepth bits → k + bits / 8 ≤ n →
    sample_at bits (drop k (take n (drop at b))) ≡ sample_at bits (drop (at + k) b)
sample_there bits at k n b depth h =
    ap (sample_at bits) (drop-of-take k n (drop at b)) ∙ sample_front bits (n - k) (drop k (drop at b)) depth (omega arith) ∙ ap (sample_at bits) (drop-drop k at b)

-- ---- places

-- i whole frames and c samples before a place, in samples and in bytes
pub place_is : (at i c channels bytes : ℕ) → at + (i * channels + c) * bytes ≡ at + i * (channels * bytes) + c * bytes
place_is at i c channels bytes = grind arith

pub frames_on : (at from i size : ℕ) → at + (from + i) * size ≡ at + from * size + i * size
frames_on at from i size = grind arith

-- ---- silence

pub all_zero : (xs : List ℤ) → ((k : ℕ) → k < length xs → get_or xs k (pos 0) ≡ pos 0) → xs ≡ replicate (length xs) (pos 0)
all_zero [] h = refl
all_zero (x ∷ xs) h = let first : x ≡ pos 0 = h 0 (omega arith) in let rest = all_zero xs (λ k below. h (suc k) (omega arith)) in cc

-- ---- whole frames in bytes

pub frames_of_bytes : (n size : ℕ) → n % size ≡ 0 → n / size * size ≡ n
frames_of_bytes n size e = omega (arith, div-add-mod' n size)

-- so many whole frames as samples
pub samples_of_bytes : (q channels width : ℕ) → 1 ≤ width → q * (channels * width) / width ≡ q * channels
samples_of_bytes q channels width h =
    let same : q * (channels * width) ≡ q * channels * width = grind arith in ap (λ n. n / width) same ∙ mul-div_cancel (q * channels) h

pub below_frame : (k q channels : ℕ) → 1 ≤ channels → k < q * channels → k / channels < q
below_frame k q channels h g = (div-lt_iff_lt-mul h).1 g

pub past_frame : (k q channels : ℕ) → 1 ≤ channels → q * channels ≤ k → q ≤ k / channels
past_frame k q channels h g = (le-div_iff_mul-le h).1 g

pub fewer_frames : (q f size : ℕ) → 1 ≤ size → q * size ≤ f * size → q ≤ f
fewer_frames q f size h g = le_of_mul-le-mul_right g h

pub more_bytes : (q f size : ℕ) → q ≤ f → q * size ≤ f * size
more_bytes q f size h = mul-le-mul_right size h

pub next_bytes : (i q size : ℕ) → i < q → i * size + size ≤ q * size
next_bytes i q size h = let up : suc i * size ≤ q * size = mul-le-mul_right size h in omega arith

pub least_size : (channels width : ℕ) → 1 ≤ channels → 1 ≤ width → 1 ≤ channels * width
least_size channels width h g = let up : 1 * width ≤ channels * width = mul-le-mul_right width h in omega arith

pub depth_width : (bits : ℕ) → IsDepth bits → 1 ≤ bits / 8
depth_width bits (inl e) = omega (arith, ap (λ d. d / 8) e)
depth_width bits (inr (inl e)) = omega (arith, ap (λ d. d / 8) e)
depth_width bits (inr (inr e)) = omega (arith, ap (λ d. d / 8) e)

-- ---- the bytes that are asked for, and those that are given on

pub width_most : (bits : ℕ) → IsDepth bits → bits / 8 ≤ 3
width_most bits (inl e) = omega (arith, ap (λ d. d / 8) e)
width_most bits (inr (inl e)) = omega (arith, ap (λ d. d / 8) e)
width_most bits (inr (inr e)) = omega (arith, ap (λ d. d / 8) e)

pub bytes_fit : (f many channels bits room : ℕ) → IsDepth bits → f ≤ many / channels → many * 3 ≤ room → f * channels * (bits / 8) ≤ room
bytes_fit f many channels bits room depth few fit =
    let frames : f * channels ≤ many / channels * channels = mul-le-mul_right channels few in
    let samples : f * channels ≤ many = omega (arith, div-mul-le_self many channels) in
    omega (arith, mul-le (f * channels) (bits / 8) many 3 samples (width_most bits depth))

pub cut_whole : (f channels width : ℕ) (buf : List ℕ) → f * channels * width ≤ length buf → length (take (f * channels * width) buf) % (channels * width) ≡ 0
cut_whole f channels width buf h =
    let same : f * channels * width ≡ f * (channels * width) = grind arith in
    ap (λ n. n % (channels * width)) (length-take-le (f * channels * width) buf h ∙ same) ∙ mul-mod_left f (channels * width)

pub front_length : (n : ℕ) (part rest : List ℕ) → n ≤ length part → length (take n (part ++ rest)) ≡ n
front_length n part rest h = length-take-le n (part ++ rest) (omega (arith, length-append part rest))

pub given_whole : (n channels width : ℕ) (part rest : List ℕ) → n ≤ length part → n % (channels * width) ≡ 0 → length (take n (part ++ rest)) % width ≡ 0
given_whole n channels width part rest few whole =
    let same : n / (channels * width) * (channels * width) ≡ n / (channels * width) * channels * width = grind arith in
    ap (λ m. m % width) (front_length n part rest few ∙ sym (frames_of_bytes n (channels * width) whole) ∙ same) ∙ mul-mod_left (n / (channels * width) * channels) width

pub given_room : (n f many channels width : ℕ) (part rest : List ℕ) → n ≤ length part → length part ≤ f * channels * width → f ≤ many / channels → length (take n (part ++ rest)) / width ≤ many
given_room n f many channels width part rest few long asked =
    let frames : f * channels ≤ many / channels * channels = mul-le-mul_right channels asked in
    let samples : f * channels ≤ many = omega (arith, div-mul-le_self many channels) in
    let bytes : f * channels * width ≤ many * width = mul-le-mul_right width samples in
    div-le_of_le-mul width (omega (arith, front_length n part rest few, mul_comm many width))

pub frames_times : (f channels width : ℕ) → f * channels * width ≡ f * (channels * width)
frames_times f channels width = grind arith
