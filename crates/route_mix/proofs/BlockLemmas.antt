-- Blocks that are scaled, summed and clipped, sample by sample.
use Rattle.std.proofs.Common.{◌≡◌, ℕ, zero, suc, ◌+◌, ◌*◌, ◌/◌, ◌%◌, ◌<◌, ◌≤◌, ◌⊎◌, inl, inr, ℤ, pos, ◌+ℤ◌, List, length, get_or, take, refl, ap, ap₂, ◌∙◌, arith}
use Rattle.std.specs.Prelude.{◌∷◌, ◌==◌, if◌then◌else◌}
use Rattle.std.specs.List.{range_with_len}
use Rattle.std.proofs.lemmas.Bool.{cases_lt}
use Rattle.std.proofs.lemmas.List.{length-map}
use Rattle.std.proofs.lemmas.List.FromFn.{length-range_with_len, fill_by_all, get_or-map-range_with_len}
use Rattle.std.proofs.lemmas.Simd.{map-map, zip2-map, splat_is_map}
use Rattle.sound_model.specs.Numbers.{scale, clip}
use Rattle.mix_kernel.specs.Blocks.{scaled, scaled_evenly, sided, summed, clipped, spread}
use Rattle.mix_kernel.proofs.Ranges.{same_along, frame_within}
use Rattle.mix_kernel.proofs.SideLemmas.{length-sided, left-sided, right-sided}
use Rattle.route_mix.specs.Blocks.{block_of, silence, AreFew}

-- ---- silence

pub take_silence : (k n : ℕ) → k ≤ n → take k (silence n) ≡ silence k
take_silence zero n h = refl
take_silence (suc k) zero h = absurd (omega arith)
take_silence (suc k) (suc n) h = ap (λ zs. pos 0 ∷ zs) (take_silence k n (omega arith))

pub clip_silence : (n : ℕ) → clipped (silence n) ≡ silence n
clip_silence zero = refl
clip_silence (suc n) = ap (λ zs. pos 0 ∷ zs) (clip_silence n)

pub silent_block : (channels frames : ℕ) → silence (frames * channels) ≡ block_of (λ i c. pos 0) channels frames
silent_block channels frames = splat_is_map (range_with_len 0 (frames * channels)) (frames * channels) (pos 0) (length-range_with_len 0 (frames * channels))

-- ---- blocks that are equal

-- the channel of a sample is one of the frame's
pub channel_within : (k channels : ℕ) → AreFew channels → k % channels < channels
channel_within k channels (inl one) = rw one (omega arith)
channel_within k channels (inr two) = rw two (omega arith)

pub same_block : (f g : ℕ → ℕ → ℤ) (channels frames : ℕ) → AreFew channels → ((i c : ℕ) → i < frames → c < channels → f i c ≡ g i c) → block_of f channels frames ≡ block_of g channels frames
same_block f g channels frames few each = same_along (λ k. f (k / channels) (k % channels)) (λ k. g (k / channels) (k % channels)) 0 (frames * channels)
    (λ k low h. let inside : k < frames * channels = omega arith in each (k / channels) (k % channels) (frame_within k frames channels (frames * channels) few refl inside) (channel_within k channels few))

back_at : (k channels : ℕ) → AreFew channels → k ≡ (k / channels) * channels + k % channels
back_at k channels (inl one) = rw one (omega arith)
back_at k channels (inr two) = rw two (omega arith)

-- a list of whole frames is the block of what stands in it
pub block_back : (xs : List ℤ) (channels frames : ℕ) → AreFew channels → length xs ≡ frames * channels → xs ≡ block_of (λ i c. get_or xs (i * channels + c) (pos 0)) channels frames
block_back xs channels frames few long =
    fill_by_all (λ k. get_or xs ((k / channels) * channels + k % channels) (pos 0)) xs (frames * channels) (pos 0) long
    (λ k h. ap (λ j. get_or xs j (pos 0)) (back_at k channels few))

-- ---- what kernels make of blocks

pub scaled_block : (f : ℕ → ℕ → ℤ) (gain channels frames : ℕ) → scaled_evenly (block_of f channels frames) gain ≡ block_of (λ i c. scale (f i c) gain) channels frames
scaled_block f gain channels frames = map-map (λ s. scale s gain) (λ k. f (k / channels) (k % channels)) (range_with_len 0 (frames * channels))

pub clipped_block : (f : ℕ → ℕ → ℤ) (channels frames : ℕ) → clipped (block_of f channels frames) ≡ block_of (λ i c. clip (f i c)) channels frames
clipped_block f channels frames = map-map clip (λ k. f (k / channels) (k % channels)) (range_with_len 0 (frames * channels))

pub summed_block : (f g : ℕ → ℕ → ℤ) (channels frames : ℕ) → summed (block_of f channels frames) (block_of g channels frames) ≡ block_of (λ i c. f i c +ℤ g i c) channels frames
summed_block f g channels frames = zip2-map ◌+ℤ◌ (λ k. f (k / channels) (k % channels)) (λ k. g (k / channels) (k % channels)) (range_with_len 0 (frames * channels))

-- samples scaled by one gain for each frame
pub each_scaled_block : (f : ℕ → ℕ → ℤ) (gain : ℕ → ℕ) (channels frames : ℕ) → scaled (block_of f channels frames) (spread gain channels (frames * channels)) ≡ block_of (λ i c. scale (f i c) (gain i)) channels frames
each_scaled_block f gain channels frames = zip2-map scale (λ k. f (k / channels) (k % channels)) (λ k. gain (k / channels)) (range_with_len 0 (frames * channels))

-- ---- one channel into two

-- what a sample of one channel gives to a side of two
abbrev pub at_side : ℕ → ℕ → ℕ → ℤ → ℕ → ℤ
at_side gain left right s c = scale (scale s gain) (if c == 0 then left else right)

module _ (f : ℕ → ℕ → ℤ) (gain left right frames : ℕ) where
  abbrev mono : List ℤ
  mono = block_of f 1 frames

  mono_long : length mono ≡ frames
  mono_long = length-map (range_with_len 0 (frames * 1)) (λ k. f (k / 1) (k % 1)) ∙ length-range_with_len 0 (frames * 1) ∙ once
    where
      once : frames * 1 ≡ frames
      once = omega arith

  mono_at : (i : ℕ) → i < frames → get_or mono i (pos 0) ≡ f i 0
  mono_at i h = let inside : i < frames * 1 = omega arith in let same : i / 1 ≡ i = omega arith in let none : i % 1 ≡ 0 = omega arith in
      get_or-map-range_with_len (λ k. f (k / 1) (k % 1)) 0 (frames * 1) i i (pos 0) inside (omega arith) ∙ ap₂ f same none

  side_at : (k : ℕ) → k < frames * 2 → (k % 2 ≡ 0) ⊎ (k % 2 ≡ 1) → get_or (sided gain left right mono) k (pos 0) ≡ at_side gain left right (f (k / 2) 0) (k % 2)
  side_at k h (inl even) = let inside : k / 2 < frames = omega arith in
      rw even (left-sided gain left right mono (k / 2) k (omega arith) (omega (arith, mono_long)) ∙ ap (λ s. scale (scale s gain) left) (mono_at (k / 2) inside))
  side_at k h (inr odd) = let inside : k / 2 < frames = omega arith in
      rw odd (right-sided gain left right mono (k / 2) k (omega arith) (omega (arith, mono_long)) ∙ ap (λ s. scale (scale s gain) right) (mono_at (k / 2) inside))

  either : (k : ℕ) → (k % 2 ≡ 0) ⊎ (k % 2 ≡ 1)
  either k = go (cases_lt (k % 2) 1)
    where
      go : (k % 2 < 1) ⊎ (1 ≤ k % 2) → (k % 2 ≡ 0) ⊎ (k % 2 ≡ 1)
      go (inl low) = inl (omega arith)
      go (inr high) = inr (omega arith)

  pub sided_block : sided gain left right (block_of f 1 frames) ≡ block_of (λ i c. at_side gain left right (f i 0) c) 2 frames
  sided_block = fill_by_all (λ k. at_side gain left right (f (k / 2) 0) (k % 2)) (sided gain left right mono) (frames * 2) (pos 0)
      (length-sided gain left right mono ∙ ap (λ n. n * 2) mono_long) (λ k h. side_at k h (either k))

pub length_block : (f : ℕ → ℕ → ℤ) (channels frames : ℕ) → length (block_of f channels frames) ≡ frames * channels
length_block f channels frames = length-map (range_with_len 0 (frames * channels)) (λ k. f (k / channels) (k % channels)) ∙ length-range_with_len 0 (frames * channels)
