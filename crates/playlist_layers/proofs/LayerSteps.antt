-- A layer over the sums below it, sample by sample.
use Rattle.std.proofs.Common.{◌≡◌, ℕ, ◌+◌, ◌-◌, ◌*◌, ◌/◌, ◌%◌, ◌<◌, ◌≤◌, ◌⊎◌, inl, inr, ℤ, pos, ◌+ℤ◌, Bool, true, false, cond, List, map, replicate, refl, ap, ap₂, sym, ◌∙◌, arith}
use Rattle.std.specs.List.{range_with_len}
use Rattle.std.proofs.lemmas.Int.{ints}
use Rattle.std.proofs.lemmas.Bool.Decides.{nat_tests}
use Rattle.std.proofs.lemmas.List.FromFn.{length-range_with_len}
use Rattle.std.proofs.lemmas.Simd.{map-map, zip2-map, zip2_of_maps, splat_is_map}
use Rattle.sound_model.specs.Numbers.{unity, scale}
use Rattle.sound_model.specs.Regions.{Region, Sounds, covers, fade, region_sample}
use Rattle.sound_model.specs.Layers.{over}
use Rattle.sound_laws.proofs.NumberLaws.{scale_unity, scale-silence}
use Rattle.session_model.specs.Frames.{interleaved}
use Rattle.ramp_fixed.specs.Fades.{IsUnfaded}
use Rattle.ramp_fixed.proofs.FadeValues.{fade_full}
use Rattle.mix_kernel.specs.Blocks.{scaled_evenly, summed, laid_over, spread}
use Rattle.playlist_layers.specs.Spans.{CoversSpan}
use Rattle.mix_kernel.proofs.Ranges.{same_along, frame_within}

-- ---- one sample

pub covers_there : (r : Region) (here count x : ℕ) → CoversSpan here count r → here ≤ x → x < here + count → covers r x ≡ true
covers_there r here count x h low high = let b = h.begun in let e = h.lasts in grind (arith, nat_tests)

pub region_there : (sounds : Sounds) (r : Region) (c x : ℕ) → covers r x ≡ true → region_sample sounds r c x ≡ scale (sounds r.source (r.start + x - r.at) c) r.gain
region_there sounds r c x h = ap (λ b. cond b (scale (sounds r.source (r.start + x - r.at) c) r.gain) (pos 0)) h

-- what a layer of scaled sample s and fade value f makes of the sum below it
abbrev pub laid : Bool → ℤ → ℕ → ℤ → ℤ
laid opaque s f below = cond opaque (scale s f +ℤ scale below (unity - f)) (scale s f +ℤ below)

pub over_there : (sounds : Sounds) (r : Region) (c x i f : ℕ) (below : ℤ) → covers r x ≡ true → r.start + x - r.at ≡ i → f ≡ fade r (x - r.at)
    → laid r.opaque (scale (sounds r.source i c) r.gain) f below ≡ over sounds c x r below
over_there sounds r c x i f below there at full =
    let own : scale (sounds r.source i c) r.gain ≡ region_sample sounds r c x = ap (λ j. scale (sounds r.source j c) r.gain) (sym at) ∙ sym (region_there sounds r c x there) in
    ap₂ (λ s g. laid r.opaque s g below) own full

-- a region that is heard in full
pub unfaded_at : (r : Region) (here count : ℕ) → IsUnfaded r.long r.fade_in r.fade_out (here - r.at) count → (i : ℕ) → i < count → unity ≡ fade r (here - r.at + i)
unfaded_at r here count (inl none) i h = absurd (omega arith)
unfaded_at r here count (inr (within, before)) i h = sym (fade_full r (here - r.at + i) (omega arith) (omega arith))

-- ---- a block of samples

laid_along : (opaque : Bool) (below s : ℕ → ℤ) (f : ℕ → ℕ) (ks : List ℕ) → laid_over (map below ks) (map s ks) (map f ks) opaque ≡ map (λ k. laid opaque (s k) (f k) (below k)) ks
laid_along true below s f ks = zip2_of_maps ◌+ℤ◌ (λ k. scale (s k) (f k)) (λ k. scale (below k) (unity - f k)) ks (zip2-map scale s f ks) (zip2-map (λ b g. scale b (unity - g)) below f ks)
laid_along false below s f ks = zip2_of_maps ◌+ℤ◌ (λ k. scale (s k) (f k)) below ks (zip2-map scale s f ks) refl

-- what is left of the sums below a layer that is heard in full
left_along : (opaque : Bool) (below : ℕ → ℤ) (n : ℕ) → cond opaque (replicate n (pos 0)) (map below (range_with_len 0 n)) ≡ map (λ k. cond opaque (pos 0) (below k)) (range_with_len 0 n)
left_along true below n = splat_is_map (range_with_len 0 n) n (pos 0) (length-range_with_len 0 n)
left_along false below n = refl

full_there : (opaque : Bool) (s below : ℤ) → cond opaque (pos 0) below +ℤ s ≡ laid opaque s unity below
full_there true s below = rw (scale_unity s, scale-silence below) (omega (arith, ints))
full_there false s below = rw (scale_unity s) (omega (arith, ints))

module _ (sounds : Sounds) (r : Region) (below : ℕ → ℕ → ℤ) (channels here count n : ℕ) (few : (channels ≡ 1) ⊎ (channels ≡ 2)) (whole : n ≡ count * channels) (span : CoversSpan here count r) where
  abbrev own : ℕ → ℤ
  own k = scale (sounds r.source (r.start + (here - r.at) + k / channels) (k % channels)) r.gain

  abbrev under : ℕ → ℤ
  under k = below (here + k / channels) (k % channels)

  abbrev heard : ℕ → ℕ → ℤ
  heard x c = over sounds c x r (below x c)

  scaled_own : scaled_evenly (interleaved (sounds r.source) channels (r.start + (here - r.at)) n) r.gain ≡ map own (range_with_len 0 n)
  scaled_own = map-map (λ s. scale s r.gain) (λ k. sounds r.source (r.start + (here - r.at) + k / channels) (k % channels)) (range_with_len 0 n)

  laid_here : (f : ℕ → ℕ) → ((i : ℕ) → i < count → f i ≡ fade r (here - r.at + i))
      → map (λ k. laid r.opaque (own k) (f (k / channels)) (under k)) (range_with_len 0 n) ≡ interleaved heard channels here n
  laid_here f fades =
      same_along (λ k. laid r.opaque (own k) (f (k / channels)) (under k)) (λ k. heard (here + k / channels) (k % channels)) 0 n
      (λ k low h. let inside : k / channels < count = frame_within k count channels n few whole (omega arith) in
      let b = span.begun in
      over_there sounds r (k % channels) (here + k / channels) (r.start + (here - r.at) + k / channels) (f (k / channels)) (under k)
      (covers_there r here count (here + k / channels) span (omega arith) (omega arith)) (omega arith)
      (fades (k / channels) inside ∙ ap (fade r) (omega arith)))

  pub faded_step : (opaque : Bool) → opaque ≡ r.opaque → laid_over (interleaved below channels here n) (scaled_evenly (interleaved (sounds r.source) channels (r.start + (here - r.at)) n) r.gain)
      (spread (λ i. fade r (here - r.at + i)) channels n) opaque ≡ interleaved heard channels here n
  faded_step opaque same = ap (λ o. laid_over (interleaved below channels here n) (scaled_evenly (interleaved (sounds r.source) channels (r.start + (here - r.at)) n) r.gain)
      (spread (λ i. fade r (here - r.at + i)) channels n) o) same
      ∙ ap (λ ss. laid_over (map under (range_with_len 0 n)) ss (spread (λ i. fade r (here - r.at + i)) channels n) r.opaque) scaled_own
      ∙ laid_along r.opaque under own (λ k. fade r (here - r.at + k / channels)) (range_with_len 0 n)
      ∙ laid_here (λ i. fade r (here - r.at + i)) (λ i h. refl)

  pub full_step : IsUnfaded r.long r.fade_in r.fade_out (here - r.at) count
      → summed (cond r.opaque (replicate n (pos 0)) (interleaved below channels here n)) (scaled_evenly (interleaved (sounds r.source) channels (r.start + (here - r.at)) n) r.gain)
      ≡ interleaved heard channels here n
  full_step full =
      zip2_of_maps ◌+ℤ◌ (λ k. cond r.opaque (pos 0) (under k)) own (range_with_len 0 n) (left_along r.opaque under n) scaled_own
      ∙ same_along (λ k. cond r.opaque (pos 0) (under k) +ℤ own k) (λ k. laid r.opaque (own k) unity (under k)) 0 n (λ k low h. full_there r.opaque (own k) (under k))
      ∙ laid_here (λ i. unity) (unfaded_at r here count full)
