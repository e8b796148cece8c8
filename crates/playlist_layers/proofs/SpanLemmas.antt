-- Layers of a span, and spans of a block.
use Rattle.std.proofs.Common.{◌≡◌, ℕ, ◌+◌, ◌-◌, ◌*◌, ◌/◌, ◌%◌, ◌<◌, ◌≤◌, ◌⊎◌, inl, inr, ℤ, pos, Bool, true, false, List, [], ◌∷◌, ◌++◌, length, get_or, take, replicate, reverse, All, ap, ap₂, sym, subst, ◌∙◌, arith, length-append}
use Rattle.std.specs.List.{range_with_len}
use Rattle.std.proofs.lemmas.Simd.{map-map, splat_is_map}
use Rattle.std.proofs.Math.Nat.{mul-le-mul}
use Rattle.std.proofs.lemmas.Bool.{cases_lt}
use Rattle.std.proofs.lemmas.List.{get_or_append_left, get_or-append_right}
use Rattle.std.proofs.lemmas.List.FromFn.{length-range_with_len, length-map-range_with_len, get_or-map-range_with_len, fill_by_all}
use Rattle.std.proofs.lemmas.Slice.{take-put_mid}
use borrow.Rule.Slice.PartMut.{put_mid}
use Rattle.std.proofs.lemmas.Int.{ints}
use Rattle.std.proofs.lemmas.List.Elements.{All-get_or}
use Rattle.sound_model.specs.Numbers.{clip, scale, unity}
use Rattle.sound_laws.proofs.LayerLaws.{lay-there}
use Rattle.sound_laws.proofs.NumberLaws.{scale_unity, scale-silence}
use Rattle.ramp_fixed.specs.Fades.{IsUnfaded}
use Rattle.sound_model.specs.Regions.{Region, Sounds, covers, fade}
use Rattle.sound_model.specs.Layers.{lay, over, by_layer, track_sample}
use Rattle.session_model.specs.Frames.{interleaved, IsSample}
use Rattle.mix_kernel.specs.Blocks.{clipped}
use Rattle.playlist_layers.specs.Blocks.{layer_block, heard_block, track_block}
use Rattle.playlist_layers.specs.Spans.{CoversSpan, SoundAlike}
use Rattle.mix_kernel.proofs.Ranges.{same_along, frame_within}
use Rattle.playlist_layers.proofs.LayerSteps.{covers_there, over_there, laid, unfaded_at}
use Rattle.playlist_layers.proofs.Numbers.{clip_sample}

pub no_layers : (sounds : Sounds) (channels here n : ℕ) → replicate n (pos 0) ≡ layer_block sounds [] channels here n
no_layers sounds channels here n = splat_is_map (range_with_len 0 n) n (pos 0) (length-range_with_len 0 n)

pub no_sound : (sounds : Sounds) (channels here n : ℕ) → replicate n (pos 0) ≡ heard_block sounds [] channels here n
no_sound sounds channels here n = splat_is_map (range_with_len 0 n) n (pos 0) (length-range_with_len 0 n)

pub layers_clipped : (sounds : Sounds) (rs : List Region) (channels here n : ℕ) → clipped (layer_block sounds rs channels here n) ≡ heard_block sounds rs channels here n
layers_clipped sounds rs channels here n = map-map clip (λ k. lay sounds (k % channels) (here + k / channels) rs) (range_with_len 0 n)

pub layer_more : (sounds : Sounds) (r : Region) (rs : List Region) (channels here count n : ℕ) → (channels ≡ 1) ⊎ (channels ≡ 2) → n ≡ count * channels → CoversSpan here count r
    → interleaved (λ x c. over sounds c x r (lay sounds c x rs)) channels here n ≡ layer_block sounds (r ∷ rs) channels here n
layer_more sounds r rs channels here count n few whole span =
    same_along (λ k. over sounds (k % channels) (here + k / channels) r (lay sounds (k % channels) (here + k / channels) rs)) (λ k. lay sounds (k % channels) (here + k / channels) (r ∷ rs)) 0 n
    (λ k low h. let inside : k / channels < count = frame_within k count channels n few whole (omega arith) in
    sym (lay-there sounds (k % channels) (here + k / channels) r rs (covers_there r here count (here + k / channels) span (omega arith) (omega arith))))

-- regions that sound alike give the same block
pub heard_alike : (sounds : Sounds) (rs others : List Region) (channels here count n : ℕ) → (channels ≡ 1) ⊎ (channels ≡ 2) → n ≡ count * channels → SoundAlike here count rs others
    → heard_block sounds rs channels here n ≡ heard_block sounds others channels here n
heard_alike sounds rs others channels here count n few whole alike =
    same_along (λ k. clip (lay sounds (k % channels) (here + k / channels) rs)) (λ k. clip (lay sounds (k % channels) (here + k / channels) others)) 0 n
    (λ k low h. let inside : k / channels < count = frame_within k count channels n few whole (omega arith) in
    ap clip (alike sounds (k % channels) (here + k / channels) (omega arith) (omega arith)))

-- a track of regions that stand in order
pub heard_track : (sounds : Sounds) (regions : List Region) (channels from n : ℕ) → by_layer regions ≡ regions → heard_block sounds (reverse regions) channels from n ≡ track_block sounds regions channels from n
unfolding track_sample
heard_track sounds regions channels from n order = ap (λ rs. heard_block sounds (reverse rs) channels from n) (sym order)

-- ---- one span behind another

at_frame : (a j channels : ℕ) → (channels ≡ 1) ⊎ (channels ≡ 2) → (a * channels + j) / channels ≡ a + j / channels
at_frame a j channels (inl one) = rw one (omega arith)
at_frame a j channels (inr two) = rw two (omega arith)

at_channel : (a j channels : ℕ) → (channels ≡ 1) ⊎ (channels ≡ 2) → (a * channels + j) % channels ≡ j % channels
at_channel a j channels (inl one) = rw one (omega arith)
at_channel a j channels (inr two) = rw two (omega arith)

module _ (f : ℕ → ℕ → ℤ) (channels from a n : ℕ) (few : (channels ≡ 1) ⊎ (channels ≡ 2)) where
  abbrev front : List ℤ
  front = interleaved f channels from (a * channels)

  abbrev behind : List ℤ
  behind = interleaved f channels (from + a) n

  one_at : (begin m k : ℕ) → k < m → get_or (interleaved f channels begin m) k (pos 0) ≡ f (begin + k / channels) (k % channels)
  one_at begin m k h = get_or-map-range_with_len (λ i. f (begin + i / channels) (i % channels)) 0 m k k (pos 0) h (omega arith)

  long : (begin m : ℕ) → length (interleaved f channels begin m) ≡ m
  long begin m = length-map-range_with_len (λ i. f (begin + i / channels) (i % channels)) 0 m

  at : (k : ℕ) → k < a * channels + n → (k < a * channels) ⊎ (a * channels ≤ k) → get_or (front ++ behind) k (pos 0) ≡ f (from + k / channels) (k % channels)
  at k h (inl low) = get_or_append_left front behind (pos 0) k (omega (arith, long from (a * channels))) ∙ one_at from (a * channels) k low
  at k h (inr high) =
      let j : ℕ = k - a * channels in
      let same : a * channels + j ≡ k = omega arith in
      let frame : from + a + j / channels ≡ from + k / channels = omega (arith, at_frame a j channels few, ap (λ i. i / channels) same) in
      let channel : j % channels ≡ k % channels = sym (at_channel a j channels few) ∙ ap (λ i. i % channels) same in
      get_or-append_right front behind (a * channels) k (pos 0) (long from (a * channels)) high
      ∙ one_at (from + a) n j (omega arith)
      ∙ ap₂ f frame channel

  pub spans_joined : front ++ behind ≡ interleaved f channels from (a * channels + n)
  spans_joined = fill_by_all (λ k. f (from + k / channels) (k % channels)) (front ++ behind) (a * channels + n) (pos 0)
      (omega (arith, length-append front behind, long from (a * channels), long (from + a) n)) (λ k h. at k h (cases_lt k (a * channels)))

-- a span that was written behind those that are filled
pub span_more : (f : ℕ → ℕ → ℤ) (channels from done end : ℕ) (out piece : List ℤ) → (channels ≡ 1) ⊎ (channels ≡ 2) → done ≤ end → end * channels ≤ length out
    → take (done * channels) out ≡ interleaved f channels from (done * channels)
    → piece ≡ interleaved f channels (from + done) (end * channels - done * channels)
    → take (end * channels) (put_mid (done * channels) (end * channels - done * channels) out piece) ≡ interleaved f channels from (end * channels)
span_more f channels from done end out piece few rises inside so_far more =
    take-put_mid (done * channels) (end * channels - done * channels) out piece (end * channels) (omega (arith, long_piece, up)) (omega (arith, inside, up))
    ∙ ap₂ ◌++◌ so_far more
    ∙ spans_joined f channels from done (end * channels - done * channels) few
    ∙ ap (interleaved f channels from) (omega (arith, up))
  where
    up : done * channels ≤ end * channels
    up = mul-le-mul rises (omega arith)

    long_piece : length piece ≡ end * channels - done * channels
    long_piece = ap length more ∙ length-map-range_with_len (λ i. f (from + done + i / channels) (i % channels)) 0 (end * channels - done * channels)

-- ---- a region that is heard as its source has it

plain_laid : (opaque : Bool) (s : ℤ) → laid opaque (scale s unity) unity (pos 0) ≡ s
plain_laid true s = rw (scale_unity s, scale_unity s, scale-silence (pos 0)) (omega (arith, ints))
plain_laid false s = rw (scale_unity s, scale_unity s) (omega (arith, ints))

module _ (sounds : Sounds) (r : Region) (channels here count n : ℕ) (few : (channels ≡ 1) ⊎ (channels ≡ 2)) (whole : n ≡ count * channels) (span : CoversSpan here count r)
    (gain : r.gain ≡ unity) (full : IsUnfaded r.long r.fade_in r.fade_out (here - r.at) count) where
  abbrev source_at : ℕ → ℤ
  source_at k = sounds r.source (r.start + (here - r.at) + k / channels) (k % channels)

  heard_there : (k : ℕ) → k < n → IsSample (source_at k) → source_at k ≡ clip (lay sounds (k % channels) (here + k / channels) (r ∷ []))
  heard_there k h sample =
      let inside : k / channels < count = frame_within k count channels n few whole h in
      let b = span.begun in
      let there : covers r (here + k / channels) ≡ true = covers_there r here count (here + k / channels) span (omega arith) (omega arith) in
      let place : r.start + (here + k / channels) - r.at ≡ r.start + (here - r.at) + k / channels = omega arith in
      let frame : here - r.at + k / channels ≡ here + k / channels - r.at = omega arith in
      let layer : lay sounds (k % channels) (here + k / channels) (r ∷ []) ≡ source_at k =
      lay-there sounds (k % channels) (here + k / channels) r [] there
      ∙ sym (over_there sounds r (k % channels) (here + k / channels) (r.start + (here - r.at) + k / channels) unity (pos 0) there place
      (unfaded_at r here count full (k / channels) inside ∙ ap (fade r) frame))
      ∙ ap (λ g. laid r.opaque (scale (source_at k) g) unity (pos 0)) gain
      ∙ plain_laid r.opaque (source_at k) in
      sym (ap clip layer ∙ clip_sample (source_at k) sample)

  pub plain_heard : (out : List ℤ) → out ≡ interleaved (sounds r.source) channels (r.start + (here - r.at)) n → All IsSample out → out ≡ heard_block sounds (r ∷ []) channels here n
  plain_heard out e range =
      e ∙ same_along source_at (λ k. clip (lay sounds (k % channels) (here + k / channels) (r ∷ []))) 0 n
      (λ k low h. let inside : k < n = omega arith in
      let long : length out ≡ n = ap length e ∙ length-map-range_with_len source_at 0 n in
      heard_there k inside (subst IsSample (ap (λ l. get_or l k (pos 0)) e ∙ get_or-map-range_with_len source_at 0 n k k (pos 0) inside (omega arith)) (All-get_or IsSample out k (pos 0) (omega arith) range)))
