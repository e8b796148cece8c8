-- A block through one gain, and through a gain for each frame.
use Rattle.std.proofs.Common.{◌≡◌, ℕ, ◌+◌, ◌*◌, ◌/◌, ◌<◌, ◌≤◌, ℤ, pos, List, length, get_or, take, map, All, ap, ap₂, sym, ◌∙◌, subst, arith}
use Rattle.std.specs.List.{range_with_len}
use Rattle.std.proofs.lemmas.List.{get_or-map, length-map, take_more, take_all}
use Rattle.std.proofs.lemmas.List.FromFn.{length-range_with_len, get_or-map-range_with_len}
use Rattle.std.proofs.lemmas.List.Elements.{All-get_or, All-from_get_or, All-same, All-push, All-weaker}
use Rattle.sound_model.specs.Numbers.{scale, clip}
use Rattle.sound_model.specs.Lanes.{gain_at}
use Rattle.ses_units.specs.Mode.{mode_of}
use Rattle.ramp_fixed.specs.Even.{StaysAt}
use Rattle.session_model.specs.declared.route.Route.{Route}
use Rattle.mix_kernel.specs.Blocks.{scaled, scaled_evenly, clipped, spread}
use Rattle.mix_kernel.proofs.Ranges.{same_along, frame_within}
use Rattle.route_mix.specs.Blocks.{AreFew}
use Rattle.route_mix.specs.Faders.{AreWithin, IsFaded, frame_gain}
use Rattle.route_mix.proofs.BlockLemmas.{same_block, scaled_block, clipped_block, each_scaled_block, block_back, length_block}

module _ (q : Route) (places : List ℕ) (few : AreFew q.channels) where
  abbrev at : ℕ → ℕ
  at = gain_at (mode_of q.mode) q.fader q.lane

  gain_there : (front : List ℕ) → front ≡ map at places → (i : ℕ) → i < length places → get_or front i 0 ≡ frame_gain q places i
  gain_there front is i h = ap (λ gs. get_or gs i 0) is ∙ get_or-map at places i 0 0 h

  -- gains whose front is that of the places
  pub lane_spread : (gains front : List ℕ) (n : ℕ) → n ≡ length places * q.channels → ((i : ℕ) → i < length places → get_or gains i 0 ≡ get_or front i 0) → front ≡ map at places
      → spread (λ i. get_or gains i 0) q.channels n ≡ spread (frame_gain q places) q.channels n
  lane_spread gains front n whole begins is = same_along (λ k. get_or gains (k / q.channels) 0) (λ k. frame_gain q places (k / q.channels)) 0 n
      (λ k low h. let inside : k / q.channels < length places = frame_within k (length places) q.channels n few whole (omega arith) in
      begins (k / q.channels) inside ∙ gain_there front is (k / q.channels) inside)

  pub lane_quiet : (front : List ℕ) (n m : ℕ) → n ≡ length places * q.channels → length front ≡ length places → front ≡ map at places → All (λ g. g ≤ m) front
      → All (λ g. g ≤ m) (spread (frame_gain q places) q.channels n)
  lane_quiet front n m whole long is quiet = All-from_get_or (λ g. g ≤ m) (spread (frame_gain q places) q.channels n) 0
      (λ k h. let within : k < n = omega (arith, length-map (range_with_len 0 n) (λ j. frame_gain q places (j / q.channels)), length-range_with_len 0 n) in
      let inside : k / q.channels < length places = frame_within k (length places) q.channels n few whole within in
      subst (λ g. g ≤ m) (sym (get_or-map-range_with_len (λ j. frame_gain q places (j / q.channels)) 0 n k k 0 within (omega arith) ∙ sym (gain_there front is (k / q.channels) inside)))
      (All-get_or (λ g. g ≤ m) front (k / q.channels) 0 (omega (arith, long)) quiet))

  -- one gain for all frames
  pub faded_evenly : (first last gain : ℕ) (samples post : List ℤ) → AreWithin places first last → StaysAt (mode_of q.mode) q.fader q.lane first last gain → post ≡ clipped (scaled_evenly samples gain) → IsFaded q places samples post
  faded_evenly first last gain samples post within stays is sound from =
      is ∙ ap (λ ss. clipped (scaled_evenly ss gain)) from ∙ ap clipped (scaled_block sound gain q.channels (length places)) ∙ clipped_block (λ i c. scale (sound i c) gain) q.channels (length places)
      ∙ same_block (λ i c. clip (scale (sound i c) gain)) (λ i c. clip (scale (sound i c) (frame_gain q places i))) q.channels (length places) few
      (λ i c low high. ap (λ g. clip (scale (sound i c) g)) (sym (stays (get_or places i 0) (within.from i 0 low) (within.to i 0 low))))

  -- a gain for each frame
  pub faded_along : (samples post : List ℤ) (gains : List ℕ) → gains ≡ spread (frame_gain q places) q.channels (length places * q.channels) → post ≡ clipped (scaled samples gains) → IsFaded q places samples post
  faded_along samples post gains along is sound from =
      is ∙ ap₂ (λ ss gs. clipped (scaled ss gs)) from along ∙ ap clipped (each_scaled_block sound (frame_gain q places) q.channels (length places))
      ∙ clipped_block (λ i c. scale (sound i c) (frame_gain q places i)) q.channels (length places)

  pub faded_long : (samples post : List ℤ) → length samples ≡ length places * q.channels → IsFaded q places samples post → length post ≡ length samples
  faded_long samples post long faded =
      ap length (faded sound (block_back samples q.channels (length places) few long)) ∙ length_block (λ i c. clip (scale (sound i c) (frame_gain q places i))) q.channels (length places) ∙ sym long
    where
      sound : ℕ → ℕ → ℤ
      sound i c = get_or samples (i * q.channels + c) (pos 0)

-- ---- how far places reach

pub reach_more : (places : List ℕ) (i first last sooner later : ℕ) → i < length places → sooner ≤ first → sooner ≤ get_or places i 0 → last ≤ later → get_or places i 0 ≤ later
    → AreWithin (take i places) first last → AreWithin (take (i + 1) places) sooner later
reach_more places i first last sooner later inside before here after there within = record {
  from = All-same (λ x. sooner ≤ x) _ _ (take_more places i 0 inside)
      (All-push (λ x. sooner ≤ x) (take i places) (get_or places i 0) (All-weaker (λ x. first ≤ x) (λ x. sooner ≤ x) (λ x h. omega arith) (take i places) within.from) here);
  to = All-same (λ x. x ≤ later) _ _ (take_more places i 0 inside)
      (All-push (λ x. x ≤ later) (take i places) (get_or places i 0) (All-weaker (λ x. x ≤ last) (λ x. x ≤ later) (λ x h. omega arith) (take i places) within.to) there);
}

pub reach_all : (places : List ℕ) (i first last : ℕ) → length places ≤ i → AreWithin (take i places) first last → AreWithin places first last
reach_all places i first last long within = subst (λ xs. AreWithin xs first last) (take_all i places long) within
