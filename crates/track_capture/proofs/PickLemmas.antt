-- Samples that are picked out of a block of the input.
use Rattle.std.proofs.Common.{◌≡◌, inl, inr, ℕ, zero, suc, ◌+◌, ◌*◌, ◌-◌, ◌/◌, ◌%◌, ◌<◌, ◌≤◌, true, false, List, length, get_or, set, sym, ap, arith, ◌∙◌, FitsSigned, w32, to_z, of_z}
use Rattle.std.specs.Prelude.{ℤ, pos, nat_lt, slice_index_or, if◌then◌else◌}
use Rattle.std.proofs.lemmas.Bool.{cases_lt}
use Rattle.std.proofs.lemmas.Bool.Decides.{nat_tests}
use Rattle.std.proofs.lemmas.Int.{to_z-of_z}
use Rattle.std.proofs.lemmas.List.Edits.{fill_by_more}
use Rattle.std.proofs.lemmas.List.FromFn.{fill_by_all, get_or-map-range_with_len, length-map-range_with_len}
use Rattle.std.proofs.lemmas.Nat.{mul-add-lt, mul-le, div-mul-add, mod-mul-add, div_below}
use Rattle.std.proofs.Math.Nat.{mod-add-div'}
use Rattle.session_model.specs.declared.session.Session.{Session}
use Rattle.session_model.specs.Formed.{channels_at}
use Rattle.session_model.specs.Frames.{interleaved}
use Rattle.engine_model.specs.Takes.{Input, first_channel, input_block}
use Rattle.track_capture.specs.Picked.{sample_of, picked}

pub interleaved_long : (f : ℕ → ℕ → ℤ) (channels a n : ℕ) → length (interleaved f channels a n) ≡ n
interleaved_long f channels a n = length-map-range_with_len (λ k. f (a + k / channels) (k % channels)) 0 n

pub interleaved_at : (f : ℕ → ℕ → ℤ) (channels a n k : ℕ) → k < n → get_or (interleaved f channels a n) k (pos 0) ≡ f (a + k / channels) (k % channels)
interleaved_at f channels a n k lt = get_or-map-range_with_len (λ j. f (a + j / channels) (j % channels)) 0 n k k (pos 0) lt (omega arith)

-- one more sample is written
pub written_more : (f : ℕ → ℤ) (out : List ℤ) (i : ℕ) (v : ℤ) → i < length out → FitsSigned w32 v → v ≡ f i → ((k : ℕ) → k < i → get_or out k (pos 0) ≡ f k) →
    (k : ℕ) → k < i + 1 → get_or (set out i (to_z w32 (of_z w32 v))) k (pos 0) ≡ f k
written_more f out i v lt fits e so_far = rw (to_z-of_z w32 v fits ∙ e) (fill_by_more f out i (pos 0) lt so_far)

-- samples that are each those of their frame and channel
pub interleaved_filled : (f : ℕ → ℕ → ℤ) (channels a n : ℕ) (out : List ℤ) → length out ≡ n → ((k : ℕ) → k < n → get_or out k (pos 0) ≡ f (a + k / channels) (k % channels)) →
    out ≡ interleaved f channels a n
interleaved_filled f channels a n out long each = fill_by_all (λ k. f (a + k / channels) (k % channels)) out n (pos 0) long each

-- there is a channel where there is a sample
pub some_channel : (k m channels : ℕ) → k < m * channels → 0 < channels
some_channel k m zero lt = absurd (grind (arith, lt))
some_channel k m (suc c) lt = omega arith

pub rem_below : (k channels : ℕ) → 0 < channels → k % channels < channels
rem_below k channels some = omega arith

-- so many frames are the same where they agree in each channel
pub same_frames : (f h : ℕ → ℕ → ℤ) (channels a b m : ℕ) → ((i c : ℕ) → i < m → c < channels → f (a + i) c ≡ h (b + i) c) →
    interleaved f channels a (m * channels) ≡ interleaved h channels b (m * channels)
same_frames f h channels a b m agree = fill_by_all (λ k. h (b + k / channels) (k % channels)) (interleaved f channels a (m * channels)) (m * channels) (pos 0)
    (interleaved_long f channels a (m * channels))
    (λ k lt. let some = some_channel k m channels lt in interleaved_at f channels a (m * channels) k lt
    ∙ agree (k / channels) (k % channels) (div_below k channels m some lt) (rem_below k channels some))

pub sample_within : (channels : ℕ) (samples : List ℤ) (i c : ℕ) → c < channels → sample_of channels samples i c ≡ slice_index_or samples (i * channels + c) (pos 0)
sample_within channels samples i c near = let is : nat_lt c channels ≡ true = grind (arith, nat_tests) in ap (λ b. if b then slice_index_or samples (i * channels + c) (pos 0) else pos 0) is

pub sample_beside : (channels : ℕ) (samples : List ℤ) (i c : ℕ) → channels ≤ c → sample_of channels samples i c ≡ pos 0
sample_beside channels samples i c far = let is : nat_lt c channels ≡ false = grind (arith, nat_tests) in ap (λ b. if b then slice_index_or samples (i * channels + c) (pos 0) else pos 0) is

swapped : (x y : ℕ) → x * y ≡ y * x
swapped x y = grind arith

pub from_zero : (x : ℕ) → 0 + x ≡ x
from_zero x = omega arith

-- the sample is among those of the block
pub is_there : (block channels w f k n : ℕ) → n ≡ block * channels → 0 < w → k < block * w → f + k % w < channels → (k / w) * channels + (f + k % w) < n
is_there block channels w f k n long some lt near = omega (arith, mul-add-lt (k / w) channels (f + k % w) block (div_below k w block some lt) near, swapped channels block, long)

-- ---- the place of a sample, counted on

one_more : (a b : ℕ) → (a + 1) * b ≡ a * b + b
one_more a b = grind arith

-- the place of sample k of a track's block, from channel f on, is near the samples of the input's block
pub place_near : (block channels w f k n place : ℕ) → n ≡ block * channels → 0 < w → k < block * w → place ≡ k / w * channels + (f + k % w) → place + channels ≤ n + f + w
place_near block channels w f k n place long some lt is = omega (arith, is, long, mul-le (k / w + 1) channels block channels (omega (arith, div_below k w block some lt)) (omega arith), one_more (k / w) channels, rem_below k w some)

within_next : (k w : ℕ) → k % w + 1 < w → (k + 1) / w ≡ k / w
within_next k w near = ap (λ n. n / w) (omega (arith, mod-add-div' k w)) ∙ div-mul-add (k / w) w (k % w + 1) near

within_rest : (k w : ℕ) → k % w + 1 < w → (k + 1) % w ≡ k % w + 1
within_rest k w near = ap (λ n. n % w) (omega (arith, mod-add-div' k w)) ∙ mod-mul-add (k / w) w (k % w + 1) near

frame_end : (k w : ℕ) → k % w + 1 ≡ w → k + 1 ≡ (k / w + 1) * w + 0
frame_end k w last = omega (arith, mod-add-div' k w, one_more (k / w) w, last)

over_next : (k w : ℕ) → 0 < w → k % w + 1 ≡ w → (k + 1) / w ≡ k / w + 1
over_next k w some last = ap (λ n. n / w) (frame_end k w last) ∙ div-mul-add (k / w + 1) w 0 some

over_rest : (k w : ℕ) → 0 < w → k % w + 1 ≡ w → (k + 1) % w ≡ 0
over_rest k w some last = ap (λ n. n % w) (frame_end k w last) ∙ mod-mul-add (k / w + 1) w 0 some

-- the place and the channel of the next sample
pub place_next : (k w f channels place channel : ℕ) (to : ℕ × ℕ) → 0 < w → place ≡ k / w * channels + (f + k % w) → channel ≡ k % w →
    (channel + 1 < w → to ≡ (place + 1, channel + 1)) → (channel + 1 ≡ w → to ≡ (place - channel + channels, 0)) →
    (to.0 ≡ (k + 1) / w * channels + (f + (k + 1) % w)) × (to.1 ≡ (k + 1) % w)
place_next k w f channels place channel to some at c within over = elim (cases_lt (channel + 1) w) [
  | inl near ↦ let e = within_next k w (omega (arith, near, c)) in let r = within_rest k w (omega (arith, near, c)) in
      (ap (λ p. p.0) (within near) ∙ omega (arith, at, r) ∙ ap (λ a. a * channels + (f + (k + 1) % w)) (sym e), ap (λ p. p.1) (within near) ∙ omega (arith, c, r))
  | inr far ↦ let last : channel + 1 ≡ w = omega (arith, far, c, rem_below k w some) in let e = over_next k w some (omega (arith, last, c)) in let r = over_rest k w some (omega (arith, last, c)) in
      (ap (λ p. p.0) (over last) ∙ omega (arith, at, c, r, one_more (k / w) channels) ∙ ap (λ a. a * channels + (f + (k + 1) % w)) (sym e), ap (λ p. p.1) (over last) ∙ sym r)
]

-- a sample of the block that the input has from frame a on
pub input_sample : (input : Input) (channels a n : ℕ) (samples : List ℤ) → ((i k : ℕ) → channels ≤ k → input i k ≡ pos 0) →
    samples ≡ interleaved input channels a (n * channels) → (i c : ℕ) → i < n → sample_of channels samples i c ≡ input (a + i) c
input_sample input channels a n samples silent same i c lt = elim (cases_lt c channels) [
  | inl near ↦ sample_within channels samples i c near ∙ ap (λ l. get_or l (i * channels + c) (pos 0)) same
      ∙ interleaved_at input channels a (n * channels) (i * channels + c) (omega (arith, mul-add-lt i channels c n lt near, swapped channels n))
      ∙ ap (λ k. input (a + k) ((i * channels + c) % channels)) (div-mul-add i channels c near) ∙ ap (λ k. input (a + i) k) (mod-mul-add i channels c near)
  | inr far ↦ sample_beside channels samples i c far ∙ sym (silent (a + i) c far)
]

pub picked_is : (s : Session) (input : Input) (t channels c : ℕ) (samples : List ℤ) → ((i k : ℕ) → channels ≤ k → input i k ≡ pos 0) →
    samples ≡ interleaved input channels (c * s.block) (s.block * channels) → picked s t channels samples ≡ input_block s input t c
picked_is s input t channels c samples silent same =
    same_frames (λ i k. sample_of channels samples i (first_channel s t + k)) (λ i k. input i (first_channel s t + k)) (channels_at s t) 0 (c * s.block) s.block
    (λ i k lt near. ap (λ j. sample_of channels samples j (first_channel s t + k)) (from_zero i) ∙ input_sample input channels (c * s.block) s.block samples silent same i (first_channel s t + k) lt)
