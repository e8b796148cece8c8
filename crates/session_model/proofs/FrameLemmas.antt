-- The frames of a source that stand one after another as samples.
use Rattle.std.proofs.Common.{◌≡◌, ◌≢◌, ℕ, ◌+◌, ◌*◌, ◌/◌, ◌%◌, ◌^◌, min, ◌≤◌, ◌<◌, List, [], length, take, drop, get_or, set, All, IsTrue, refl, ap, ap₂, sym, ◌∙◌, subst, slice_index, arith, below_more, get_or-set_other, get_or-set_same}
use Rattle.std.specs.Prelude.{ℤ, pos}
use Rattle.std.proofs.lemmas.List.{length-map}
use Rattle.std.proofs.Math.Nat.{div-le_self, mod-lt}
use Rattle.std.proofs.lemmas.Bool.Decides.{nat_tests}
use Rattle.std.proofs.lemmas.List.{get_or-take, get_or-drop, get_or_past, get_or_default, get_or-map}
use Rattle.std.proofs.lemmas.List.FromFn.{get_or-map-range_with_len, length-map-range_with_len, fill_by_all}
use Rattle.session_model.specs.Frames.{sample_of, sounds_of, interleaved}
use Rattle.session_model.specs.MemFrames.{Sound, frames_of, is_sound, told_in, channels_in}

abbrev frame : Sound → ℕ → List ℤ
frame s i = take s.channels (drop (i * s.channels) s.samples)

-- past the last frame there is silence
pub sample_of-past : (s : Sound) (i c : ℕ) → length s.samples / s.channels ≤ i → sample_of (frames_of s) i c ≡ pos 0
sample_of-past s i c past =
    let none : get_or (frames_of s) i [] ≡ [] = get_or_past (frames_of s) i [] (omega (arith, length-map-range_with_len (frame s) 0 (length s.samples / s.channels))) in
    ap (λ f. get_or f c (pos 0)) none ∙ get_or_past [] c (pos 0) (omega arith)

-- a sample of a frame stands among the samples
pub sample_of-within : (s : Sound) (i c : ℕ) → i < length s.samples / s.channels → c < s.channels → sample_of (frames_of s) i c ≡ get_or s.samples (i * s.channels + c) (pos 0)
sample_of-within s i c here few =
    let one : get_or (frames_of s) i [] ≡ frame s i = get_or-map-range_with_len (frame s) 0 (length s.samples / s.channels) i i [] here (omega arith) in
    ap (λ f. get_or f c (pos 0)) one
    ∙ get_or-take s.channels (drop (i * s.channels) s.samples) c (pos 0) few
    ∙ get_or-drop (i * s.channels) s.samples c (pos 0)

-- samples that are each what the frames hold are the interleaved frames
pub interleaved-filled : (sound : ℕ → ℕ → ℤ) (channels from : ℕ) (out : List ℤ) → ((k : ℕ) → k < length out → get_or out k (pos 0) ≡ sound (from + k / channels) (k % channels)) → out ≡ interleaved sound channels from (length out)
interleaved-filled sound channels from out h = fill_by_all (λ k. sound (from + k / channels) (k % channels)) out (length out) (pos 0) refl h

-- a sum of frames that 64 bits don't hold lies past every source
pub sample_of-far : (s : Sound) (from k frame : ℕ) → frame ≡ min (from + k / s.channels) 18446744073709551615 → length s.samples < 2 ^ 64 → length s.samples / s.channels ≤ frame
    → pos 0 ≡ sample_of (frames_of s) (from + k / s.channels) (k % s.channels)
sample_of-far s from k frame same short past = sym (sample_of-past s (from + k / s.channels) (k % s.channels) (omega arith))

pub sample_of-near : (s : Sound) (from k frame : ℕ) → frame ≡ min (from + k / s.channels) 18446744073709551615 → length s.samples < 2 ^ 64 → frame < length s.samples / s.channels → 0 < s.channels
    → get_or s.samples (frame * s.channels + k % s.channels) (pos 0) ≡ sample_of (frames_of s) (from + k / s.channels) (k % s.channels)
sample_of-near s from k frame same short here some =
    let few : length s.samples / s.channels ≤ length s.samples = div-le_self (length s.samples) s.channels in
    let exact : frame ≡ from + k / s.channels = omega arith in
    sym (sample_of-within s frame (k % s.channels) here (mod-lt k some)) ∙ ap (λ i. sample_of (frames_of s) i (k % s.channels)) exact

pub some_channel : (channels : ℕ) (samples : List ℤ) → IsTrue (is_sound channels samples) → 0 < channels
some_channel channels samples h = grind (arith, nat_tests)

-- ---- a list that is filled from its front

pub filled_more : (P : ℕ → ℤ → Type 0) (out : List ℤ) (i : ℕ) (x : ℤ) → i < length out → ((k : ℕ) → k < i → P k (get_or out k (pos 0))) → P i x → (k : ℕ) → k < i + 1 → P k (get_or (set out i x) k (pos 0))
filled_more P out i x here below now =
    let P' : ℕ → Type 0 = λ k. P k (get_or (set out i x) k (pos 0)) in
    below_more P' i
    (λ k h. let ne : k ≢ i = omega arith in rw get_or-set_other (below k h))
    (rw get_or-set_same now)

pub all_filled : (P : ℤ → Type 0) (out : List ℤ) (n : ℕ) → length out ≤ n → ((k : ℕ) → k < n → P (get_or out k (pos 0))) → All P out
all_filled P out n long h k d l = subst P (get_or_default out k (pos 0) d l) (h k (omega arith))

-- ---- one source among others

pub interleaved-at : (sources : List Sound) (s : ℕ) (x : Sound) → x ≡ get_or sources s x → s < length (channels_in sources) → (from n : ℕ)
    → interleaved (sample_of (frames_of x)) x.channels from n ≡ interleaved (sounds_of (told_in sources) s) (slice_index (channels_in sources) s) from n
interleaved-at sources s x here within from n =
    ap₂ (λ frames channels. interleaved (sample_of frames) channels from n) frames_are channels_are
  where
    among : s < length sources
    among = omega (arith, length-map sources (λ (q : Sound). q.channels), within)

    frames_are : frames_of x ≡ get_or (told_in sources) s []
    frames_are = ap frames_of here ∙ sym (get_or-map frames_of sources s x [] among)

    channels_are : x.channels ≡ get_or (channels_in sources) s 0
    channels_are = ap (λ (q : Sound). q.channels) here ∙ sym (get_or-map (λ (q : Sound). q.channels) sources s x 0 among)
