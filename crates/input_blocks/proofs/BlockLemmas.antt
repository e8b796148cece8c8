-- A block of the input by its place.
use Rattle.std.proofs.Common.{◌≡◌, ℕ, ◌+◌, ◌*◌, ◌/◌, ◌%◌, min, ◌≤◌, ◌<◌, ◌⊎◌, inl, inr, ap, arith, ◌∙◌, sym, subst, List, length}
use Rattle.std.specs.Prelude.{ℤ, map}
use Rattle.std.specs.List.{range_with_len}
use Rattle.std.proofs.Math.Path.{fun_ext}
use Rattle.std.proofs.Math.Nat.{mul-div_cancel, mul-mod_left}
use Rattle.std.proofs.lemmas.Nat.{mul-le}
use Rattle.std.proofs.lemmas.Bool.{cases_lt}
use Rattle.sound_model.specs.Wav.{Head}
use Rattle.ses_io.specs.Outside.{SourceOutside}
use Rattle.wav_codec.specs.declared.info.WavInfo.{WavInfo}
use Rattle.session_model.specs.Frames.{interleaved}
use Rattle.audio_source.proofs.FrameLaws.{sound_past}
use Rattle.input_blocks.specs.Rest.{StreamForm, rest_sound}
use Rattle.input_blocks.specs.Front.{HasRoom}
use Rattle.input_blocks.specs.State.{InputState, SoFar, IsReadTo, next_block, IsCutShort}
use Rattle.input_blocks.specs.Kept.{IsKept}

-- ---- the buffers

-- they have room for the next block
pub has_room : {info : WavInfo} {block asked : ℕ} {bytes : List ℕ} {samples : List ℤ} (n m : ℕ) → IsKept info block asked bytes samples → n ≡ length bytes → m ≡ length samples →
    HasRoom info asked n m
has_room {info} {block} n m kept all e = let long : m ≡ block * info.channels = e ∙ kept.long in
    record {
      found = kept.found;
      inside = kept.done;
      whole = ap (λ k. k % info.channels) long ∙ mul-mod_left block info.channels;
      room = omega (arith, all, e, kept.room);
      few = omega (arith, long, mul-le block info.channels 4096 8 kept.few kept.found.form.eight_channels);
    }

-- their frames are those of a block
pub block_of : {info : WavInfo} {block asked : ℕ} {bytes : List ℕ} {samples : List ℤ} (m : ℕ) → IsKept info block asked bytes samples → m ≡ length samples → m / info.channels ≡ block
block_of {info} {block} m kept e = ap (λ k. k / info.channels) (e ∙ kept.long) ∙ mul-div_cancel block kept.found.form.one_channel

-- what a failed read leaves, by the input as contracts see it
pub short_of : {I : Type 0} {outside : SourceOutside I} {was old new : InputState I} → was ≡ old → IsCutShort outside was new → IsCutShort outside old new
short_of {outside = outside} {new = new} e short = subst (λ s. IsCutShort outside s new) e short

-- ---- the frames

abbrev head_told : StreamForm → Head
head_told stream = record { form = stream.form; data_at = 0; frames = stream.frames }

-- past the last frame each place is as silent as any other
pub same_block : (stream : StreamForm) (start : List ℕ) (channels done place n : ℕ) → done ≡ min place stream.frames →
    interleaved (rest_sound stream start) channels done n ≡ interleaved (rest_sound stream start) channels place n
same_block stream start channels done place n e = go (cases_lt stream.frames place)
  where
    on : ℕ → ℕ → ℤ
    on from k = rest_sound stream start (from + k / channels) (k % channels)

    silent : stream.frames ≤ place → done ≡ stream.frames → on done ≡ on place
    silent past end = fun_ext (λ k. sound_past (head_told stream) start (done + k / channels) (k % channels) (omega arith)
        ∙ sym (sound_past (head_told stream) start (place + k / channels) (k % channels) (omega arith)))

    go : (stream.frames < place) ⊎ (place ≤ stream.frames) → interleaved (rest_sound stream start) channels done n ≡ interleaved (rest_sound stream start) channels place n
    go (inl past) = ap (λ (f : ℕ → ℤ). map f (range_with_len 0 n)) (silent (omega arith) (omega (arith, e)))
    go (inr before) = ap (λ from. interleaved (rest_sound stream start) channels from n) (omega (arith, e))

-- so the samples that are read from where the input stands are the next block
pub next_of : {I : Type 0} {outside : SourceOutside I} {at : SoFar} {was old : InputState I} (n : ℕ) → was ≡ old → IsReadTo outside at old → n ≡ was.block * was.stream.form.channels →
    interleaved (rest_sound was.stream at.start) was.stream.form.channels was.done n ≡ next_block at old
next_of {outside = outside} {at = at} {was = was} n same read long = let place = subst (IsReadTo outside at) (sym same) read in
    ap (λ k. interleaved (rest_sound was.stream at.start) was.stream.form.channels was.done k) long
    ∙ same_block was.stream at.start was.stream.form.channels was.done (at.blocks * was.block) (was.block * was.stream.form.channels) place.done
    ∙ ap (next_block at) same
