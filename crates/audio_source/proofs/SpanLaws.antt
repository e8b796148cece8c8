-- Frames that lie side by side in a file are its sound.
use Rattle.std.proofs.Common.{◌≡◌, ℕ, suc, ◌+◌, ◌-◌, ◌*◌, ◌/◌, ◌%◌, min, ◌≤◌, ◌<◌, ◌⊎◌, inl, inr, ap, arith, ◌∙◌, sym, List, ◌++◌, length, take, drop, get_or, replicate}
use Rattle.std.specs.Prelude.{ℤ, pos}
use Rattle.std.proofs.lemmas.Bool.{cases_lt}
use Rattle.std.proofs.Math.Nat.{mul-le-mul_right, mod-lt}
use Rattle.std.proofs.lemmas.Nat.{div-add-mod'}
use Rattle.std.proofs.lemmas.List.{length-take-le, length-drop, get_or_append_left, get_or-append_right, get_or-replicate, length-replicate, length-append}
use Rattle.std.proofs.lemmas.List.FromFn.{get_or-map-range_with_len, length-map-range_with_len, fill_by_all}
use Rattle.sound_model.specs.Numbers.{sample_at}
use Rattle.sound_model.specs.Wav.{Head, align, sound}
use Rattle.wav_codec.specs.Samples.{samples_of}
use Rattle.session_model.specs.Frames.{interleaved}
use Rattle.audio_source.specs.Spans.{frame_place, IsPieceAt}
use Rattle.audio_source.proofs.FrameLaws.{sound_inside, sound_past, sound_cut}
use Rattle.audio_source.proofs.ByteLaws.{IsDepth, sample_there, place_is, frames_on, frames_of_bytes, samples_of_bytes, below_frame, past_frame, fewer_frames, more_bytes, next_bytes, least_size, depth_width}

-- ---- a stretch of frames

-- What was read, and what was made of it: of `wanted` frames of the file from one on, n bytes of whole frames in the buffer.
pub record IsStretch (h : Head) (b : List ℕ) (from many wanted n : ℕ) (buf bytes : List ℕ) (out : List ℤ) : Type 0 where
  pub depth : IsDepth h.form.bits
  pub channels : 1 ≤ h.form.channels
  pub inside : from ≤ h.frames
  pub wholes : many % h.form.channels ≡ 0
  -- as many as are asked for, and no more than are told
  pub wanted_are : wanted ≡ min (h.frames - from) (many / h.form.channels)
  pub room : length buf ≡ wanted * align h.form
  pub few : n ≤ length buf
  pub whole : n % align h.form ≡ 0
  pub piece : IsPieceAt h b from buf n
  pub bytes_are : bytes ≡ take n buf
  pub out_is : out ≡ samples_of h.form.bits (length bytes / (h.form.bits / 8)) bytes ++ replicate (many - length bytes / (h.form.bits / 8)) (pos 0)

-- the frames that were read
abbrev read_frames : Head → ℕ → ℕ
read_frames h n = n / align h.form

width_least : {h : Head} {b : List ℕ} {from many wanted n : ℕ} {buf bytes : List ℕ} {out : List ℤ} → IsStretch h b from many wanted n buf bytes out → 1 ≤ h.form.bits / 8
width_least {h} s = depth_width h.form.bits s.depth

size_least : {h : Head} {b : List ℕ} {from many wanted n : ℕ} {buf bytes : List ℕ} {out : List ℤ} → IsStretch h b from many wanted n buf bytes out → 1 ≤ align h.form
size_least {h} s = least_size h.form.channels (h.form.bits / 8) s.channels (width_least s)

-- their bytes
all_bytes : {h : Head} {b : List ℕ} {from many wanted n : ℕ} {buf bytes : List ℕ} {out : List ℤ} → IsStretch h b from many wanted n buf bytes out → read_frames h n * align h.form ≡ n
all_bytes {h} {n = n} s = frames_of_bytes n (align h.form) s.whole

-- their samples
all_samples : {h : Head} {b : List ℕ} {from many wanted n : ℕ} {buf bytes : List ℕ} {out : List ℤ} → IsStretch h b from many wanted n buf bytes out →
    length bytes / (h.form.bits / 8) ≡ read_frames h n * h.form.channels
all_samples {h} {n = n} {buf = buf} {bytes = bytes} s =
    ap (λ m. m / (h.form.bits / 8)) (ap length s.bytes_are ∙ length-take-le n buf s.few ∙ sym (all_bytes s))
    ∙ samples_of_bytes (read_frames h n) h.form.channels (h.form.bits / 8) (width_least s)

-- no more than are asked for
frames_few : {h : Head} {b : List ℕ} {from many wanted n : ℕ} {buf bytes : List ℕ} {out : List ℤ} → IsStretch h b from many wanted n buf bytes out → read_frames h n ≤ wanted
frames_few {h} {wanted = wanted} {n = n} s = fewer_frames (read_frames h n) wanted (align h.form) (size_least s) (omega (arith, all_bytes s, s.room, s.few))

-- what stands in the place of a sample that was read
there : {h : Head} {b : List ℕ} {from many wanted n : ℕ} {buf bytes : List ℕ} {out : List ℤ} (s : IsStretch h b from many wanted n buf bytes out) (k : ℕ) → k < read_frames h n * h.form.channels →
    sample_at h.form.bits (drop (k * (h.form.bits / 8)) bytes) ≡ sound h b (from + k / h.form.channels) (k % h.form.channels)
there {h} {b} {from} {many} {wanted} {n} {buf} {bytes} s k low =
    ap (λ xs. sample_at h.form.bits (drop (k * width) xs)) (s.bytes_are ∙ s.piece.front)
    ∙ sample_there h.form.bits (frame_place h from) (k * width) n b s.depth enough
    ∙ ap (λ p. sample_at h.form.bits (drop p b)) place
    ∙ sym (sound_inside h b (from + i) c frame channel within)
  where
    width : ℕ
    width = h.form.bits / 8

    i : ℕ
    i = k / h.form.channels

    c : ℕ
    c = k % h.form.channels

    before : i < read_frames h n
    before = below_frame k (read_frames h n) h.form.channels s.channels low

    whole : i * align h.form + align h.form ≤ n
    whole = omega (arith, next_bytes i (read_frames h n) (align h.form) before, all_bytes s)

    parts : k ≡ i * h.form.channels + c
    parts = sym (div-add-mod' k h.form.channels)

    enough : k * width + width ≤ n
    enough = let up : suc k * width ≤ read_frames h n * h.form.channels * width = mul-le-mul_right width low in
        let same : read_frames h n * h.form.channels * width ≡ read_frames h n * (h.form.channels * width) = grind arith in
        omega (arith, all_bytes s)

    place : frame_place h from + k * width ≡ frame_place h (from + i) + c * width
    place = ap (λ m. frame_place h from + m * width) parts ∙ place_is (frame_place h from) i c h.form.channels width
        ∙ ap (λ m. m + c * width) (sym (frames_on h.data_at from i (align h.form)))

    frame : from + i < h.frames
    frame = omega (arith, before, frames_few s, s.wanted_are, s.inside)

    channel : c < h.form.channels
    channel = mod-lt k s.channels

    within : h.data_at + (from + i) * align h.form + align h.form ≤ length b
    within = omega (arith, whole, size_least s, s.piece.within, length-drop (frame_place h from) b, frames_on h.data_at from i (align h.form))

-- behind them there is no frame
behind : {h : Head} {b : List ℕ} {from many wanted n : ℕ} {buf bytes : List ℕ} {out : List ℤ} (s : IsStretch h b from many wanted n buf bytes out) (k : ℕ) → read_frames h n * h.form.channels ≤ k → k < many →
    sound h b (from + k / h.form.channels) (k % h.form.channels) ≡ pos 0
behind {h} {b} {from} {many} {wanted} {n} {buf} {bytes} s k high asked = go s.piece.all
  where
    i : ℕ
    i = k / h.form.channels

    after : read_frames h n ≤ i
    after = past_frame k (read_frames h n) h.form.channels s.channels high

    bytes_after : n ≤ i * align h.form
    bytes_after = omega (arith, more_bytes (read_frames h n) i (align h.form) after, all_bytes s)

    all_asked : many / h.form.channels * h.form.channels ≡ many
    all_asked = frames_of_bytes many h.form.channels s.wholes

    before_all : i < many / h.form.channels
    before_all = below_frame k (many / h.form.channels) h.form.channels s.channels (omega (arith, all_asked))

    full : n ≡ length buf → h.frames ≤ from + i
    full e = let same : wanted ≤ read_frames h n = fewer_frames wanted (read_frames h n) (align h.form) (size_least s) (omega (arith, all_bytes s, s.room)) in
        omega (arith, after, before_all, s.wanted_are)

    go : (n ≡ length buf) ⊎ (length (drop (frame_place h from) b) < n + align h.form) → sound h b (from + i) (k % h.form.channels) ≡ pos 0
    go (inl e) = sound_past h b (from + i) (k % h.form.channels) (full e)
    go (inr e) = sound_cut h b (from + i) (k % h.form.channels) (omega (arith, bytes_after, length-drop (frame_place h from) b, frames_on h.data_at from i (align h.form)))

pub stretch : (h : Head) (b : List ℕ) (from many wanted n : ℕ) (buf bytes : List ℕ) (out : List ℤ) → IsStretch h b from many wanted n buf bytes out →
    out ≡ interleaved (sound h b) h.form.channels from many
stretch h b from many wanted n buf bytes out s = s.out_is ∙ fill_by_all value made many (pos 0) long (λ k asked. at k asked (cases_lt k many_read))
  where
    value : ℕ → ℤ
    value k = sound h b (from + k / h.form.channels) (k % h.form.channels)

    many_read : ℕ
    many_read = read_frames h n * h.form.channels

    front : List ℤ
    front = samples_of h.form.bits (length bytes / (h.form.bits / 8)) bytes

    made : List ℤ
    made = front ++ replicate (many - length bytes / (h.form.bits / 8)) (pos 0)

    long_front : length front ≡ many_read
    long_front = length-map-range_with_len (λ i. sample_at h.form.bits (drop (i * (h.form.bits / 8)) bytes)) 0 (length bytes / (h.form.bits / 8)) ∙ all_samples s

    fits : many_read ≤ many
    fits = omega (arith, more_bytes (read_frames h n) (many / h.form.channels) h.form.channels (omega (arith, frames_few s, s.wanted_are)), frames_of_bytes many h.form.channels s.wholes)

    long : length made ≡ many
    long = omega (arith, length-append front (replicate (many - length bytes / (h.form.bits / 8)) (pos 0)), length-replicate (many - length bytes / (h.form.bits / 8)) (pos 0), long_front, all_samples s, fits)

    at : (k : ℕ) → k < many → (k < many_read) ⊎ (many_read ≤ k) → get_or made k (pos 0) ≡ value k
    at k asked (inl low) = get_or_append_left front (replicate (many - length bytes / (h.form.bits / 8)) (pos 0)) (pos 0) k (omega (arith, long_front))
        ∙ get_or-map-range_with_len (λ i. sample_at h.form.bits (drop (i * (h.form.bits / 8)) bytes)) 0 (length bytes / (h.form.bits / 8)) k k (pos 0) (omega (arith, all_samples s)) (omega arith)
        ∙ there s k low
    at k asked (inr high) = get_or-append_right front (replicate (many - length bytes / (h.form.bits / 8)) (pos 0)) many_read k (pos 0) long_front high
        ∙ get_or-replicate (many - length bytes / (h.form.bits / 8)) (k - many_read) (pos 0) (pos 0) (omega (arith, all_samples s, fits))
        ∙ sym (behind s k high asked)
