-- Frames of a source, span by span.
use Rattle.std.proofs.Common.{◌≡◌, ℕ, ◌+◌, ◌-◌, ◌*◌, ◌/◌, ◌%◌, ◌^◌, min, ◌≤◌, ◌<◌, ◌⊎◌, inl, inr, ap, arith, ◌∙◌, sym, subst, List, ◌++◌, length, take, drop, get_or, length-append}
use Rattle.std.specs.Prelude.{ℤ, pos, All}
use Rattle.std.proofs.Math.Nat.{mul-mod_left, mul-le-mul_left, mod-lt}
use Rattle.std.proofs.lemmas.Nat.{div-add-mod', div-mul-add}
use Rattle.std.proofs.lemmas.Bool.{cases_lt}
use Rattle.std.proofs.lemmas.List.{get_or_append_left, get_or-append_right, take_all, length-take-le, length-drop}
use Rattle.std.proofs.lemmas.List.Elements.{All-append}
use Rattle.std.proofs.lemmas.List.FromFn.{get_or-map-range_with_len, length-map-range_with_len, fill_by_all}
use Rattle.std.proofs.lemmas.Slice.{take-put_mid}
use borrow.Rule.Slice.PartMut.{put_mid, same_len_mid}
use Rattle.wav_codec.specs.Info.{IsFound}
use Rattle.wav_codec.specs.declared.info.WavInfo.{WavInfo}
use Rattle.session_model.specs.Frames.{interleaved, IsSample}
use Rattle.audio_source.proofs.ByteLaws.{depth_width, least_size}

pub interleaved-at : (f : ℕ → ℕ → ℤ) (channels from n k : ℕ) → k < n → get_or (interleaved f channels from n) k (pos 0) ≡ f (from + k / channels) (k % channels)
interleaved-at f channels from n k h = get_or-map-range_with_len (λ i. f (from + i / channels) (i % channels)) 0 n k k (pos 0) h (omega arith)

pub length-interleaved : (f : ℕ → ℕ → ℤ) (channels from n : ℕ) → length (interleaved f channels from n) ≡ n
length-interleaved f channels from n = length-map-range_with_len (λ i. f (from + i / channels) (i % channels)) 0 n

-- whole frames on, the frames and the channels go on
pub frame_on : (a k channels : ℕ) → 1 ≤ channels → a % channels ≡ 0 → (a + k) / channels ≡ a / channels + k / channels
frame_on a k channels h whole =
    let parts = div-add-mod' k channels in let wholes = div-add-mod' a channels in
    let sum : a + k ≡ (a / channels + k / channels) * channels + k % channels = grind arith in
    ap (λ n. n / channels) sum ∙ div-mul-add (a / channels + k / channels) channels (k % channels) (mod-lt k h)

pub channel_on : (a k channels : ℕ) → 1 ≤ channels → a % channels ≡ 0 → (a + k) % channels ≡ k % channels
channel_on a k channels h whole =
    let all = div-add-mod' (a + k) channels in let parts = div-add-mod' k channels in let wholes = div-add-mod' a channels in
    let frames = frame_on a k channels h whole in
    let product : (a + k) / channels * channels ≡ a / channels * channels + k / channels * channels = grind arith in
    omega arith

pub interleaved-append : (f : ℕ → ℕ → ℤ) (channels from a n : ℕ) → 1 ≤ channels → a % channels ≡ 0 →
    interleaved f channels from a ++ interleaved f channels (from + a / channels) n ≡ interleaved f channels from (a + n)
interleaved-append f channels from a n h whole = fill_by_all (λ k. f (from + k / channels) (k % channels)) (left ++ right) (a + n) (pos 0) long (λ k below. at k below (cases_lt k a))
  where
    left : List ℤ
    left = interleaved f channels from a

    right : List ℤ
    right = interleaved f channels (from + a / channels) n

    long : length (left ++ right) ≡ a + n
    long = omega (arith, length-append left right, length-interleaved f channels from a, length-interleaved f channels (from + a / channels) n)

    later : (j k : ℕ) → k ≡ a + j → j < n → get_or right j (pos 0) ≡ f (from + k / channels) (k % channels)
    later j k e below = interleaved-at f channels (from + a / channels) n j below
        ∙ ap (λ i. f i (j % channels)) (omega (arith, frame_on a j channels h whole, ap (λ m. m / channels) e))
        ∙ ap (λ c. f (from + k / channels) c) (sym (ap (λ m. m % channels) e ∙ channel_on a j channels h whole))

    at : (k : ℕ) → k < a + n → (k < a) ⊎ (a ≤ k) → get_or (left ++ right) k (pos 0) ≡ f (from + k / channels) (k % channels)
    at k below (inl low) = get_or_append_left left right (pos 0) k (omega (arith, length-interleaved f channels from a)) ∙ interleaved-at f channels from a k low
    at k below (inr high) = get_or-append_right left right a k (pos 0) (length-interleaved f channels from a) high ∙ later (k - a) k (omega arith) (omega arith)

-- from the end on there is nothing, wherever it is looked for
past_end : (f : ℕ → ℕ → ℤ) (end channels from n : ℕ) → ((i c : ℕ) → end ≤ i → f i c ≡ pos 0) → end ≤ from → interleaved f channels from n ≡ interleaved f channels end n
past_end f end channels from n none past = fill_by_all (λ k. f (end + k / channels) (k % channels)) (interleaved f channels from n) n (pos 0)
    (length-interleaved f channels from n)
    (λ k below. interleaved-at f channels from n k below ∙ none (from + k / channels) (k % channels) (omega arith) ∙ sym (none (end + k / channels) (k % channels) (omega arith)))

-- a first frame that is held within what a count can say
pub first_frame : (f : ℕ → ℕ → ℤ) (end channels first from top n : ℕ) → ((i c : ℕ) → end ≤ i → f i c ≡ pos 0) → first ≡ min from top → end ≤ top →
    interleaved f channels first n ≡ interleaved f channels from n
first_frame f end channels first from top n none e high = go (cases_lt from top)
  where
    go : (from < top) ⊎ (top ≤ from) → interleaved f channels first n ≡ interleaved f channels from n
    go (inl before) = ap (λ i. interleaved f channels i n) (omega arith)
    go (inr past) = past_end f end channels first n none (omega arith) ∙ sym (past_end f end channels from n none (omega arith))

-- ---- one span more

pub span_whole : (end done channels : ℕ) (out : List ℤ) → 1 ≤ channels → end ≡ min (length out) (done + 4096 * channels) → done ≤ length out → length out % channels ≡ 0 → done % channels ≡ 0 →
    length (take (end - done) (drop done out)) % channels ≡ 0
span_whole end done channels out h e within whole so_far = ap (λ m. m % channels) (length-take-le (end - done) (drop done out) (omega (arith, length-drop done out))) ∙ go (cases_lt (length out) (done + 4096 * channels))
  where
    go : (length out < done + 4096 * channels) ⊎ (done + 4096 * channels ≤ length out) → (end - done) % channels ≡ 0
    go (inl last) = let all : done + (end - done) ≡ length out = omega arith in
        sym (channel_on done (end - done) channels h so_far) ∙ ap (λ m. m % channels) all ∙ whole
    go (inr more) = let full : end - done ≡ 4096 * channels = omega arith in ap (λ m. m % channels) full ∙ mul-mod_left 4096 channels

pub end_whole : (end done channels : ℕ) (out : List ℤ) → 1 ≤ channels → end ≡ min (length out) (done + 4096 * channels) → done ≤ length out → length out % channels ≡ 0 → done % channels ≡ 0 →
    end % channels ≡ 0
end_whole end done channels out h e within whole so_far = go (cases_lt (length out) (done + 4096 * channels))
  where
    go : (length out < done + 4096 * channels) ⊎ (done + 4096 * channels ≤ length out) → end % channels ≡ 0
    go (inl last) = ap (λ m. m % channels) (omega arith) ∙ whole
    go (inr more) = let full : end ≡ done + 4096 * channels = omega arith in
        ap (λ m. m % channels) full ∙ channel_on done (4096 * channels) channels h so_far ∙ mul-mod_left 4096 channels

-- What is told so far, and a span more.
pub record IsSpanOn (end done : ℕ) (out piece : List ℤ) : Type 0 where
  pub inside : end ≤ length out
  pub rises : done ≤ end
  pub same : length piece ≡ length (take (end - done) (drop done out))

piece_long : (end done : ℕ) (out piece : List ℤ) → IsSpanOn end done out piece → length piece ≡ end - done
piece_long end done out piece s = s.same ∙ length-take-le (end - done) (drop done out) (omega (arith, length-drop done out, s.inside, s.rises))

taken : (end done : ℕ) (out piece : List ℤ) → IsSpanOn end done out piece → take end (put_mid done (end - done) out piece) ≡ take done out ++ piece
taken end done out piece s = take-put_mid done (end - done) out piece end (omega (arith, piece_long end done out piece s, s.rises)) (omega (arith, s.inside, s.rises))

pub told_more : (f : ℕ → ℕ → ℤ) (sound_end channels from first top end done : ℕ) (out piece : List ℤ) → ((i c : ℕ) → sound_end ≤ i → f i c ≡ pos 0) → sound_end ≤ top →
    1 ≤ channels → IsSpanOn end done out piece → done % channels ≡ 0 → first ≡ min (from + done / channels) top → take done out ≡ interleaved f channels from done →
    piece ≡ interleaved f channels first (length piece) → take end (put_mid done (end - done) out piece) ≡ interleaved f channels from end
told_more f sound_end channels from first top end done out piece none high low s whole at so_far more =
    taken end done out piece s
    ∙ ap (λ l. l ++ piece) so_far
    ∙ ap (λ l. interleaved f channels from done ++ l) (more ∙ ap (λ n. interleaved f channels first n) (piece_long end done out piece s)
    ∙ first_frame f sound_end channels first (from + done / channels) top (end - done) none at high)
    ∙ interleaved-append f channels from done (end - done) low whole
    ∙ ap (λ n. interleaved f channels from n) (omega (arith, s.rises))

pub range_more : (end done : ℕ) (out piece : List ℤ) → IsSpanOn end done out piece → All IsSample (take done out) → All IsSample piece → All IsSample (take end (put_mid done (end - done) out piece))
range_more end done out piece s so_far more = let K : List ℤ → Type 0 = λ l. All IsSample l in
    subst K (sym (taken end done out piece s)) (All-append IsSample (take done out) piece so_far more)

pub range_all : (done : ℕ) (out : List ℤ) → length out ≤ done → All IsSample (take done out) → All IsSample out
range_all done out all range = let K : List ℤ → Type 0 = λ l. All IsSample l in subst K (take_all done out all) range

-- a file of 32 bits has fewer frames than that
pub few_frames : (info : WavInfo) → IsFound info → info.frames < 2 ^ 32
few_frames info found =
    let size = least_size info.channels (info.bits / 8) found.form.one_channel (depth_width info.bits found.form.bits) in
    let more : info.frames * 1 ≤ info.frames * (info.channels * (info.bits / 8)) = mul-le-mul_left info.frames size in
    omega (arith, found.bytes)

pub inside_still : (end done : ℕ) (out piece : List ℤ) → IsSpanOn end done out piece → end ≤ length (put_mid done (end - done) out piece)
inside_still end done out piece s = omega (arith, same_len_mid done (end - done) out piece s.same, s.inside)
