-- What was read, in whole frames, and what is left behind it.
use Rattle.std.proofs.Common.{◌≡◌, ℕ, ◌+◌, ◌-◌, ◌*◌, ◌/◌, ◌%◌, min, ◌≤◌, ◌<◌, ◌⊎◌, inl, inr, ap, arith, ◌∙◌, sym, subst, zero-add, List, length, take, drop}
use Rattle.std.specs.Prelude.{Result, Ok, Err, OnErr}
use Rattle.std.proofs.lemmas.Bool.{cases_lt}
use Rattle.std.proofs.Math.Nat.{mod-lt, div-mul-le_self}
use Rattle.std.proofs.lemmas.Nat.{div-add-mod'}
use Rattle.std.proofs.lemmas.List.{drop-drop}
use Rattle.sound_model.specs.Wav.{Form, align}
use Rattle.ses_io.specs.Streams.{Takes}
use Rattle.wav_codec.specs.declared.info.WavInfo.{WavInfo}
use Rattle.audio_source.specs.Spans.{IsPieceAt}
use Rattle.audio_source.proofs.ByteLaws.{take-take, frames_of_bytes, bytes_fit}
use Rattle.input_blocks.specs.Front.{IsFront, HasRoom}
use Rattle.input_blocks.specs.State.{LosesFewer}

pub after_a_fault : {T E P : Type 0} (r : Result T E) → P → OnErr r P
after_a_fault (Ok x) p = tt
after_a_fault (Err e) p = p

-- the whole frames of the bytes that were read
pub front_of : {size n : ℕ} {before after buf : List ℕ} → 1 ≤ size → length buf % size ≡ 0 → Takes before after buf n → n ≡ min (length buf) (length before) →
    IsFront size before buf (n / size * size)
front_of {size} {n} {before} {after} {buf} some wholes takes all =
    record {
      within = omega (arith, takes.enough, down);
      front = sym (take-take n (n / size * size) buf down) ∙ ap (take (n / size * size)) takes.front ∙ take-take n (n / size * size) before down;
      all = go (cases_lt (length before) (length buf));
    }
  where
    down : n / size * size ≤ n
    down = div-mul-le_self n size

    go : (length before < length buf) ⊎ (length buf ≤ length before) → (n / size * size ≡ length buf) ⊎ (length before < n / size * size + size)
    go (inl fewer) = inr (omega (arith, all, div-add-mod' n size, mod-lt n some))
    go (inr enough) = let full : n ≡ length buf = omega (arith, all) in inl (frames_of_bytes n size (subst (λ k. k % size ≡ 0) (sym full) wholes) ∙ full)

-- the bytes that are asked for have room
pub fit : {info : WavInfo} {from bytes many : ℕ} (frames : ℕ) → HasRoom info from bytes many → frames ≡ min (info.frames - from) (many / info.channels) →
    frames * info.channels * (info.bits / 8) ≤ bytes
fit {info} {from} {bytes} {many} frames has e = bytes_fit frames many info.channels info.bits bytes has.found.form.bits (omega (arith, e)) has.room

-- the same as a piece of the data that began with `start`
pub piece_of : (form : Form) (frames from n : ℕ) (start left buf : List ℕ) → left ≡ drop (from * align form) start → IsFront (align form) left buf n →
    IsPieceAt (record { form = form; data_at = 0; frames = frames }) start from buf n
piece_of form frames from n start left buf place front =
    let same : left ≡ drop (0 + from * align form) start = place ∙ ap (λ k. drop k start) (sym (zero-add (from * align form))) in
    record {
      within = subst (λ (xs : List ℕ). n ≤ length xs) same front.within;
      front = front.front ∙ ap (take n) same;
      all = subst (λ (xs : List ℕ). (n ≡ length buf) ⊎ (length xs < n + align form)) same front.all;
    }

-- behind further frames
pub further_on : (from many channels width asked : ℕ) (start left after : List ℕ) → left ≡ drop (from * (channels * width)) start → after ≡ drop asked left →
    asked ≡ many * channels * width → after ≡ drop ((from + many) * (channels * width)) start
further_on from many channels width asked start left after place rest long =
    let sum : from * (channels * width) + asked ≡ (from + many) * (channels * width) = grind (arith, long) in
    rest ∙ ap (drop asked) place ∙ drop-drop asked (from * (channels * width)) start ∙ ap (λ k. drop k start) sum

pub loses_of : (few most : ℕ) (before after : List ℕ) → few ≡ most → LosesFewer few before after → LosesFewer most before after
loses_of few most before after e lost = (lost.0, subst (λ k. lost.0 < k) e lost.1, lost.2)
