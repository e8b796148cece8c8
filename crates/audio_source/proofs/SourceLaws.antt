-- A source among the others.
use Rattle.std.proofs.Common.{◌≡◌, ℕ, ◌+◌, ◌/◌, ◌%◌, ◌<◌, ◌≤◌, ◌^◌, refl, IfSome, Option, None, ap, arith, ◌∙◌, sym, List, length, map, get_or, Some}
use Rattle.std.specs.Prelude.{slice_get, slice_index, ℤ, pos}
use Rattle.std.proofs.lemmas.List.{get_or-map, length-map}
use Rattle.std.proofs.lemmas.List.FromFn.{fill_by_all}
use Rattle.std.proofs.lemmas.Option.{slice_get-get_or}
use Rattle.sound_model.specs.Wav.{sound}
use Rattle.ses_io.specs.Files.{Files, content}
use Rattle.wav_codec.specs.Info.{head_of}
use Rattle.session_model.specs.Frames.{interleaved, sounds_of}
use Rattle.audio_source.specs.declared.entry.Entry.{Entry}
use Rattle.audio_source.specs.Opened.{OpenedSource, opened_source, channels_of}
use Rattle.audio_source.specs.Told.{sample_by, source_sound, all_told}
use Rattle.audio_source.proofs.FrameLaws.{lists_hold_the_frames, sound_past}
use Rattle.audio_source.proofs.StretchLaws.{interleaved-at, length-interleaved}

-- what is known of a source and of the entry that was read for it
pub record IsEntryAt (entries : List Entry) (opened : List OpenedSource) (s : ℕ) (e : Entry) : Type 0 where
  pub view : map opened_source entries ≡ opened
  pub inside : s < length opened
  pub read : e ≡ get_or entries s e

pub within : (entries : List Entry) (opened : List OpenedSource) (s : ℕ) (e : Entry) → IsEntryAt entries opened s e → s < length entries
within entries opened s e is = omega (arith, is.inside, ap length is.view, length-map entries opened_source)

pub entry_channels : (entries : List Entry) (opened : List OpenedSource) (s : ℕ) (e : Entry) → IsEntryAt entries opened s e → slice_index (channels_of opened) s ≡ e.info.channels
entry_channels entries opened s e is =
    let here = within entries opened s e is in
    ap (λ l. slice_index (channels_of l) s) (sym is.view)
    ∙ get_or-map (λ o. o.head.form.channels) (map opened_source entries) s (opened_source e) 0 (omega (arith, length-map entries opened_source))
    ∙ ap (λ o. o.head.form.channels) (get_or-map opened_source entries s e (opened_source e) here ∙ ap opened_source (sym is.read))

pub entry_there : (entries : List Entry) (opened : List OpenedSource) (s : ℕ) (e : Entry) → IsEntryAt entries opened s e → slice_get opened s ≡ Some (opened_source e)
entry_there entries opened s e is =
    let here = within entries opened s e is in
    ap (λ l. slice_get l s) (sym is.view) ∙ slice_get-get_or (map opened_source entries) s (opened_source e) (omega (arith, length-map entries opened_source))
    ∙ ap Some (get_or-map opened_source entries s e (opened_source e) here ∙ ap opened_source (sym is.read))

pub entry_sound : (files : Files) (entries : List Entry) (opened : List OpenedSource) (s from n : ℕ) (e : Entry) → IsEntryAt entries opened s e →
    interleaved (sound (head_of e.info) (content files e.file)) e.info.channels from n ≡ interleaved (source_sound files opened s) (slice_index (channels_of opened) s) from n
entry_sound files entries opened s from n e is =
    ap (λ o. interleaved (sample_by files o) e.info.channels from n) (sym (entry_there entries opened s e is))
    ∙ ap (λ k. interleaved (source_sound files opened s) k from n) (sym (entry_channels entries opened s e is))

same_frames : (f h : ℕ → ℕ → ℤ) (channels from n : ℕ) → ((i c : ℕ) → f i c ≡ h i c) → interleaved f channels from n ≡ interleaved h channels from n
same_frames f h channels from n same = fill_by_all (λ k. h (from + k / channels) (k % channels)) (interleaved f channels from n) n (pos 0) (length-interleaved f channels from n)
    (λ k below. interleaved-at f channels from n k below ∙ same (from + k / channels) (k % channels))

listed_frames : (files : Files) (opened : List OpenedSource) (s channels from n : ℕ) →
    interleaved (source_sound files opened s) channels from n ≡ interleaved (sounds_of (all_told files opened) s) channels from n
listed_frames files opened s channels from n = same_frames (source_sound files opened s) (sounds_of (all_told files opened) s) channels from n (λ i c. sym (lists_hold_the_frames files opened s i c))

-- what was read for the entry is the source's
pub entry_told : (files : Files) (entries : List Entry) (opened : List OpenedSource) (s from n : ℕ) (e : Entry) (out : List ℤ) → IsEntryAt entries opened s e → length out ≡ n →
    out ≡ interleaved (sound (head_of e.info) (content files e.file)) e.info.channels from n →
    out ≡ interleaved (source_sound files opened s) (slice_index (channels_of opened) s) from (length out)
entry_told files entries opened s from n e out is long told =
    told ∙ entry_sound files entries opened s from n e is ∙ ap (λ m. interleaved (source_sound files opened s) (slice_index (channels_of opened) s) from m) (sym long)

-- and what the lists of frames hold
pub list_told : (files : Files) (opened : List OpenedSource) (s channels from n : ℕ) (out : List ℤ) → out ≡ interleaved (source_sound files opened s) channels from n →
    out ≡ interleaved (sounds_of (all_told files opened) s) channels from n
list_told files opened s channels from n out told = told ∙ listed_frames files opened s channels from n

-- a source has no frames past its end
pub source_end : (files : Files) (opened : List OpenedSource) (s i c : ℕ) → IfSome (slice_get opened s) (λ o. o.head.frames < 2 ^ 32) → 2 ^ 32 ≤ i → source_sound files opened s i c ≡ pos 0
source_end files opened s i c few past = by (slice_get opened s) few
  where
    by : (o : Option OpenedSource) → IfSome o (λ x. x.head.frames < 2 ^ 32) → sample_by files o i c ≡ pos 0
    by None h = refl
    by (Some o) h = sound_past o.head (content files o.file) i c (omega arith)
