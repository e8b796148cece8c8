-- The header, and the sound; their bytes are even.
use Rattle.std.proofs.Common.{◌≡◌, ◌∙◌, ap, sym, ◌++◌, ◌*◌}
use Rattle.std.proofs.lemmas.List.{append-nil}
use Rattle.sound_model.specs.Wav.{header, sound_bytes}
use Rattle.made_session.specs.Tone.{tone_form, tone_sample, tone_samples, tone}
use Rattle.made_session.proofs.ListLemmas.{each-long}
use Rattle.made_session.proofs.tone_file.tone.Goals as goal

pub returns : goal.returns
unfolding tone
returns c = let whole = c.canon_is_header_and_sound.ensures tone_form 4096 tone_samples (each-long tone_sample 4096) in
    let first : c.extend_from_slice.new.self.items ≡ header tone_form 8192 = c.in_ok-extend_from_slice.ensures.items ∙ ap (λ l. l ++ c.header.result) c.new-bytes.ensures.items ∙ c.header.ensures
    ∙ ap (λ n. header tone_form (n * 2)) c.from.ensures in
    let second : c.as_slice.result.now ≡ sound_bytes 16 tone_samples = c.as_slice.ensures.value ∙ c.in_ok-sound.ensures in
    c.in_ok-extend_from_slice-2.ensures.items ∙ ap (λ l. l ++ c.as_slice.result.now) first ∙ ap (λ l. header tone_form 8192 ++ l) second
    ∙ sym (append-nil (header tone_form 8192 ++ sound_bytes 16 tone_samples)) ∙ sym whole
