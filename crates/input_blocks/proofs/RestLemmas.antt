-- The sound of a file is that of what follows its head.
use Rattle.std.proofs.Common.{◌≡◌, ℕ, zero, suc, ◌+◌, ◌*◌, ◌/◌, ◌≤◌, ◌<◌, ◌⊎◌, inl, inr, refl, ap, arith, ◌∙◌, sym, List, [], ◌∷◌, length, drop}
use Rattle.std.specs.Prelude.{pos}
use Rattle.std.proofs.lemmas.Bool.{cases_lt}
use Rattle.std.proofs.lemmas.List.{length-drop, drop-drop}
use Rattle.sound_model.specs.Numbers.{sample_at}
use Rattle.sound_model.specs.Wav.{Head, align, sound}
use Rattle.audio_source.proofs.FrameLaws.{sound_inside, sound_past, sound_beside, sound_cut}
use Rattle.audio_source.proofs.ByteLaws.{least_size}
use Rattle.input_blocks.specs.Laws.{SoundOfTheRest}

-- the same data without what stands before them
abbrev bare : Head → Head
bare h = record { form = h.form; data_at = 0; frames = h.frames }

-- no bytes of a width below 8 bits are silence
no_sample : (bits : ℕ) → bits < 8 → sample_at bits [] ≡ pos 0
no_sample zero h = refl
no_sample (suc zero) h = refl
no_sample (suc (suc zero)) h = refl
no_sample (suc (suc (suc zero))) h = refl
no_sample (suc (suc (suc (suc zero)))) h = refl
no_sample (suc (suc (suc (suc (suc zero))))) h = refl
no_sample (suc (suc (suc (suc (suc (suc zero)))))) h = refl
no_sample (suc (suc (suc (suc (suc (suc (suc zero))))))) h = refl
no_sample (suc (suc (suc (suc (suc (suc (suc (suc n)))))))) h = absurd (omega arith)

none_left : (n : ℕ) (bytes : List ℕ) → length bytes ≡ 0 → drop n bytes ≡ []
none_left zero [] e = refl
none_left (suc n) [] e = refl
none_left n (x ∷ xs) e = absurd (omega (arith, e))

-- a frame that lies in the file
inside : (h : Head) (b : List ℕ) (i c : ℕ) → i < h.frames → c < h.form.channels → h.data_at + i * align h.form + align h.form ≤ length b → sound h b i c ≡ sound (bare h) (drop h.data_at b) i c
inside h b i c frame channel whole =
    sound_inside h b i c frame channel whole
    ∙ ap (sample_at h.form.bits) (ap (λ k. drop k b) place ∙ sym (drop-drop (0 + i * align h.form + c * (h.form.bits / 8)) h.data_at b))
    ∙ sym (sound_inside (bare h) (drop h.data_at b) i c frame channel (omega (arith, whole, length-drop h.data_at b)))
  where
    place : h.data_at + i * align h.form + c * (h.form.bits / 8) ≡ h.data_at + (0 + i * align h.form + c * (h.form.bits / 8))
    place = omega arith

-- a frame that doesn't: the rest ends in it, or has no bytes where frames have none
outside : (h : Head) (b : List ℕ) (i c : ℕ) → i < h.frames → c < h.form.channels → length b < h.data_at + i * align h.form + align h.form → sound (bare h) (drop h.data_at b) i c ≡ pos 0
outside h b i c frame channel cut = go (cases_lt (length (drop h.data_at b)) (0 + i * align h.form + align h.form))
  where
    go : (length (drop h.data_at b) < 0 + i * align h.form + align h.form) ⊎ (0 + i * align h.form + align h.form ≤ length (drop h.data_at b)) → sound (bare h) (drop h.data_at b) i c ≡ pos 0
    go (inl ends) = sound_cut (bare h) (drop h.data_at b) i c ends
    go (inr none) = sound_inside (bare h) (drop h.data_at b) i c frame channel none
        ∙ ap (sample_at h.form.bits) (none_left (0 + i * align h.form + c * (h.form.bits / 8)) (drop h.data_at b) (omega (arith, length-drop h.data_at b, none, cut)))
        ∙ no_sample h.form.bits (narrow (cases_lt h.form.bits 8))
      where
        narrow : (h.form.bits < 8) ⊎ (8 ≤ h.form.bits) → h.form.bits < 8
        narrow (inl few) = few
        narrow (inr wide) = absurd (omega (arith, length-drop h.data_at b, none, cut, least_size h.form.channels (h.form.bits / 8) (omega arith) (omega (arith, wide))))

pub sound_of_the_rest : SoundOfTheRest
sound_of_the_rest h b i c = go (cases_lt i h.frames) (cases_lt c h.form.channels) (cases_lt (length b) (h.data_at + i * align h.form + align h.form))
  where
    go : (i < h.frames) ⊎ (h.frames ≤ i) → (c < h.form.channels) ⊎ (h.form.channels ≤ c)
        → (length b < h.data_at + i * align h.form + align h.form) ⊎ (h.data_at + i * align h.form + align h.form ≤ length b) → sound h b i c ≡ sound (bare h) (drop h.data_at b) i c
    go (inr past) channel whole = sound_past h b i c past ∙ sym (sound_past (bare h) (drop h.data_at b) i c past)
    go (inl frame) (inr beside) whole = sound_beside h b i c beside ∙ sym (sound_beside (bare h) (drop h.data_at b) i c beside)
    go (inl frame) (inl channel) (inl cut) = sound_cut h b i c cut ∙ sym (outside h b i c frame channel cut)
    go (inl frame) (inl channel) (inr whole) = inside h b i c frame channel whole
