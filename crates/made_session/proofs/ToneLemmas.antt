-- What is heard of the tone.
use Rattle.std.proofs.Common.{◌≡◌, ℕ, ◌+◌, ◌*◌, ◌/◌, ◌%◌, ◌<◌, inl, true, false, ◌&&◌, ◌==◌, nat_lt, cond, refl, ap, sym, ◌∙◌, arith, length, get_or}
use Rattle.std.specs.Prelude.{pos}
use Rattle.std.proofs.lemmas.Bool.Decides.{nat_tests}
use Rattle.sound_model.specs.Numbers.{file_sample, inner}
use Rattle.sound_model.specs.Wav.{canon, sound, sound_by, file_sound}
use Rattle.sound_laws.specs.Files.{IsWritten, head_of}
use Rattle.sound_laws.proofs.Cases.{by_test}
use Rattle.sound_laws.specs.Files.{WrittenHeadIsRead, WrittenSoundIsRead}
use Rattle.made_session.specs.Each.{each_below}
use Rattle.made_session.specs.Tone.{tone_form, tone_sample, tone_samples, tone, ToneSounds}
use Rattle.made_session.proofs.ListLemmas.{each-long, each-get}

is-written : IsWritten tone_form tone_samples
is-written = let long : length tone_samples ≡ 4096 = each-long tone_sample 4096 in record {
  channels = (omega arith, omega arith);
  rate = (omega arith, omega arith);
  bits = inl refl;
  whole = omega (arith, long);
  fits = omega (arith, long);
}

-- what a file of 16 bits keeps of the samples is what they are
kept : each_below (λ k. inner 16 (file_sample 16 (pos (256 * k)))) 128 ≡ each_below (λ k. pos (256 * k)) 128
unfolding each_below
kept = refl

kept-at : (k : ℕ) → k < 128 → inner 16 (file_sample 16 (pos (256 * k))) ≡ pos (256 * k)
kept-at k h = sym (each-get (λ j. inner 16 (file_sample 16 (pos (256 * j)))) 128 k (pos 0) h) ∙ ap (λ l. get_or l k (pos 0)) kept
    ∙ each-get (λ j. pos (256 * j)) 128 k (pos 0) h

heard : WrittenSoundIsRead → (i : ℕ) → i < 4096 → sound (head_of tone_form tone_samples) (canon tone_form tone_samples) i 0 ≡ tone_sample i
heard sounds i h =
    let long : length tone_samples ≡ 4096 = each-long tone_sample 4096 in
    let here : get_or tone_samples (i * 1 + 0) (pos 0) ≡ tone_sample i = ap (λ k. get_or tone_samples k (pos 0)) (omega arith) ∙ each-get tone_sample 4096 i (pos 0) h in
    sounds tone_form tone_samples i 0 is-written (omega (arith, long)) (omega arith) ∙ ap (λ v. inner 16 (file_sample 16 v)) here ∙ kept-at (i % 128) (omega arith)

no-frame : (i c : ℕ) → nat_lt i 4096 ≡ false → sound (head_of tone_form tone_samples) (canon tone_form tone_samples) i c ≡ pos 0
unfolding sound
no-frame i c past =
    let long : length tone_samples ≡ 4096 = each-long tone_sample 4096 in
    let none : nat_lt i (length tone_samples / 1) ≡ false = ap (nat_lt i) (omega (arith, long)) ∙ past in rw none refl

no-channel : (i c : ℕ) → (c == 0) ≡ false → sound (head_of tone_form tone_samples) (canon tone_form tone_samples) i c ≡ pos 0
unfolding sound
no-channel i c other = let none : nat_lt c 1 ≡ false = grind (arith, nat_tests) in by_test (nat_lt i (length tone_samples / 1)) (λ e. rw (e, none) refl) (λ e. rw e refl)

by_head : WrittenHeadIsRead → (i c : ℕ) → file_sound tone i c ≡ sound (head_of tone_form tone_samples) (canon tone_form tone_samples) i c
unfolding tone
by_head heads i c = ap (λ h. sound_by h (canon tone_form tone_samples) i c) (heads true tone_form tone_samples is-written)

here-or-not : WrittenSoundIsRead → (i c : ℕ) → sound (head_of tone_form tone_samples) (canon tone_form tone_samples) i c ≡ cond (nat_lt i 4096 && c == 0) (tone_sample i) (pos 0)
here-or-not sounds i c = by_test (nat_lt i 4096)
    (λ less. by_test (c == 0)
    (λ first. let zero_is : c ≡ 0 = grind (arith, nat_tests) in rw (less, first) (ap (sound (head_of tone_form tone_samples) (canon tone_form tone_samples) i) zero_is ∙ heard sounds i (grind (arith, nat_tests))))
    (λ other. rw (less, other) (no-channel i c other)))
    (λ past. rw past (no-frame i c past))

pub tone_sounds : WrittenHeadIsRead → WrittenSoundIsRead → ToneSounds
tone_sounds heads sounds i c = by_head heads i c ∙ here-or-not sounds i c
