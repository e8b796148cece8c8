-- What a run's input sounds like, and what is left of it.
use Rattle.std.proofs.Common.{◌≡◌, ℕ, ◌*◌, ◌-◌, ◌<◌, refl, sym, ap, subst, ◌∙◌, arith, List, [], ◌∷◌, drop}
use Rattle.std.specs.Prelude.{min, pos, false, true, Bool, not, ◌==◌, nat_lt, if◌then◌else◌, Option, Some, None, Result, Ok, Err}
use Rattle.std.specs.Option.{option_map}
use Rattle.std.proofs.lemmas.List.{drop-drop}
use mathlib.Core.Path.{fun_ext}
use Rattle.sound_model.specs.Wav.{Head, Refusal, align, head, sound_by}
use Rattle.wav_codec.specs.Info.{head_of}
use Rattle.wav_codec.specs.declared.info.WavInfo.{WavInfo}
use Rattle.session_model.specs.declared.session.Session.{Session}
use Rattle.audio_source.proofs.FrameLaws.{sound_past}
use Rattle.input_blocks.specs.Rest.{rest_sound, stream_told}
use Rattle.input_blocks.specs.Laws.{SoundOfTheRest}
use Rattle.input_head.specs.Input.{InputWrong, ◌>>=◌, fitting, input_head, read, wanted_channels}
use Rattle.input_head.specs.Taken.{StandsBehind}
use Rattle.session_opening.specs.Sounds.{bytes_of_block, input_left, input_sound, left_after}

-- ---- what was told

judged : Session → Result Head Refusal → Result (Option Head) InputWrong
judged s r = read r >>= λ h. fitting s h >>= λ f. Ok (Some f)

one_head : (a b : Bool) (v w : InputWrong) (k h : Head) → ((if a then Err v else (if b then Err w else Ok k)) >>= λ f. Ok (Some f)) ≡ Ok (Some h) → k ≡ h
one_head true b v w k h e = absurd (cc)
one_head false true v w k h e = absurd (cc)
one_head false false v w k h e = cc

no_head : (a b : Bool) (v w : InputWrong) (k : Head) → ((if a then Err v else (if b then Err w else Ok k)) >>= λ f. Ok (Some f)) ≡ Ok None → ⊥
no_head true b v w k e = cc
no_head false true v w k e = cc
no_head false false v w k e = cc

head_in : (s : Session) (r : Result Head Refusal) (h : Head) → (read r >>= λ k. fitting s k >>= λ f. Ok (Some f)) ≡ Ok (Some h) → r ≡ Ok h
head_in s (Ok k) h e = ap (λ x. Ok x) (one_head (not (k.form.rate == s.rate)) (nat_lt k.form.channels (wanted_channels s)) _ _ k h e)
head_in s (Err why) h e = absurd (cc)

none_in : (s : Session) (r : Result Head Refusal) → (read r >>= λ k. fitting s k >>= λ f. Ok (Some f)) ≡ Ok None → ⊥
none_in s (Ok k) e = no_head (not (k.form.rate == s.rate)) (nat_lt k.form.channels (wanted_channels s)) _ _ k e
none_in s (Err why) e = cc

-- an input of which a head was told has it
pub head_is : (s : Session) (b : List ℕ) (h : Head) → input_head s b ≡ Ok (Some h) → head false b ≡ Ok h
head_is s [] h e = absurd (cc)
head_is s (x ∷ xs) h e = head_in s (head false (x ∷ xs)) h e

-- and one of which none was told has no byte
pub none_is : (s : Session) (b : List ℕ) → input_head s b ≡ Ok None → b ≡ []
none_is s [] e = refl
none_is s (x ∷ xs) e = absurd (none_in s (head false (x ∷ xs)) e)

-- ---- no byte

silent : (i c : ℕ) → input_sound [] i c ≡ pos 0
unfolding head
silent i c = refl

none_left : (s : Session) (n : ℕ) → input_left s n [] ≡ []
unfolding head
none_left s n = refl

none_due : (s : Session) (n : ℕ) → bytes_of_block (head false []) s n ≡ 0
unfolding head
none_due s n = refl

-- ---- the sound

-- what the stream sounds like behind its head is what the whole input does
pub sound_is : SoundOfTheRest → (s : Session) (b after : List ℕ) (form : Option WavInfo) → input_head s b ≡ Ok (option_map head_of form) → StandsBehind b after form → rest_sound (stream_told form) after ≡ input_sound b
sound_is law s b after None told behind = fun_ext (λ i. fun_ext (λ c. sound_past (record { form = record { channels = 1; rate = 8000; bits = 8 }; data_at = 0; frames = 0 }) after i c (omega arith) ∙ sym (silent i c)))
    ∙ sym (ap input_sound (none_is s b told))
sound_is law s b after (Some info) told behind = fun_ext (λ i. fun_ext (λ c. ap (λ (xs : List ℕ). rest_sound (stream_told (Some info)) xs i c) behind ∙ sym (law (head_of info) b i c)))
    ∙ sym (ap (λ r. sound_by r b) (head_is s b (head_of info) told))

-- ---- what is left

-- the frames of so many blocks were taken behind the head
pub left_is : (s : Session) (b after : List ℕ) (form : Option WavInfo) (n : ℕ) → input_head s b ≡ Ok (option_map head_of form) → StandsBehind b after form →
    drop (min (n * s.block) (stream_told form).frames * align (stream_told form).form) after ≡ input_left s n b
left_is s b after None n told behind = let empty : b ≡ [] = none_is s b told in let none : min (n * s.block) 0 ≡ 0 = omega arith in
    ap (λ k. drop (k * align (stream_told None).form) after) none ∙ behind ∙ empty ∙ sym (ap (λ xs. input_left s n xs) empty ∙ none_left s n)
left_is s b after (Some info) n told behind = let more = min (n * s.block) info.frames * align (head_of info).form in
    ap (drop more) behind ∙ drop-drop more info.data_at b ∙ sym (ap (λ r. left_after r (n * s.block) b) (head_is s b (head_of info) told))

rest_of : (frames taken : ℕ) → frames - min taken frames ≡ frames - taken
rest_of frames taken = omega arith

-- a block is asked for no more than its bytes
pub block_is : (s : Session) (b : List ℕ) (form : Option WavInfo) (blocks done n : ℕ) → input_head s b ≡ Ok (option_map head_of form) → done ≡ min (blocks * s.block) (stream_told form).frames →
    n < min ((stream_told form).frames - done) s.block * align (stream_told form).form → n < bytes_of_block (head false b) s blocks
block_is s b None blocks done n told done_is few = absurd (let none : min (0 - done) s.block ≡ 0 = omega arith in let zero_is : min (0 - done) s.block * align (stream_told None).form ≡ 0 = ap (λ k. k * align (stream_told None).form) none in
    omega (arith, few, zero_is))
block_is s b (Some info) blocks done n told done_is few = subst (λ r. n < bytes_of_block r s blocks) (sym (head_is s b (head_of info) told))
    (subst (λ k. n < min k s.block * align (head_of info).form) (ap (λ k. info.frames - k) done_is ∙ rest_of info.frames (blocks * s.block)) few)
