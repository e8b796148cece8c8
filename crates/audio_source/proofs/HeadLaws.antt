-- The piece that a scan wants, as it was read.
use Rattle.std.proofs.Common.{◌≡◌, ℕ, ◌-◌, ◌≤◌, ◌<◌, ◌⊎◌, inl, inr, refl, ap, arith, ◌∙◌, sym, min, List, length, take, drop, ◌++◌, Option, Some, None, true}
use Rattle.std.specs.Prelude.{◌≢◌, is_some, Err}
use Rattle.std.proofs.lemmas.Bool.{cases_lt}
use Rattle.std.proofs.lemmas.List.{take_all, length-drop, take-append-le}
use Rattle.sound_model.specs.Wav.{head}
use Rattle.ses_io.specs.Files.{IsPart}
use Rattle.wav_codec.specs.Progress.{Progress, told}
use Rattle.wav_codec.specs.Refusal.{refusal_of}
use Rattle.wav_codec.specs.declared.refusal.WavRefusal.{WavRefusal}

-- so many bytes from a place on, fewer where the file ends
pub piece_read : (b : List ℕ) (at n : ℕ) (part : List ℕ) → IsPart b at part n → n ≡ min (length part) (length b - at) → take n part ≡ take (length part) (drop at b)
piece_read b at n part piece all = piece.front ∙ go (cases_lt (length part) (length b - at))
  where
    go : (length part < length b - at) ⊎ (length b - at ≤ length part) → take n (drop at b) ≡ take (length part) (drop at b)
    go (inl more) = ap (λ m. take m (drop at b)) (omega arith)
    go (inr end) = take_all n (drop at b) (omega (arith, length-drop at b)) ∙ sym (take_all (length part) (drop at b) (omega (arith, length-drop at b)))

is_told : (size : Option ℕ) → size ≢ None → is_some size ≡ true
is_told (Some n) h = refl
is_told None h = absurd (h refl)

-- the size was told, so a refusal is that of a file of told size
pub refusal_told : (p : Progress) (b : List ℕ) (e : WavRefusal) → p.size ≢ None → head (told p) b ≡ Err (refusal_of e) → head true b ≡ Err (refusal_of e)
refusal_told p b e h said = ap (λ t. head t b) (sym (is_told p.size h)) ∙ said

-- what was read is what is wanted
pub wanted_read : (b : List ℕ) (at long n : ℕ) (part rest : List ℕ) → IsPart b at part n → n ≡ min (length part) (length b - at) → length part ≡ long →
    take n (part ++ rest) ≡ take long (drop at b)
wanted_read b at long n part rest piece all same =
    take-append-le n part rest piece.within ∙ piece_read b at n part piece all ∙ ap (λ m. take m (drop at b)) same
