-- What a scan answers.
use Rattle.std.specs.Prelude.{◌≡◌, ◌≤◌, Bool, List, ℕ, Result, Ok, Err}
use Rattle.sound_model.specs.Wav.{head}
use Rattle.wav_codec.specs.Refusal.{refusal_of}
use Rattle.wav_codec.specs.Info.{head_of, IsFound}
use Rattle.wav_codec.specs.Progress.{Progress, Agrees, wanted, wanted_at, wanted_end, told}
use Rattle.wav_codec.specs.declared.info.WavInfo.{WavInfo}
use Rattle.wav_codec.specs.declared.refusal.WavRefusal.{WavRefusal}
use Rattle.wav_codec.specs.declared.scan.Step.{Step}
use Rattle.wav_codec.specs.declared.scan.Step.TheVariants.{More, Done}

-- a fact for one answer
abbrev pub IfMore : Result Step WavRefusal → (Progress → Type 0) → Type 0
IfMore (Ok (More next)) P = P next
IfMore (Ok (Done info)) P = Unit {0}
IfMore (Err refusal) P = Unit {0}

abbrev pub IfDone : Result Step WavRefusal → (WavInfo → Type 0) → Type 0
IfDone (Ok (More next)) P = Unit {0}
IfDone (Ok (Done info)) P = P info
IfDone (Err refusal) P = Unit {0}

-- the answer is right for the file b: its head, its refusal, or a scan that it still agrees with
abbrev pub AnswersFor : Bool → List ℕ → Result Step WavRefusal → Type 0
AnswersFor told b (Ok (More next)) = Agrees next b
AnswersFor told b (Ok (Done info)) = head told b ≡ Ok (head_of info)
AnswersFor told b (Err refusal) = head told b ≡ Err (refusal_of refusal)

-- the answer to a piece is right for each file that the scan agrees with and that has the piece
abbrev pub StepAnswers : Progress → List ℕ → Result Step WavRefusal → Type 0
StepAnswers p bytes result =
    (b : List ℕ) → Agrees p b → bytes ≡ wanted p b → AnswersFor (told p) b result

-- the size that was told stays, what is wanted next stands after what was wanted, and the sound
-- begins right after it
abbrev pub GoesOn : Progress → Result Step WavRefusal → Type 0
GoesOn p (Ok (More next)) = (next.size ≡ p.size) × (wanted_end p ≤ wanted_at next)
GoesOn p (Ok (Done info)) = (info.data_at ≡ wanted_end p) × IsFound info
GoesOn p (Err refusal) = Unit {0}
