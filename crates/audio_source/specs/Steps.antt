-- What a step of the scan of a file's head answers.
use Rattle.std.specs.Prelude.{◌≡◌, List, ℕ, true, Result, Ok, Err}
use Rattle.sound_model.specs.Wav.{head}
use Rattle.wav_codec.specs.Info.{head_of}
use Rattle.wav_codec.specs.Progress.{Progress, Agrees}
use Rattle.wav_codec.specs.Refusal.{refusal_of}
use Rattle.wav_codec.specs.declared.info.WavInfo.{WavInfo}
use Rattle.wav_codec.specs.declared.scan.Step.{Step}
use Rattle.wav_codec.specs.declared.scan.Step.TheVariants.{More, Done}
use Rattle.audio_source.specs.declared.heading.Unread.{Unread}
use Rattle.audio_source.specs.declared.heading.Unread.TheVariants.{Refused, Fault}

abbrev pub IfGoesOn : Result Step Unread → (Progress → Type 0) → Type 0
IfGoesOn (Ok (More next)) P = P next
IfGoesOn (Ok (Done info)) P = Unit {0}
IfGoesOn (Err e) P = Unit {0}

abbrev pub IfEnds : Result Step Unread → (WavInfo → Type 0) → Type 0
IfEnds (Ok (More next)) P = Unit {0}
IfEnds (Ok (Done info)) P = P info
IfEnds (Err e) P = Unit {0}

-- the answer is right for the file: its head, its refusal, or a scan that it still agrees with
abbrev pub TellsStep : List ℕ → Result Step Unread → Type 0
TellsStep b (Ok (More next)) = Agrees next b
TellsStep b (Ok (Done info)) = head true b ≡ Ok (head_of info)
TellsStep b (Err (Refused e)) = head true b ≡ Err (refusal_of e)
TellsStep b (Err Fault) = Unit {0}
