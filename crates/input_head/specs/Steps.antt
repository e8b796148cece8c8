-- How far the head of a stream was read, and what a step of the scan answers.
use Rattle.std.specs.Prelude.{◌≡◌, ℕ, ◌<◌, ◌≤◌, ◌⊎◌, false, List, length, take, drop, Result, Ok, Err}
use Rattle.sound_model.specs.Wav.{head}
use Rattle.wav_codec.specs.Progress.{Progress, Agrees, wanted_at}
use Rattle.wav_codec.specs.Refusal.{refusal_of}
use Rattle.wav_codec.specs.declared.info.WavInfo.{WavInfo}
use Rattle.wav_codec.specs.declared.scan.Step.{Step}
use Rattle.wav_codec.specs.declared.scan.Step.TheVariants.{More, Done}
use Rattle.input_head.specs.declared.heading.Unread.{Unread}
use Rattle.input_head.specs.declared.heading.Unread.TheVariants.{Empty, Refused, Fault}
use Rattle.input_head.specs.Taken.{TakesNoData}
use Rattle.input_head.specs.Answers.{HasHead, IsEmpty, IsRefused}

-- So many bytes of a stream were taken, and the scan was given what it wanted of them.
pub record IsReading (start : List ℕ) (taken : ℕ) (scan : Progress) (left : List ℕ) : Type 0 where
  pub place : left ≡ drop taken start
  -- it agrees with the stream, wherever that ends from here on
  pub agrees : (n : ℕ) → wanted_at scan ≤ n → Agrees scan (take n start)
  -- nothing was asked yet, or there was a byte
  pub begun : (wanted_at scan ≡ 0) ⊎ (0 < length start)

abbrev pub IfGoesOn : Result Step Unread → (Progress → Type 0) → Type 0
IfGoesOn (Ok (More next)) P = P next
IfGoesOn (Ok (Done info)) P = Unit {0}
IfGoesOn (Err e) P = Unit {0}

abbrev pub IfEnds : Result Step Unread → (WavInfo → Type 0) → Type 0
IfEnds (Ok (More next)) P = Unit {0}
IfEnds (Ok (Done info)) P = P info
IfEnds (Err e) P = Unit {0}

-- the answer is right for the stream, of which so many bytes were taken
abbrev pub TellsStep : List ℕ → ℕ → List ℕ → Result Step Unread → Type 0
TellsStep start taken left (Ok (More next)) = IsReading start taken next left
TellsStep start taken left (Ok (Done info)) = HasHead start left info
TellsStep start taken left (Err Empty) = IsEmpty start left
TellsStep start taken left (Err (Refused e)) = IsRefused start left (head false start ≡ Err (refusal_of e))
TellsStep start taken left (Err Fault) = TakesNoData start left
