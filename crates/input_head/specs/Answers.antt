-- What each answer says of an input, and what ties a fault to its count.
use Rattle.std.specs.Prelude.{◌≡◌, ℕ, ◌<◌, ◌≤◌, false, List, [], length, drop, Option, Some, None, Result, Ok, Err}
use Rattle.sound_model.specs.Wav.{Head, head}
use Rattle.ses_io.specs.Faults.{risen}
use Rattle.ses_io.specs.Outside.{SourceOutside}
use Rattle.wav_codec.specs.Info.{head_of}
use Rattle.wav_codec.specs.Refusal.{refusal_of}
use Rattle.wav_codec.specs.declared.info.WavInfo.{WavInfo}
use Rattle.session_model.specs.declared.session.Session.{Session}
use Rattle.cycle_journal.specs.declared.status.InputRefusal.{InputRefusal}
use Rattle.input_head.specs.declared.heading.Unread.{Unread}
use Rattle.input_head.specs.declared.heading.Unread.TheVariants as stream
use Rattle.input_head.specs.declared.refusal.NoInput.{NoInput}
use Rattle.input_head.specs.declared.refusal.NoInput.TheVariants.{Refused, Fault}
use Rattle.input_head.specs.Input.{InputWrong, wrong_of, wanted_channels}
use Rattle.input_head.specs.Taken.{TakesNoData}

-- ---- the head of a stream

-- A stream has this head, and what is left of it begins with its data.
pub record HasHead (before after : List ℕ) (info : WavInfo) : Type 0 where
  pub head : head false before ≡ Ok (head_of info)
  pub rest : after ≡ drop info.data_at before

-- there is no byte, and none was taken
pub record IsEmpty (before after : List ℕ) : Type 0 where
  pub none : before ≡ []
  pub none_taken : after ≡ []

-- A stream that has bytes isn't read for this reason.
pub record IsRefused (before after : List ℕ) (head_is : Type 0) : Type 0 where
  pub some : 0 < length before
  pub why : head_is
  pub taken : TakesNoData before after

abbrev pub TellsHead : List ℕ → List ℕ → Result WavInfo Unread → Type 0
TellsHead before after (Ok info) = HasHead before after info
TellsHead before after (Err stream.Empty) = IsEmpty before after
TellsHead before after (Err (stream.Refused e)) = IsRefused before after (head false before ≡ Err (refusal_of e))
TellsHead before after (Err stream.Fault) = TakesNoData before after

abbrev pub HeadCause : {I A : Type 0} → SourceOutside I → I → I → Result A Unread → Type 0
HeadCause outside old new (Ok a) = outside.faults new ≡ outside.faults old
HeadCause outside old new (Err stream.Empty) = outside.faults new ≡ outside.faults old
HeadCause outside old new (Err (stream.Refused e)) = outside.faults new ≡ outside.faults old
HeadCause outside old new (Err stream.Fault) = risen (outside.faults old) ≤ outside.faults new

-- ---- the head, judged by the session

abbrev pub TellsFitting : Result Head InputWrong → Result WavInfo InputRefusal → Type 0
TellsFitting given (Ok info) = given ≡ Ok (head_of info)
TellsFitting given (Err why) = given ≡ Err (wrong_of why)

-- An input has the session's rate, and channels for each of its tracks.
pub record FitsInput (s : Session) (info : WavInfo) : Type 0 where
  pub rate : info.rate ≡ s.rate
  pub channels : wanted_channels s ≤ info.channels

-- ---- the input

abbrev pub TellsInput : Result (Option Head) InputWrong → Result (Option WavInfo) NoInput → Type 0
TellsInput given (Ok None) = given ≡ Ok None
TellsInput given (Ok (Some info)) = given ≡ Ok (Some (head_of info))
TellsInput given (Err (Refused why)) = given ≡ Err (wrong_of why)
TellsInput given (Err Fault) = Unit {0}

-- a fault comes only where the count rose; else it stays
abbrev pub InputCause : {I A : Type 0} → SourceOutside I → I → I → Result A NoInput → Type 0
InputCause outside old new (Ok a) = outside.faults new ≡ outside.faults old
InputCause outside old new (Err (Refused why)) = outside.faults new ≡ outside.faults old
InputCause outside old new (Err Fault) = risen (outside.faults old) ≤ outside.faults new
