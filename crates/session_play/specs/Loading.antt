-- What is opened of a run before it plays, part by part.
use Rattle.std.specs.Prelude.{◌≡◌, ℕ, ◌≤◌, true, Option, IfSome, Result, Ok, Err}
use Rattle.std.specs.Option.{option_map}
use Rattle.ses_io.specs.Faults.{risen}
use Rattle.ses_io.specs.Outside.{MediaOutside, SourceOutside}
use Rattle.wav_codec.specs.Info.{IsFound, head_of}
use Rattle.wav_codec.specs.declared.info.WavInfo.{WavInfo}
use Rattle.session_model.specs.declared.session.Session.{Session as Opening}
use Rattle.audio_source.specs.Refusals.{why_of}
use Rattle.cycle_journal.specs.declared.status.Status.{Status}
use Rattle.cycle_journal.specs.declared.status.Status.TheVariants.{Session, SourceFile, ReadFault, InputFault, BadInput, NoMemory, TakesExist}
use Rattle.input_head.specs.Input.{input_head, wrong_of}
use Rattle.input_head.specs.Taken.{StandsBehind, TakesNoData}
use Rattle.session_opening.specs.declared.loading.Loaded.{Loaded}
use Rattle.session_opening.specs.Answers.{HasHeads, IsLoaded}
use Rattle.session_opening.specs.Plan.{SessionRefused, SourceRefused}
use Rattle.session_play.specs.Opening.{IsTaken, TakesAreThere, opens}
use Rattle.session_play.specs.Request.{Request, records}

-- ---- the session

-- Edition 0 of the session of the file, and its sources; no take is in the way of a run that records.
pub record IsLoadedFor {V : Type 0} (media : MediaOutside V) (old : V) (r : Request) (o : Loaded) : Type 0 where
  pub loaded : IsLoaded o
  pub of_file : media.tells → opens (media.files old) r ≡ Ok o.edition.session
  pub heads : media.tells → HasHeads (media.files old) o
  pub fresh : media.tells → records r ≡ true → ¬ (TakesAreThere (media.files old) o.edition.session)

-- it isn't opened, for the reason that the status says; no other status comes
abbrev pub IsRefused : {V : Type 0} → MediaOutside V → V → Request → Status → Type 0
IsRefused media old r (Session why) = media.tells → opens (media.files old) r ≡ Err (SessionRefused why)
IsRefused media old r (SourceFile name why) = media.tells → opens (media.files old) r ≡ Err (SourceRefused name (why_of why))
IsRefused media old r (TakesExist name) = IsTaken media (media.files old) r name
IsRefused media old r ReadFault = Unit {0}
IsRefused media old r NoMemory = Unit {0}
IsRefused media old r _ = ⊥

-- a failed read is answered only where the count of them rose; else it stays
abbrev pub LoadCause : {A : Type 0} → (before now : ℕ) → Result A Status → Type 0
LoadCause before now (Ok a) = now ≡ before
LoadCause before now (Err ReadFault) = risen before ≤ now
LoadCause before now (Err _) = now ≡ before

-- ---- the input

module _ {I : Type 0} where
  -- The head of the input is one that the session plays with, or it is empty.
  pub record IsHeard (inputs : SourceOutside I) (s : Opening) (old new : I) (form : Option WavInfo) : Type 0 where
    pub found : IfSome form IsFound
    pub told : inputs.tells → input_head s (inputs.left old) ≡ Ok (option_map head_of form)
    -- what is left is its data
    pub rest : inputs.tells → StandsBehind (inputs.left old) (inputs.left new) form

  -- what the status says of an input that isn't played with
  abbrev pub SaysUnheard : SourceOutside I → Opening → I → Status → Type 0
  SaysUnheard inputs s old (BadInput why) = inputs.tells → input_head s (inputs.left old) ≡ Err (wrong_of why)
  SaysUnheard inputs s old InputFault = Unit {0}
  SaysUnheard inputs s old _ = ⊥

  -- It isn't played with, for the reason that the status says.
  pub record IsUnheard (inputs : SourceOutside I) (s : Opening) (old new : I) (status : Status) : Type 0 where
    pub says : SaysUnheard inputs s old status
    pub rest : inputs.tells → TakesNoData (inputs.left old) (inputs.left new)

-- a failed read of it is answered only where the count rose; else it stays
abbrev pub HearCause : {A : Type 0} → (before now : ℕ) → Result A Status → Type 0
HearCause before now (Ok a) = now ≡ before
HearCause before now (Err InputFault) = risen before ≤ now
HearCause before now (Err _) = now ≡ before
