-- What each answer says, and what ties a fault to the media's count of failed reads.
use Rattle.std.specs.Prelude.{◌≡◌, ℕ, ◌<◌, ◌≤◌, List, slice_get, Some, IsSomeAnd, IsOk, Result, Ok, Err}
use Rattle.sound_model.specs.Wav.{Head, Refusal}
use Rattle.ses_io.specs.Faults.{risen}
use Rattle.ses_io.specs.Files.{Files}
use Rattle.ses_io.specs.Outside.{MediaOutside}
use Rattle.wav_codec.specs.Info.{head_of}
use Rattle.wav_codec.specs.Refusal.{refusal_of}
use Rattle.wav_codec.specs.declared.info.WavInfo.{WavInfo}
use Rattle.session_model.specs.declared.session.SourceDecl.{SourceDecl}
use Rattle.audio_source.specs.declared.refusal.FileRefusal.{FileRefusal}
use Rattle.audio_source.specs.declared.refusal.FileRefusal.TheVariants as file
use Rattle.audio_source.specs.declared.refusal.OpenRefusal.{OpenRefusal}
use Rattle.audio_source.specs.declared.refusal.OpenRefusal.TheVariants.{File, ReadFault, NoMemory}
use Rattle.audio_source.specs.declared.heading.Unread.{Unread}
use Rattle.audio_source.specs.declared.heading.Unread.TheVariants as head_of_file
use Rattle.audio_source.specs.declared.opening.Unopened.{Unopened}
use Rattle.audio_source.specs.declared.opening.Unopened.TheVariants as one
use Rattle.audio_source.specs.Refusals.{SourceRefusal, source_head, why_of}

-- ---- the head of one file

abbrev pub TellsHead : Result Head Refusal → Result WavInfo Unread → Type 0
TellsHead given (Ok info) = given ≡ Ok (head_of info)
TellsHead given (Err (head_of_file.Refused e)) = given ≡ Err (refusal_of e)
TellsHead given (Err head_of_file.Fault) = Unit {0}

abbrev pub HeadCause : {V A : Type 0} → MediaOutside V → V → V → Result A Unread → Type 0
HeadCause outside old new (Ok a) = outside.read_faults new ≡ outside.read_faults old
HeadCause outside old new (Err (head_of_file.Refused e)) = outside.read_faults new ≡ outside.read_faults old
HeadCause outside old new (Err head_of_file.Fault) = risen (outside.read_faults old) ≤ outside.read_faults new

-- ---- one source

abbrev pub TellsSource : Result Head SourceRefusal → Result WavInfo Unopened → Type 0
TellsSource given (Ok info) = given ≡ Ok (head_of info)
TellsSource given (Err (one.Refused why)) = given ≡ Err (why_of why)
TellsSource given (Err one.Fault) = Unit {0}

abbrev pub SourceCause : {V A : Type 0} → MediaOutside V → V → V → Result A Unopened → Type 0
SourceCause outside old new (Ok a) = outside.read_faults new ≡ outside.read_faults old
SourceCause outside old new (Err (one.Refused why)) = outside.read_faults new ≡ outside.read_faults old
SourceCause outside old new (Err one.Fault) = risen (outside.read_faults old) ≤ outside.read_faults new

-- a head that is judged by its rate and its channels
abbrev pub TellsFitting : Result Head SourceRefusal → Result WavInfo FileRefusal → Type 0
TellsFitting given (Ok info) = given ≡ Ok (head_of info)
TellsFitting given (Err why) = given ≡ Err (why_of why)

-- a head that isn't read opens no source
abbrev pub unopened_by : Unread → Unopened
unopened_by (head_of_file.Refused e) = one.Refused (file.Wav e)
unopened_by head_of_file.Fault = one.Fault

-- ---- all of them

-- a refusal of one source
abbrev pub IsRefusalOf : Files → ℕ → SourceDecl → ℕ → OpenRefusal → Type 0
IsRefusalOf files rate d place (File source why) = (source ≡ place) × (source_head rate d.channels (files d.file) ≡ Err (why_of why))
IsRefusalOf files rate d place ReadFault = Unit {0}
IsRefusalOf files rate d place NoMemory = Unit {0}

-- A source isn't opened for this reason, and all before it are.
pub record IsFirstRefused (files : Files) (rate : ℕ) (list : List SourceDecl) (source : ℕ) (why : FileRefusal) : Type 0 where
  pub refused : IsSomeAnd (slice_get list source) (λ d. source_head rate d.channels (files d.file) ≡ Err (why_of why))
  pub first : (j : ℕ) (d : SourceDecl) → j < source → slice_get list j ≡ Some d → IsOk (source_head rate d.channels (files d.file))

-- a refusal names the first source that isn't opened
abbrev pub NamesFirst : Files → ℕ → List SourceDecl → OpenRefusal → Type 0
NamesFirst files rate list (File source why) = IsFirstRefused files rate list source why
NamesFirst files rate list ReadFault = Unit {0}
NamesFirst files rate list NoMemory = Unit {0}

-- a fault comes only where the count rose; else it stays
abbrev pub OpenCause : {V A : Type 0} → MediaOutside V → V → V → Result A OpenRefusal → Type 0
OpenCause outside old new (Ok a) = outside.read_faults new ≡ outside.read_faults old
OpenCause outside old new (Err (File source why)) = outside.read_faults new ≡ outside.read_faults old
OpenCause outside old new (Err ReadFault) = risen (outside.read_faults old) ≤ outside.read_faults new
OpenCause outside old new (Err NoMemory) = outside.read_faults new ≡ outside.read_faults old
