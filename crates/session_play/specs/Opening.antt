-- What keeps a run from being played, by the files and by the input: the session first, then its sources, the takes, and the input (own).
use Rattle.std.specs.Prelude.{◌≡◌, ◌⊎◌, ℕ, true, List, ◌++◌, Ok, Err, codes}
use Rattle.ses_io.specs.Files.{Files, HasNameUnder}
use Rattle.ses_io.specs.Outside.{MediaOutside, SourceOutside}
use Rattle.session_model.specs.declared.refusal.SessionRefusal.{SessionRefusal}
use Rattle.session_model.specs.declared.session.Session.{Session as Opening}
use Rattle.audio_source.specs.declared.refusal.FileRefusal.{FileRefusal}
use Rattle.audio_source.specs.Refusals.{why_of}
use Rattle.cycle_journal.specs.declared.status.InputRefusal.{InputRefusal}
use Rattle.cycle_journal.specs.declared.status.Status.{Status}
use Rattle.cycle_journal.specs.declared.status.Status.TheVariants.{Session, SourceFile, InputFault, BadInput, TakesExist}
use Rattle.input_head.specs.Input.{InputWrong, input_head, wrong_of}
use Rattle.session_opening.specs.Plan.{Open, Wrong, SessionRefused, SourceRefused, session_plan}
use Rattle.session_opening.specs.Status.{IsUnread, Says}
use Rattle.session_play.specs.Request.{Request, records}

-- the session of the file, where the files of all its sources are opened
abbrev pub opens : Files → Request → Open Opening
opens files r = session_plan files r.session

-- some file is named as takes of the session are
abbrev pub TakesAreThere : Files → Opening → Type 0
TakesAreThere files s = HasNameUnder files (s.takes ++ codes "-")

-- the status says why the input is refused
abbrev pub SaysInput : InputWrong → Status → Type 0
SaysInput wrong s = (why : InputRefusal) × (s ≡ BadInput why) × (wrong_of why ≡ wrong)

-- Takes are there, of a session that is opened, and it may record.
pub record IsTaken {V : Type 0} (media : MediaOutside V) (files : Files) (r : Request) (takes : List ℕ) : Type 0 where
  pub session : Opening
  pub named : takes ≡ session.takes
  pub of_file : media.tells → opens files r ≡ Ok session
  pub records_it : records r ≡ true
  pub there : media.tells → TakesAreThere files session

module _ {V I : Type 0} where
  -- **What is wrong is told, the first of it.** A failed read, and want of memory, may come in its place.
  pub record TellsWrong (media : MediaOutside V) (inputs : SourceOutside I) (files : Files) (heard : I) (r : Request) (s : Status) : Type 0 where
    -- the session, or its first source that isn't opened
    pub refused : media.tells → (w : Wrong) → opens files r ≡ Err w → Says w s ⊎ IsUnread s
    -- where it may record, takes that are there
    pub taken : media.tells → (p : Opening) → opens files r ≡ Ok p → records r ≡ true → TakesAreThere files p → (s ≡ TakesExist p.takes) ⊎ IsUnread s
    -- and the input
    pub misheard : media.tells → inputs.tells → (p : Opening) → opens files r ≡ Ok p → (records r ≡ true → ¬ (TakesAreThere files p)) →
        (w : InputWrong) → input_head p (inputs.left heard) ≡ Err w → SaysInput w s ⊎ ((s ≡ InputFault) ⊎ IsUnread s)

  -- The input is refused, of a session that is opened, and of which no take is in the way.
  pub record IsMisheard (media : MediaOutside V) (inputs : SourceOutside I) (files : Files) (heard : I) (r : Request) (why : InputRefusal) : Type 0 where
    pub session : Opening
    pub of_file : media.tells → opens files r ≡ Ok session
    pub fresh : media.tells → records r ≡ true → ¬ (TakesAreThere files session)
    pub wrong : inputs.tells → input_head session (inputs.left heard) ≡ Err (wrong_of why)

  -- **And each refusal is told only where it is so.**
  pub record IsWrongAsTold (media : MediaOutside V) (inputs : SourceOutside I) (files : Files) (heard : I) (r : Request) (s : Status) : Type 0 where
    pub session : media.tells → (why : SessionRefusal) → s ≡ Session why → opens files r ≡ Err (SessionRefused why)
    pub source : media.tells → (name : List ℕ) (why : FileRefusal) → s ≡ SourceFile name why → opens files r ≡ Err (SourceRefused name (why_of why))
    pub takes : (name : List ℕ) → s ≡ TakesExist name → IsTaken media files r name
    pub input : (why : InputRefusal) → s ≡ BadInput why → IsMisheard media inputs files heard r why

  -- exactly what is wrong is told
  pub record IsTold (media : MediaOutside V) (inputs : SourceOutside I) (files : Files) (heard : I) (r : Request) (s : Status) : Type 0 where
    pub wrong : TellsWrong media inputs files heard r s
    pub only : IsWrongAsTold media inputs files heard r s
