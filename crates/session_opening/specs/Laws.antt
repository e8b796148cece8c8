-- What holds of all that is opened, and of each refusal.
use Rattle.std.specs.Prelude.{◌≡◌, ℕ, ◌<◌, List, slice_get, Some, IsOk, Ok, Err}
use Rattle.ses_io.specs.Files.{Files}
use Rattle.session_model.specs.declared.session.Session.{Session}
use Rattle.session_model.specs.declared.session.SourceDecl.{SourceDecl}
use Rattle.session_model.specs.Valid.{IsValid}
use Rattle.audio_source.specs.Refusals.{SourceRefusal, source_head}
use Rattle.session_opening.specs.Plan.{SourceRefused, read_session, session_plan}

-- A session that is opened: it is that of its file and valid, and each source's file has its head.
pub record IsOpen (files : Files) (name : List ℕ) (s : Session) : Type 0 where
  pub session : read_session (files name) ≡ Ok s
  pub valid : IsValid s
  pub heads : (i : ℕ) (d : SourceDecl) → slice_get s.sources.items i ≡ Some d → IsOk (source_head s.rate d.channels (files d.file))

-- a session that is opened is valid, and its sources are there
abbrev pub OpenIsValid : Type 0
OpenIsValid = (files : Files) (name : List ℕ) (s : Session) → session_plan files name ≡ Ok s → IsOpen files name s

-- The source at this place has this name, it isn't opened for this reason, and all before it are.
pub record IsFirst (files : Files) (rate : ℕ) (list : List SourceDecl) (called : List ℕ) (why : SourceRefusal) (place : ℕ) (d : SourceDecl) : Type 0 where
  pub at : slice_get list place ≡ Some d
  pub name : d.name ≡ called
  pub refused : source_head rate d.channels (files d.file) ≡ Err why
  pub before : (i : ℕ) (q : SourceDecl) → i < place → slice_get list i ≡ Some q → IsOk (source_head rate q.channels (files q.file))

-- A source of this session isn't opened, the first of them.
pub record FirstOf (files : Files) (name called : List ℕ) (why : SourceRefusal) (s : Session) : Type 0 where
  pub session : read_session (files name) ≡ Ok s
  pub valid : IsValid s
  pub first : (place : ℕ) × (d : SourceDecl) × IsFirst files s.rate s.sources.items called why place d

-- a source is refused only of a session that is valid, and it is the first
abbrev pub RefusedIsFirst : Type 0
RefusedIsFirst = (files : Files) (name called : List ℕ) (why : SourceRefusal) → session_plan files name ≡ Err (SourceRefused called why) →
    (s : Session) × FirstOf files name called why s
