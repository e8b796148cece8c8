-- What each answer says of what is opened, and what ties it to the media's count of failed reads.
use Rattle.std.specs.Prelude.{◌≡◌, ℕ, ◌≤◌, false, List, [], slice_get, Option, Some, None, Result, Ok, Err}
use Rattle.ses_io.specs.Faults.{risen}
use Rattle.ses_io.specs.Files.{Files}
use Rattle.ses_io.specs.Outside.{MediaOutside}
use Rattle.session_model.specs.declared.session.SourceDecl.{SourceDecl}
use Rattle.session_model.specs.declared.session.Session.{Session as Opening}
use Rattle.session_model.specs.Valid.{IsValid}
use Rattle.edition_log.specs.EditionState.{IsEditionOf}
use Rattle.session_walk.specs.declared.fault.SessionFault.{SessionFault}
use Rattle.session_walk.specs.declared.fault.SessionFault.TheVariants as fault
use Rattle.session_toml.specs.Session.{session as read_as}
use Rattle.audio_source.specs.declared.refusal.FileRefusal.{FileRefusal}
use Rattle.audio_source.specs.Opened.{IsListed, IsOpened}
use Rattle.audio_source.specs.Refusals.{why_of}
use Rattle.session_opening.specs.declared.loading.Loaded.{Loaded}
use Rattle.session_opening.specs.declared.unopened.Unopened.{Unopened}
use Rattle.session_opening.specs.declared.unopened.Unopened.TheVariants.{Session, Source, ReadFault, NoMemory}
use Rattle.session_opening.specs.declared.no_session.NoSession.{NoSession}
use Rattle.session_opening.specs.declared.no_session.NoSession.TheVariants as no_session
use Rattle.session_opening.specs.declared.reading.Unread.{Unread}
use Rattle.session_opening.specs.declared.reading.Unread.TheVariants as unread
use Rattle.session_opening.specs.Plan as wrong
use Rattle.session_opening.specs.Plan.{Open}

-- ---- exactly what is opened

-- a failed read, and want of memory, say nothing of it
abbrev pub Refuses : {A : Type 0} → Open A → Unopened → Type 0
Refuses given (Session refusal) = given ≡ Err (wrong.SessionRefused refusal)
Refuses given (Source name why) = given ≡ Err (wrong.SourceRefused name (why_of why))
Refuses given ReadFault = Unit {0}
Refuses given NoMemory = Unit {0}

-- what is opened, as the code has it, or the first thing that is wrong
abbrev pub Gives : {A B : Type 0} → (B → A) → Open A → Result B Unopened → Type 0
Gives view given (Ok b) = given ≡ Ok (view b)
Gives view given (Err why) = Refuses given why

-- why there is no session, as an opening says it
abbrev pub unopened : NoSession → Unopened
unopened (no_session.Refused refusal) = Session refusal
unopened no_session.ReadFault = ReadFault
unopened no_session.NoMemory = NoMemory

-- some text is read as this session
abbrev pub IsRead : Opening → Type 0
IsRead s = (text : List ℕ) × (read_as text ≡ Ok s)

-- what a session's file is read as, or the first thing that is wrong
abbrev pub GivesSession : {A B : Type 0} → (B → A) → Open A → Result B NoSession → Type 0
GivesSession view given (Ok b) = given ≡ Ok (view b)
GivesSession view given (Err why) = Refuses given (unopened why)

-- ---- what is opened, for every media

-- Edition 0 of a session that the engine plays, and its sources as they were declared.
pub record IsLoaded (o : Loaded) : Type 0 where
  -- the state of its session before any edit
  pub edition : IsEditionOf o.edition.session o.edition
  pub edits : o.edition.edits ≡ []
  -- an edit may follow
  pub ended : o.edition.ended ≡ false
  pub valid : IsValid o.edition.session
  -- each source has the name, the rate and the channels that were declared
  pub listed : IsListed o.edition.session.rate o.edition.session.sources.items o.sources.opened
  -- no line of them is held yet
  pub held : o.sources.held ≡ []

-- each source has the head of its file
abbrev pub HasHeads : Files → Loaded → Type 0
HasHeads files o = IsOpened files o.edition.session.rate o.edition.session.sources.items o.sources.opened

-- ---- refusals

-- the refusal of the source at this place; a place of no source says nothing
abbrev pub refusal_of : Option SourceDecl → FileRefusal → Unopened
refusal_of (Some d) why = Source d.name why
refusal_of None why = NoMemory

abbrev pub refusal_at : List SourceDecl → ℕ → FileRefusal → Unopened
refusal_at sources place why = refusal_of (slice_get sources place) why

-- ---- causes

-- a failed read is answered only where the count rose; else it stays
abbrev pub Caused : {V A : Type 0} → MediaOutside V → V → V → Result A Unopened → Type 0
Caused outside old new (Ok a) = outside.read_faults new ≡ outside.read_faults old
Caused outside old new (Err ReadFault) = risen (outside.read_faults old) ≤ outside.read_faults new
Caused outside old new (Err (Session refusal)) = outside.read_faults new ≡ outside.read_faults old
Caused outside old new (Err (Source name why)) = outside.read_faults new ≡ outside.read_faults old
Caused outside old new (Err NoMemory) = outside.read_faults new ≡ outside.read_faults old

-- the same of a session's file
abbrev pub CausedSession : {V A : Type 0} → MediaOutside V → V → V → Result A NoSession → Type 0
CausedSession outside old new (Ok a) = outside.read_faults new ≡ outside.read_faults old
CausedSession {A} outside old new (Err why) = Caused {A = A} outside old new (Err (unopened why))

abbrev pub by_read : Unread → NoSession
by_read unread.Fault = no_session.ReadFault
by_read unread.NoMemory = no_session.NoMemory

abbrev pub by_text : SessionFault → NoSession
by_text (fault.Refused refusal) = no_session.Refused refusal
by_text fault.NoMemory = no_session.NoMemory
