-- What is said of journals.
use Rattle.std.specs.Prelude.{◌≡◌, ℕ, true, List, ◌++◌}
use Rattle.session_model.specs.declared.session.Session.{Session}
use Rattle.session_model.specs.declared.edit.Edit.{Edit}
use Rattle.engine_model.specs.Editions.{IsAccepted}
use Rattle.engine_model.specs.Journal.{Entry}
use Rattle.engine_model.specs.Fits.{is_lawful}
use Rattle.engine_model.specs.Plain.{Command, accepted, plain}

abbrev pub LawfulStays : Type 0
LawfulStays = (session : Session) (edits more : List Edit) (journal : List Entry) → is_lawful session edits journal ≡ true → is_lawful session (edits ++ more) journal ≡ true

-- the journal of a run on one thread is lawful for the edits that it accepts
abbrev pub PlainIsLawful : Type 0
PlainIsLawful = (session : Session) (cycles : ℕ) (commands : List Command) → is_lawful session (accepted session cycles commands) (plain session cycles commands) ≡ true

abbrev pub AcceptedIsAccepted : Type 0
AcceptedIsAccepted = (session : Session) (cycles : ℕ) (commands : List Command) → IsAccepted session (accepted session cycles commands)
