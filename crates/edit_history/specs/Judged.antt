-- What clauses on entries speak of and no code holds.
use Rattle.std.specs.Prelude.{List}
use Rattle.session_model.specs.declared.session.Session.{Session}
use Rattle.engine_model.specs.Journal.{Entry}

-- the session as it was opened, and the entries so far, newest first
pub record Judged : Type 0 where
  pub session : Session
  pub entries : List Entry
