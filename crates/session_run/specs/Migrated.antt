-- The text of a migrate: the session of a file, written anew.
use Rattle.std.specs.Prelude.{◌≡◌, ℕ, List, Ok}
use Rattle.ses_io.specs.Outside.{MediaOutside}
use Rattle.session_model.specs.declared.session.Session.{Session}
use Rattle.session_opening.specs.Plan.{read_session}
use Rattle.session_walk.specs.Text.{document}
use Rattle.session_toml.specs.Session.{session as read_as}
use Rattle.session_text.specs.Session.{session_table}

-- where the media tells, the session is that of the file
abbrev pub IsOfFile : {M : Type 0} → MediaOutside M → M → List ℕ → Session → Type 0
IsOfFile media before name s = media.tells → read_session (media.files before name) ≡ Ok s

-- A text of a session.
pub record IsTextOf (s : Session) (text : List ℕ) : Type 0 where
  -- it is read as that session
  pub reads : read_as text ≡ Ok s
  -- it has version 2, and every key but that of an input that a track doesn't have
  pub keys : document text ≡ Ok (session_table s)

-- A text of the session of this file.
pub record IsMigratedText {M : Type 0} (media : MediaOutside M) (before : M) (name : List ℕ) (text : List ℕ) : Type 0 where
  pub session : Session
  pub of_file : IsOfFile media before name session
  pub is_text : IsTextOf session text
