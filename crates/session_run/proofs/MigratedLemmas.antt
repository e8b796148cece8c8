-- The text of a migrate.
use Rattle.std.proofs.Common.{◌≡◌, ◌∙◌, List, ℕ, ap}
use Rattle.std.specs.Prelude.{Ok}
use Rattle.ses_io.specs.Outside.{MediaOutside}
use Rattle.session_model.specs.declared.session.Session.{Session}
use Rattle.session_walk.specs.Section.{Read}
use Rattle.session_walk.specs.Text.{document}
use Rattle.session_toml.specs.Session.{session as read_as}
use Rattle.session_text.specs.Session.{as_read, session_table}
use Rattle.session_opening.specs.Answers.{IsRead}
use Rattle.session_text.proofs.SessionLaws.{read_sessions_stay}
use Rattle.session_run.specs.Migrated.{IsOfFile, IsMigratedText}

-- a session that was read is read of its text again
pub own_text : {M : Type 0} (media : MediaOutside M) (before : M) (name : List ℕ) (s : Session) → IsRead s → IsOfFile media before name s → (text : List ℕ) → read_as text ≡ Ok (as_read s) →
    document text ≡ Ok (session_table s) → IsMigratedText media before name text
own_text media before name s read of_file text back keys = record {
  session = s;
  of_file = of_file;
  is_text = record { reads = back ∙ (let f : Session → Read Session = λ t. Ok t in ap f (read_sessions_stay read.0 s read.1)); keys = keys };
}
