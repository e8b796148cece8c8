-- An edition: the state of a session after so many accepted edits (own).
use Rattle.std.specs.Prelude.{◌≡◌, ℕ, zero, suc, false, nat_le, List, Option, Some, None, Ok, Err, slice_get, IsOk}
use Rattle.session_model.specs.declared.session.Session.{Session}
use Rattle.session_model.specs.declared.edit.Edit.{Edit}
use Rattle.engine_model.specs.Transport.{Transport, at_rest, moved}
use Rattle.engine_model.specs.Refusals.{Edits, Limit, Checked, ◌>>=◌, refused_if}
use Rattle.engine_model.specs.Changes.{Change, made}
use Rattle.engine_model.specs.Commands.{change_of}

pub record Edition : Type 0 where
  pub session : Session
  pub transport : Transport
  -- how many edits were accepted
  pub number : ℕ

-- the first edition: the session as it was read
abbrev pub opening : Session → Edition
opening session = record { session = session; transport = at_rest; number = 0 }

-- ---- one edit

-- what an accepted edit makes, given what it changes of the session
abbrev pub changed : Edition → Edit → Change → Edition
changed e edit change = record { session = made e.session change; transport = moved e.transport edit; number = suc e.number }

-- the edition after one more edit, or why the edit isn't accepted: none is after 10,000, and then each command has its rules
abbrev pub apply : Edition → Edit → Checked Edition
apply e edit = do
  room ← refused_if (nat_le 10000 e.number) (Limit Edits)
  change ← change_of e.session e.transport.wrap edit
  Ok (changed e edit change)

-- ---- lists of edits

-- what stands after an edit: a refused one changes nothing
abbrev pub taken_up : Edition → Checked Edition → Edition
taken_up e (Ok next) = next
taken_up e (Err why) = e

abbrev pub after_one : Edition → Option Edit → Edition
after_one e None = e
after_one e (Some edit) = taken_up e (apply e edit)

-- edition k of a session: the state after the first k edits
abbrev pub edition : Session → List Edit → ℕ → Edition
edition session edits zero = opening session
edition session edits (suc k) = after_one (edition session edits k) (slice_get edits k)

-- Each edit of the list is accepted in its turn, and none stands after a quit.
pub record IsAccepted (session : Session) (edits : List Edit) : Type 0 where
  pub each : (k : ℕ) (edit : Edit) → slice_get edits k ≡ Some edit → IsOk (apply (edition session edits k) edit)
  pub unended : (k : ℕ) (edit : Edit) → slice_get edits k ≡ Some edit → (edition session edits k).transport.quit ≡ false
