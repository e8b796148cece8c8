-- A run on one thread without letters is the plain one: its journal, its edits and its replies.
use Rattle.std.specs.Prelude.{◌≡◌, ℕ, ◌≤◌, true, List, reverse}
use Rattle.session_model.specs.declared.session.Session.{Session}
use Rattle.session_model.specs.Valid.{IsValid}
use Rattle.engine_model.specs.Plain.{plain_run}
use Rattle.engine_model.specs.Lines.{Line, commands_of}
use Rattle.engine_model.specs.Replies.{plain_replies}
use Rattle.machine_model.specs.Letters.{Letter, Machine, begins, by_letters}
use Rattle.machine_model.specs.Rest.{is_rest}

pub record IsPlainRun (session : Session) (cycles : ℕ) (lines : List Line) (m : Machine) : Type 0 where
  pub entries : m.core.entries ≡ (plain_run session cycles (commands_of lines)).entries
  pub edits : m.core.edits ≡ (plain_run session cycles (commands_of lines)).edits
  pub replies : reverse m.control.replies ≡ plain_replies session cycles lines

abbrev pub SerialIsPlain : Type 0
SerialIsPlain = (session : Session) (cycles : ℕ) (lines : List Line) (letters : List Letter) → IsValid session → 1 ≤ cycles → cycles ≤ 100000 →
    is_rest session cycles (begins session lines) letters ≡ true → IsPlainRun session cycles lines (by_letters session cycles (begins session lines) letters)
