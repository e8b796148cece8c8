-- A run in which nothing of butler and process has failed, on the core machine.
use Rattle.std.specs.Prelude.{◌≡◌, ℕ, true, List, ◌++◌, reverse}
use Rattle.session_model.specs.declared.session.Session.{Session}
use Rattle.cycle_journal.specs.JournalView.{seen_entries}
use Rattle.engine_model.specs.Lines.{Line, commands_of}
use Rattle.engine_model.specs.Plain.{plain_run}
use Rattle.engine_model.specs.Replies.{Reply, plain_replies}
use Rattle.machine_model.specs.Letters.{Letter, Machine, begins, by_letters}
use Rattle.machine_model.specs.Rest.{is_rest}
use Rattle.run_end.specs.declared.parting.RunEnd.{RunEnd}
use Rattle.engine_core.specs.MachineEnds.{IsLeftBy}

module _ {M I W : Type 0} where
  -- **The run is the core machine's**: with these lines, by these letters and then by letters that are its serial rest, it comes to a
  -- state that has the journal, the edits, the rings and the replies of the run.
  pub record IsTheMachines (s : Session) (cycles : ℕ) (lines : List Line) (letters : List Letter) (replies : List Reply) (ended : RunEnd M I W) : Type 0 where
    pub rest : List Letter
    pub is_rest_of : is_rest s cycles (by_letters s cycles (begins s lines) letters) rest ≡ true
    pub machine : Machine
    pub ends : by_letters s cycles (begins s lines) (letters ++ rest) ≡ machine
    pub left : IsLeftBy s machine.core ended
    pub replies_are : reverse machine.control.replies ≡ replies

  -- **It is the plain run of its lines**: journal and replies are a function of them.
  pub record IsPlain (s : Session) (cycles : ℕ) (lines : List Line) (replies : List Reply) (ended : RunEnd M I W) : Type 0 where
    pub journal : seen_entries ended.journal.items ≡ reverse (plain_run s cycles (commands_of lines)).entries
    pub edits : ended.edits.items ≡ (plain_run s cycles (commands_of lines)).edits
    pub replies_are : replies ≡ plain_replies s cycles lines
