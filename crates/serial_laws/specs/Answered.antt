-- What the lines of a run have made so far, whatever lines follow: its edits, and what was answered.
use Rattle.std.specs.Prelude.{◌≡◌, ℕ, true, List, [], ◌++◌, length, reverse, Option, Some, None}
use Rattle.session_model.specs.declared.session.Session.{Session}
use Rattle.session_model.specs.declared.edit.Edit.{Edit}
use Rattle.engine_model.specs.Edits.{has_quit}
use Rattle.engine_model.specs.Lines.{Line, accepted_of, accepted_from}
use Rattle.engine_model.specs.Replies.{Reply, Done, Begin, BeginSynced, AreReplies}
use Rattle.machine_model.specs.Core.{Core}
use Rattle.machine_model.specs.Control.{Awaited, Entries, SettledIn}
use Rattle.serial_laws.specs.Standing.{Standing, MayCome, carried_of, at_first}
use Rattle.serial_laws.specs.Leads.{Carries}

-- what is still to be answered: first what is awaited, and then the lines that are carried out after it
abbrev pub StillToAnswer : Session → Option Awaited → List Edit → List Line → List Reply → Type 0
StillToAnswer s None edits lines later = AreReplies s edits lines later
StillToAnswer s (Some (Entries n)) edits lines later = Begin Done (AreReplies s edits lines) later
StillToAnswer s (Some (SettledIn k)) edits lines later = BeginSynced (length edits) (AreReplies s edits lines) later

-- **What these lines have made**, if more lines follow: the edits, and the replies as far as they were given.
pub record HaveMade (s : Session) (lines : List Line) (st : Standing) (more : List Line) : Type 0 where
  pub accepted : accepted_from s st.core.edits (carried_of st more) ≡ accepted_of s (lines ++ more)
  -- after a quit no line is carried out, and nothing is awaited
  pub ended : has_quit st.core.edits (length st.core.edits) ≡ true → (carried_of st more ≡ []) × (st.awaits ≡ None)
  -- a sync is in the newest edition
  pub newest : (k : ℕ) → st.awaits ≡ Some (SettledIn k) → k ≡ length st.core.edits
  pub replies : (later : List Reply) → StillToAnswer s st.awaits st.core.edits (carried_of st more) later → AreReplies s [] (lines ++ more) (reverse st.replies ++ later)

-- whatever lines may follow
abbrev pub HasAnswered : Session → List Line → Standing → Type 0
HasAnswered s lines st = (more : List Line) → MayCome st more → HaveMade s lines st more

-- ---- laws

abbrev pub NothingIsAnsweredAtFirst : Type 0
NothingIsAnsweredAtFirst = (s : Session) → HasAnswered s [] (at_first s)

-- a letter of control, whatever the workers did before it: its state is one with the same edits and entries
abbrev pub EachLineIsAnswered : Type 0
EachLineIsAnswered = (s : Session) (cycles : ℕ) (lines taken : List Line) (old new : Standing) → Carries s cycles old taken new → HasAnswered s lines old → HasAnswered s (lines ++ taken) new

-- it goes by the edits alone, and by what control awaits and has answered
abbrev pub ItGoesByTheEdits : Type 0
ItGoesByTheEdits = (s : Session) (lines : List Line) (c : Core) (st : Standing) → c.edits ≡ st.core.edits → HasAnswered s lines st → HasAnswered s lines (record st { core = c })

-- once no line follows, the edits are those of the lines, and where nothing is awaited the replies are theirs
pub record AreOfLines (s : Session) (lines : List Line) (st : Standing) : Type 0 where
  pub edits : st.core.edits ≡ accepted_of s lines
  pub replies : st.awaits ≡ None → AreReplies s [] lines (reverse st.replies)

abbrev pub AllIsAnsweredAtTheEnd : Type 0
AllIsAnsweredAtTheEnd = (s : Session) (lines more : List Line) (st : Standing) → st.ended ≡ true → MayCome st more → HasAnswered s lines st → AreOfLines s (lines ++ more) st
