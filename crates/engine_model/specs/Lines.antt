-- Control, line by line: how its bytes are cut into lines, what a line says, and which edits are accepted of lines (own).
use Rattle.std.specs.Prelude.{ℕ, Bool, ◌&&◌, ◌==◌, nat_le, not, if◌then◌else◌, List, [], ◌∷◌, ◌++◌, length, map, take, reverse, is_ok}
use Rattle.session_model.specs.declared.session.Session.{Session}
use Rattle.session_model.specs.declared.edit.Edit.{Edit}
use Rattle.engine_model.specs.Edits.{is_quit, has_quit}
use Rattle.engine_model.specs.Editions.{edition, apply}
use Rattle.engine_model.specs.Plain.{Command, Do, Wait, Sync}

-- why a line isn't read; words count from 1, the command being the first
pub data LineRefusal : Type 0 where
  Long : LineRefusal
  NotText : LineRefusal
  NotCommand : LineRefusal
  -- the line has so many words, and its command takes another number
  Words : ℕ → LineRefusal
  -- the word that isn't of its form
  BadName : ℕ → LineRefusal
  Number : ℕ → LineRefusal
  Choice : ℕ → LineRefusal

pub data Line : Type 0 where
  -- no word, or a comment
  Nothing : Line
  Says : Command → Line
  Unread : LineRefusal → Line

-- ---- from bytes to lines

-- one carriage return before a line's end is dropped; the line stands with its last byte first
abbrev pub without_return : List ℕ → List ℕ
without_return [] = []
without_return (b ∷ line) = if b == 13 then line else b ∷ line

-- the lines of bytes that follow those of a line begun, which stands with its last byte first: a line ends at a line feed, and
-- the last one may end with the bytes
abbrev pub lines_from : List ℕ → List ℕ → List (List ℕ)
lines_from [] [] = []
lines_from (b ∷ line) [] = reverse (b ∷ line) ∷ []
lines_from line (b ∷ bytes) = if b == 10 then reverse (without_return line) ∷ lines_from [] bytes else lines_from (b ∷ line) bytes

-- no more bytes than these are read of control
abbrev pub control_limit : ℕ
control_limit = 16777216

-- the lines of control; `parse` says what one line says
abbrev pub lines_of : (List ℕ → Line) → List ℕ → List Line
lines_of parse bytes = map parse (lines_from [] (take control_limit bytes))

-- ---- which edits are accepted

-- an edit is accepted after others
abbrev pub accepts_after : Session → List Edit → Edit → Bool
accepts_after session edits edit = is_ok (apply (edition session edits (length edits)) edit)

-- the edits that stand after the lines, each accepted in its turn, up to and with a quit
abbrev pub accepted_from : Session → List Edit → List Line → List Edit
accepted_from session edits [] = edits
accepted_from session edits (Nothing ∷ ls) = accepted_from session edits ls
accepted_from session edits (Unread why ∷ ls) = accepted_from session edits ls
accepted_from session edits (Says (Wait n) ∷ ls) = accepted_from session edits ls
accepted_from session edits (Says Sync ∷ ls) = accepted_from session edits ls
accepted_from session edits (Says (Do edit) ∷ ls) = if accepts_after session edits edit
    then (if is_quit edit then edits ++ edit ∷ [] else accepted_from session (edits ++ edit ∷ []) ls)
    else accepted_from session edits ls

abbrev pub accepted_of : Session → List Line → List Edit
accepted_of session lines = accepted_from session [] lines

-- control gave all the bytes that are read of it, and no quit was accepted in them
abbrev pub is_too_long : (List ℕ → Line) → Session → List ℕ → Bool
is_too_long parse session bytes = let edits = accepted_of session (lines_of parse bytes) in
    nat_le control_limit (length bytes) && not (has_quit edits (length edits))

-- the commands of lines
abbrev pub commands_of : List Line → List Command
commands_of [] = []
commands_of (Nothing ∷ ls) = commands_of ls
commands_of (Says command ∷ ls) = command ∷ commands_of ls
commands_of (Unread why ∷ ls) = commands_of ls
