-- What control answers, whatever letters a run is made of.
use Rattle.std.specs.Prelude.{◌≡◌, ℕ, true, List, [], reverse, None}
use Rattle.std.specs.List.{list_all}
use Rattle.session_model.specs.declared.session.Session.{Session}
use Rattle.engine_model.specs.Lines.{Line, accepted_of}
use Rattle.engine_model.specs.Replies.{AreReplies, is_acknowledged}
use Rattle.machine_model.specs.Letters.{Letter, begins, by_letters}

-- once no line is left, the edits are those that the lines make
abbrev pub EditsAreThoseOfLines : Type 0
EditsAreThoseOfLines = (session : Session) (cycles : ℕ) (lines : List Line) (letters : List Letter) → let m = by_letters session cycles (begins session lines) letters in
    m.control.lines ≡ [] → m.core.edits ≡ accepted_of session lines

-- and once nothing is waited for either, the replies are replies to the lines
abbrev pub RepliesAreThoseOfLines : Type 0
RepliesAreThoseOfLines = (session : Session) (cycles : ℕ) (lines : List Line) (letters : List Letter) → let m = by_letters session cycles (begins session lines) letters in
    m.control.lines ≡ [] → m.control.awaits ≡ None → AreReplies session [] lines (reverse m.control.replies)

-- at any time each reply is true of the journal and of what was acknowledged to control
abbrev pub RepliesAreTrue : Type 0
RepliesAreTrue = (session : Session) (cycles : ℕ) (lines : List Line) (letters : List Letter) → let m = by_letters session cycles (begins session lines) letters in
    list_all (is_acknowledged m.core.to_control.sent (reverse m.core.entries)) m.control.replies ≡ true
