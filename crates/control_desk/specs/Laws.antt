-- Control follows the core machine: what it does with a line is what the machine does.
use Rattle.std.specs.Prelude.{◌≡◌, ℕ, true, false, ◌&&◌, if◌then◌else◌, List, [], ◌∷◌, ◌++◌, Option, Some, None, Result, Ok, Err, is_ok}
use Rattle.session_model.specs.declared.session.Session.{Session}
use Rattle.session_model.specs.declared.edit.Edit.{Edit}
use Rattle.engine_model.specs.Edits.{is_quit}
use Rattle.engine_model.specs.Refusals.{Checked}
use Rattle.engine_model.specs.Editions.{Edition}
use Rattle.engine_model.specs.Lines.{Line, Says}
use Rattle.engine_model.specs.Plain.{Do}
use Rattle.engine_model.specs.Replies.{Reply}
use Rattle.machine_model.specs.Core.{Core}
use Rattle.machine_model.specs.Control.{Awaited, Control, control_done, control_moves, line_done, published, next_line_done, next_published, edit_done}
use Rattle.edit_resolve.specs.declared.reason.Refusal.{Refusal}
use Rattle.edit_resolve.specs.Reason.{refusal_of}
use Rattle.control_desk.specs.declared.progress.Progress.{Progress}
use Rattle.control_desk.specs.Seen.{IsSeenOf, is_over_by, reply_by, edit_of, wait_of, replies_to}
use Rattle.control_desk.specs.Standing.{awaits_of, awaiting}
use Rattle.control_desk.specs.Texts.{edit_reply}

-- control of the core machine, with these lines to come and these replies, the newest first
abbrev pub control : List Line → Option Awaited → List Reply → Control
control lines awaits replies = record { lines = lines; awaits = awaits; replies = replies }

-- what is waited for and isn't over stands, and nothing is published
abbrev pub WhatIsAwaitedStands : Type 0
WhatIsAwaitedStands = (s : Session) (cycles : ℕ) (c : Core) (seen : Progress) (awaited : Awaited) (lines : List Line) (replies : List Reply) → IsSeenOf cycles c seen →
    is_over_by seen awaited ≡ false → let at = control lines (Some awaited) replies in
    (control_done s cycles c at ≡ at) × (control_moves s cycles c at ≡ [])

-- where it is over it is answered, and the next line is carried out
abbrev pub WhatIsOverIsAnswered : Type 0
WhatIsOverIsAnswered = (s : Session) (cycles : ℕ) (c : Core) (seen : Progress) (awaited : Awaited) (lines : List Line) (replies : List Reply) → IsSeenOf cycles c seen →
    is_over_by seen awaited ≡ true → let at = control lines (Some awaited) replies in
    (control_done s cycles c at ≡ next_line_done s cycles c (control lines None (reply_by seen awaited ∷ replies)) lines)
    × (control_moves s cycles c at ≡ next_published s c lines)

-- a line that is no edit is answered or waits, and publishes nothing
abbrev pub LinesAreDone : Type 0
LinesAreDone = (s : Session) (cycles : ℕ) (c : Core) (seen : Progress) (line : Line) (lines : List Line) (replies : List Reply) → IsSeenOf cycles c seen → edit_of line ≡ None →
    (line_done s cycles c (control lines None replies) line ≡ control lines (awaits_of (awaiting seen (wait_of seen line))) (replies_to seen line ++ replies))
    × (published s c line ≡ [])

-- one that gives an edit says just that
abbrev pub EditsAreSaid : Type 0
EditsAreSaid = (line : Line) (edit : Edit) → edit_of line ≡ Some edit → line ≡ Says (Do edit)

-- The core machine's edition made of an edit is what was answered.
abbrev pub IsAnswer : Checked Edition → Result ℕ Refusal → Type 0
IsAnswer (Ok next) (Ok k) = next.number ≡ k
IsAnswer (Ok next) (Err why) = ⊥
IsAnswer (Err why) (Ok k) = ⊥
IsAnswer (Err why) (Err given) = why ≡ refusal_of given

-- the lines that follow an edit: none after an accepted quit
abbrev pub lines_after : Edit → Result ℕ Refusal → List Line → List Line
lines_after edit answer lines = if is_quit edit && is_ok answer then [] else lines

-- an edit that was published is done
abbrev pub EditsAreDone : Type 0
EditsAreDone = (made : Checked Edition) (edit : Edit) (answer : Result ℕ Refusal) (lines : List Line) (replies : List Reply) → IsAnswer made answer →
    edit_done made (is_quit edit) (control lines None replies) ≡ control (lines_after edit answer lines) None (edit_reply answer ∷ replies)
