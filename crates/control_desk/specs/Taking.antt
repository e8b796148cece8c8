-- What the next line leaves of control, before it is carried out.
use Rattle.std.specs.Prelude.{⊤, ◌≡◌, ◌≤◌, Bool, true, false, List, [], ◌∷◌, ◌++◌, Option, Some, None, IsTrue}
use Rattle.ses_io.specs.Outside.{SourceOutside}
use Rattle.engine_model.specs.Edits.{keeps_forms}
use Rattle.engine_model.specs.Lines.{Line, Nothing, Says, Unread}
use Rattle.engine_model.specs.Plain.{Do, Wait, Sync}
use Rattle.edit_script.specs.Reading.{Read, line_of}
use Rattle.edit_script.specs.declared.command.Command.{Command}
use Rattle.control_lines.specs.Lines.{LinesState}
use Rattle.control_desk.specs.State.{ControlState, Tells, ahead}
use Rattle.control_desk.specs.GoesOn.{ReadsLines}

-- the line that was taken, if there was one
abbrev pub taken : Option (Read Command) → List Line
taken None = []
taken (Some answer) = line_of answer ∷ []

-- what is known of every line
abbrev pub IsLegal : Line → Type 0
IsLegal Nothing = ⊤
IsLegal (Says (Do edit)) = IsTrue (keeps_forms edit)
IsLegal (Says (Wait n)) = (1 ≤ n) × (n ≤ 100000)
IsLegal (Says Sync) = ⊤
IsLegal (Unread why) = ⊤

abbrev pub AreLegal : Option (Read Command) → Type 0
AreLegal None = ⊤
AreLegal (Some answer) = IsLegal (line_of answer)

module _ {C : Type 0} where
  -- lines were taken from a script, or were read
  abbrev pub LeavesLines : SourceOutside C → List Line → LinesState C → LinesState C → Bool → Option (List Line) → Option (List Line) → Type 0
  LeavesLines source lines old new fault None None = ReadsLines source lines old new false fault
  LeavesLines source lines old new fault (Some before) (Some after) = (before ≡ lines ++ after) × (new ≡ old) × (fault ≡ false)
  LeavesLines source lines old new fault None (Some after) = ⊥
  LeavesLines source lines old new fault (Some before) None = ⊥

module _ {C O : Type 0} where
  -- a line was taken, or none is left
  pub record TakesNext (source : SourceOutside C) (old : ControlState C O) (said : Option (Read Command)) (new : ControlState C O) : Type 0 where
    pub state : new ≡ record old { lines = new.lines; script = new.script }
    pub lines : LeavesLines source (taken said) old.lines new.lines false old.script new.script
    pub legal : AreLegal said
    pub last : said ≡ None → Tells source old.script → ahead source old ≡ []

  -- a read failed
  pub record TakesNone (source : SourceOutside C) (old new : ControlState C O) : Type 0 where
    pub state : new ≡ record old { lines = new.lines; script = new.script }
    pub lines : LeavesLines source [] old.lines new.lines true old.script new.script
