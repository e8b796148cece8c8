-- Control as contracts see it.
use Rattle.std.specs.Prelude.{⊤, ℕ, ◌&&◌, ◌==◌, not, List, [], ◌∷◌, map, Option, Some, None}
use Rattle.session_model.specs.declared.edit.Edit.TheVariants.{Locate, Roll}
use Rattle.ses_io.specs.Outside.{SourceOutside}
use Rattle.engine_model.specs.Lines.{Line, Says, lines_from}
use Rattle.engine_model.specs.Plain.{Do}
use Rattle.edit_script.specs.Reading.{read_line}
use Rattle.control_lines.specs.Lines.{LinesState, at_first, to_come}
use Rattle.control_desk.specs.declared.script.Script.{Script}
use Rattle.control_desk.specs.declared.script.Script.TheVariants as script
use Rattle.control_desk.specs.declared.parts.ControlParts.{ControlParts}
use Rattle.control_desk.specs.Standing.{Standing, Ready, has_quit, read_failed, write_failed}

-- ---- its lines

-- the two lines of an export
abbrev pub export_lines : ℕ → List Line
export_lines from = Says (Do (Locate from)) ∷ Says (Do Roll) ∷ []

-- those that a script has still to say; none where lines are read
abbrev pub script_of : Script → Option (List Line)
script_of script.Absent = None
script_of (script.Locate from) = Some (export_lines from)
script_of script.Roll = Some (Says (Do Roll) ∷ [])
script_of script.Said = Some []

-- what the lines of bytes say
abbrev pub lines_in : List ℕ → List Line
lines_in bytes = map read_line (lines_from [] bytes)

-- whether the lines to come are known
abbrev pub Tells : {C : Type 0} → SourceOutside C → Option (List Line) → Type 0
Tells source None = source.tells
Tells source (Some lines) = ⊤

abbrev pub lines_left : {C : Type 0} → SourceOutside C → LinesState C → Option (List Line) → List Line
lines_left source lines None = lines_in (to_come source lines)
lines_left source lines (Some script) = script

-- ---- control

pub record ControlState (C O : Type 0) : Type 0 where
  -- what its lines are read from
  pub lines : LinesState C
  -- the lines of a script that are still to be said, in place of those that are read
  pub script : Option (List Line)
  -- where the replies go; those to a script go nowhere
  pub out : O
  pub standing : Standing

module _ {C O : Type 0} where
  -- nothing was read yet
  abbrev pub reading : C → O → ControlState C O
  reading source out = record { lines = at_first source; script = None; out = out; standing = Ready }

  abbrev pub scripted : C → O → ℕ → ControlState C O
  scripted source out from = record { lines = at_first source; script = Some (export_lines from); out = out; standing = Ready }

  -- control is long where all bytes were read that may be, and no quit was accepted
  abbrev pub parts_of : ControlState C O → ControlParts C O
  parts_of c = record {
    source = c.lines.source;
    out = c.out;
    read_failed = read_failed c.standing;
    write_failed = write_failed c.standing;
    long = (c.lines.budget == 0) && not (has_quit c.standing);
  }

  -- the lines to come
  abbrev pub ahead : SourceOutside C → ControlState C O → List Line
  ahead source c = lines_left source c.lines c.script
